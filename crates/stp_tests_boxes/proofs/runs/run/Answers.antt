use Rattle.std.proofs.Common.{◌≡◌, ◌≤◌, true, nat_lt, length, List, [], ◌∷◌, All, refl, sym, ap, subst, ◌∙◌, arith}
use Rattle.std.proofs.lemmas.List.Elements.{All-cons, All-nil}
use Rattle.stp_cond.proofs.EventLists.{below_from_All}
use Rattle.stp_cond.specs.Truth.{is_below}
use Rattle.stp_happen.specs.declared.run.Span.{Span}
use Rattle.stp_happen.specs.Sound.{IsEntryInRange, IsSpanInRange, is_ascending, span_before}
use Rattle.stp_tests_boxes.proofs.runs.run.Goals as goal

in_order : (spans : List Span) (s o : Span) → spans ≡ s ∷ o ∷ [] → s.step.0 ≡ 1 → o.step.0 ≡ 2 → is_ascending span_before spans ≡ true
in_order spans s o e h g = ap (is_ascending span_before) e ∙ rw (h, g)

both_in_range : (s o : Span) → s.from ≤ s.to → s.to ≤ 9 → o.from ≤ o.to → o.to ≤ 9 → is_below 2 s.over.now ≡ true → is_below 2 o.over.now ≡ true → All (IsSpanInRange 1 2) (s ∷ o ∷ [])
both_in_range s o a b c d e f =
    All-cons (IsSpanInRange 1 2) s (o ∷ []) (record { up = a; to = omega arith; over = e })
    (All-cons (IsSpanInRange 1 2) o [] (record { up = c; to = omega arith; over = f }) (All-nil (IsSpanInRange 1 2)))

pub invariant_of-result : goal.invariant_of-result
invariant_of-result c =
    let atoms : length c.in_ok-initial.initial ≡ 2 = ap length c.in_ok-initial.ensures in
    record {
      sound = ∣ record {
        grid_low = omega arith;
        grid_high = omega arith;
        entries_ordered = c.requires.ordered;
        spans_ordered = in_order c.in_ok-spans.spans _ _ c.in_ok-spans.ensures refl refl;
        entries_in_range = subst (λ n. All (IsEntryInRange 1 n) c.args.entries) (sym atoms) c.requires.in_range;
        spans_in_range = subst (λ n. All (IsSpanInRange 1 n) c.in_ok-spans.spans) (sym atoms)
            (subst (All (IsSpanInRange 1 2)) (sym c.in_ok-spans.ensures)
            (both_in_range _ _ (omega arith) (omega arith) (omega arith) (omega arith) (c.in_ok-over.ensures.reads (λ a. nat_lt a 2) ∙ below_from_All 2 c.args.case.over.now c.requires.over) (c.in_ok-nothing.ensures.reads (λ a. nat_lt a 2))));
        goal_in_range = ap (λ n. is_below n c.in_ok-goal.goal.now) atoms ∙ (c.in_ok-goal.ensures.reads (λ a. nat_lt a 2) ∙ below_from_All 2 c.args.case.goal.now c.requires.goal);
      } ∣₁;
    }
