use Rattle.std.proofs.Common.{◌≡◌, ℕ, ◌+◌, ◌≤◌, Bool, not, List, filter, length, All, refl, ap, sym, ◌∙◌, subst, arith}
use Rattle.std.proofs.lemmas.List.{length-map, length-set}
use Rattle.std.proofs.lemmas.List.Filters.{length-filter_both}
use Rattle.stp_cond.specs.Truth.{is_below}
use Rattle.stp_happen.specs.declared.boxes.BoxTimed.{BoxTimed}
use Rattle.stp_happen.specs.SoundBox.{IsBoxStep, IsBoxTimed}
use Rattle.stp_happen.specs.Owners.{PlainBoxTimed}
use Rattle.stp_happen.specs.StepViews.{plain_timed, timed_of}
use Rattle.stp_tests_boxes.proofs.sketches.boxed_in.Goals as goal

few_kept : (kept : PlainBoxTimed → Bool) (events : List BoxTimed) (n : ℕ) → 3 ≤ n → length events ≤ 3 → length (filter kept (timed_of events)) ≤ n
few_kept kept events n l h =
    let both : length (filter kept (timed_of events)) + length (filter (λ e. not (kept e)) (timed_of events)) ≡ length (timed_of events) = length-filter_both kept (λ e. not (kept e)) (λ e. refl) (timed_of events) in
    let same : length (timed_of events) ≡ length events = length-map events plain_timed in
    omega arith

pub invariant_of-result : goal.invariant_of-result
invariant_of-result c =
    let atoms : length c.set-2.new.self ≡ 3 = ap length c.set-2.ensures ∙ (length-set _ _ _ ∙ (ap length c.set.ensures ∙ (length-set _ _ _ ∙ ap length c.in_ok-initial.ensures))) in
    record {
      sound = ∣ record {
        grid_low = omega arith;
        grid_high = omega arith;
        few = omega (arith, c.in_ok-steps.ensures.few);
        few_fixed = few_kept (λ (e : PlainBoxTimed). not e.uncertain) c.in_ok-timed.timed 100 (omega arith) c.in_ok-timed.ensures.few;
        few_chosen = few_kept (λ (e : PlainBoxTimed). e.uncertain) c.in_ok-timed.timed 30 (omega arith) c.in_ok-timed.ensures.few;
        timed_in_range = subst (λ n. All (IsBoxTimed 1 n) c.in_ok-timed.timed) (sym atoms) c.in_ok-timed.ensures.in_range;
        timed_ordered = c.in_ok-timed.ensures.ordered;
        steps_in_range = subst (λ n. All (IsBoxStep 1 n) c.in_ok-steps.steps) (sym atoms) c.in_ok-steps.ensures.in_range;
        goal_in_range = ap (λ n. is_below n c.in_ok-goal.goal.now) atoms ∙ c.in_ok-goal.ensures;
      } ∣₁;
    }
