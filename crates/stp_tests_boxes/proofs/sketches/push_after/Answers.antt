use Rattle.std.proofs.Common.{◌≡◌, true, List, [], ◌∷◌, ◌++◌, inl, inr, refl, ap, sym, subst, ◌∙◌}
use Rattle.std.specs.List.{list_all}
use Rattle.std.proofs.lemmas.List.{map-append}
use Rattle.stp_happen.specs.declared.boxes.BoxTimed.{BoxTimed}
use Rattle.stp_happen.specs.Owners.{timed_before}
use Rattle.stp_happen.specs.Sound.{is_ascending}
use Rattle.stp_happen.specs.StepViews.{plain_timed, timed_of}
use Rattle.stp_happen.proofs.Ascending.{joined_ascend}
use Rattle.stp_happen.proofs.Members.{each_passes, member_cases, member_nil}
use Rattle.stp_tests_boxes.proofs.sketches.push_after.Goals as goal

one_more : (events read new : List BoxTimed) (x : BoxTimed) → new ≡ events ++ x ∷ [] → read ≡ events → list_all (λ e. timed_before e (plain_timed x)) (timed_of read) ≡ true → is_ascending timed_before (timed_of events) ≡ true → is_ascending timed_before (timed_of new) ≡ true
one_more events read new x is same after up =
    ap (λ es. is_ascending timed_before (timed_of es)) is
    ∙ (ap (is_ascending timed_before) (map-append plain_timed events (x ∷ []))
    ∙ joined_ascend timed_before (timed_of events) (plain_timed x ∷ []) up refl (λ e f i j. elim (member_cases (plain_timed x) [] f j) [
      | inl k ↦ subst (λ y. timed_before e y ≡ true) k (each_passes (λ y. timed_before y (plain_timed x)) (timed_of events) (subst (λ es. list_all (λ y. timed_before y (plain_timed x)) (timed_of es) ≡ true) same after) e i)
      | inr k ↦ absurd (member_nil f k)
    ]))

pub returns-in_ok-push-clause-ordered : goal.returns-in_ok-push-clause-ordered
returns-in_ok-push-clause-ordered c = one_more c.args.events.now c.as_slice.result.now c.push.new.self c.args.event c.in_ok-push.ensures.ok c.as_slice.ensures (sym c.is_after.ensures ∙ c.if-is_after.true)
