use Rattle.std.proofs.Common.{◌<◌, ◌≤◌, [], ◌∷◌, All, sym, subst, lit<, arith}
use Rattle.std.proofs.lemmas.List.Elements.{All-cons, All-nil}
use Rattle.stp_base.specs.declared.ids.AtomId.{AtomId}
use Rattle.stp_happen.specs.declared.run.Entry.{Entry}
use Rattle.stp_happen.specs.Sound.{IsEntryInRange, IsEventInRange}
use Rattle.stp_tests_boxes.proofs.runs.worked.Goals as goal

none : All (λ (a : AtomId). a.0 < 2) []
none = All-nil (λ a. a.0 < 2)

one : All (λ (a : AtomId). a.0 < 2) (record { 0 = 0 } ∷ [])
one = All-cons (λ a. a.0 < 2) (record { 0 = 0 }) [] (lit< tt) none

all_three : (first second third : Entry) → first.time ≤ 9 → second.time ≤ 9 → third.time ≤ 9 → IsEventInRange 2 first.event → IsEventInRange 2 second.event → IsEventInRange 2 third.event → All (IsEntryInRange 1 2) (first ∷ second ∷ third ∷ [])
all_three first second third a b c e f g =
    All-cons (IsEntryInRange 1 2) first (second ∷ third ∷ []) (record { time = omega arith; event = e })
    (All-cons (IsEntryInRange 1 2) second (third ∷ []) (record { time = omega arith; event = f })
    (All-cons (IsEntryInRange 1 2) third [] (record { time = omega arith; event = g }) (All-nil (IsEntryInRange 1 2))))

pub run-requires-clause-in_range : goal.run-requires-clause-in_range
run-requires-clause-in_range c =
    subst (All (IsEntryInRange 1 2)) (sym c.in_ok-entries.ensures)
    (all_three _ _ _ (omega arith) (omega arith) (omega arith) (c.in_ok-conjunctive_event.ensures.in_range 2 none none none) (c.in_ok-conjunctive_event-3.ensures.in_range 2 one none none) (c.in_ok-conjunctive_event-2.ensures.in_range 2 none one none))

pub run-requires-else-case-lt4-clause-in_range : goal.run-requires-else-case-lt4-clause-in_range
run-requires-else-case-lt4-clause-in_range c =
    subst (All (IsEntryInRange 1 2)) (sym c.in_ok-entries-2.ensures)
    (all_three _ _ _ (omega arith) (omega arith) (omega arith) (c.in_ok-conjunctive_event.ensures.in_range 2 none none none) (c.in_ok-conjunctive_event-2.ensures.in_range 2 none one none) (c.in_ok-conjunctive_event-3.ensures.in_range 2 one none none))
