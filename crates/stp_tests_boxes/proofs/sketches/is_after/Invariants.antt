-- What is left comes before the event where all does.
use Rattle.std.proofs.Common.{◌≡◌, drop}
use Rattle.std.specs.List.{list_all}
use Rattle.stp_happen.specs.Owners.{timed_before}
use Rattle.stp_happen.specs.StepViews.{plain_timed, timed_of}
use Rattle.stp_tests_boxes.proofs.sketches.is_after.Given as goal

abbrev pub invariant-loop-other : goal.invariant-loop-other
invariant-loop-other l = list_all (λ e. timed_before e (plain_timed l.event)) (timed_of (drop l.other-index l.events)) ≡ list_all (λ e. timed_before e (plain_timed l.event)) (timed_of l.events)
