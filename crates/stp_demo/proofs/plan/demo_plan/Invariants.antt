-- The text has the steps of the rovers so far.
use Rattle.std.proofs.Common.{◌≡◌, ◌&&◌, ◌==◌}
use Rattle.stp_demo.specs.Pieces.{each}
use Rattle.stp_demo.specs.Plan.{steps_text}
use Rattle.stp_demo.proofs.plan.demo_plan.Given as goal

abbrev pub invariant-loop-before : goal.invariant-loop-before
invariant-loop-before l = l.text ≡ each (λ i. steps_text (l.spoiled && (i == l.n)) i) l.before
