-- The table so far, once it has the atoms of the steps that are left, is the table in the end.
use Rattle.stp_ground.specs.Worlds.{problem_in}
use Rattle.stp_exec.proofs.Boxing.{AreNumbered}
use Rattle.stp_exec.proofs.numbering.number_steps.Given as goal

abbrev pub invariant-loop-step : goal.invariant-loop-step
invariant-loop-step l = AreNumbered (problem_in l.world) l.fn.table l.table l.step-index l.placed
