-- The first are possible.
use Rattle.std.proofs.Common.{length, ◌-◌}
use Rattle.stp_relax.specs.Seen.{AreMet}
use Rattle.stp_relax.specs.Taken.{pair_so_far}
use Rattle.stp_relax.proofs.taking.are_possible.Given as goal

abbrev pub invariant-loop-part : goal.invariant-loop-part
invariant-loop-part l = AreMet (pair_so_far l.progress) l.met l.parts

abbrev pub decreases-loop-part : goal.decreases-loop-part
decreases-loop-part l = length l.parts - l.met
