-- What is known is part of each closed pair, and what is possible without the noted atoms is allowed.
use Rattle.stp_relax.specs.Seen.{AreSeen}
use Rattle.stp_relax.specs.Taken.{left, pair_so_far}
use Rattle.stp_relax.proofs.Rounds.{IsUnderWay}
use Rattle.stp_relax.proofs.reaching.reached.Given as goal

abbrev pub invariant-loop-atom : goal.invariant-loop-atom
invariant-loop-atom l = record {
  way : IsUnderWay l.task l.progress;
  seen : AreSeen (pair_so_far l.progress) l.actions l.seen.items;
}

abbrev pub decreases-loop-atom : goal.decreases-loop-atom
decreases-loop-atom l = left l.progress
