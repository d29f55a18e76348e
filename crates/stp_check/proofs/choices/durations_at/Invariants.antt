-- The durations so far, and those of the owners to come.
use Rattle.std.proofs.Common.{◌≡◌, ◌++◌, drop}
use Rattle.stp_happen.specs.OwnerViews.{plain_owners}
use Rattle.stp_strength.specs.Vectors.{vector_from}
use Rattle.stp_check.specs.Choices.{moment_of}
use Rattle.stp_check.proofs.choices.durations_at.Given as goal

abbrev pub invariant-loop-owner : goal.invariant-loop-owner
invariant-loop-owner l = l.durations ++ vector_from (moment_of l.choice) (plain_owners (drop l.owner-index l.owners)) ≡ vector_from (moment_of l.choice) (plain_owners l.owners)
