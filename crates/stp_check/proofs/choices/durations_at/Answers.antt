use Rattle.std.proofs.Common.{arith}
use Rattle.stp_happen.specs.OwnerViews.{plain_owners}
use Rattle.stp_strength.specs.Vectors.{vector_from}
use Rattle.stp_check.specs.Choices.{moment_of}
use Rattle.stp_check.proofs.Timing.{one_more, owner_goes_up}
use Rattle.stp_check.proofs.choices.durations_at.Goals as goal

pub push_duration-requires : goal.push_duration-requires
push_duration-requires c = owner_goes_up c.args.owners.now c.loop-owner.owner-index c.owner-item.result (omega arith) c.owner-item.is c.requires

-- the owner at hand adds its duration
pub loop-owner-preserved : goal.loop-owner-preserved
loop-owner-preserved c =
    one_more c.args.owners.now c.loop-owner.owner-index c.owner-item.result (omega arith) c.owner-item.is (moment_of c.args.choice)
    c.loop-owner.durations c.push_duration.new.durations (vector_from (moment_of c.args.choice) (plain_owners c.args.owners.now)) c.in_ok-push_duration.ensures c.loop-owner.invariant
