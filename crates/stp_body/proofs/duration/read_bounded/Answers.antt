use Rattle.std.proofs.Common.{refl}
use Rattle.stp_refusal.proofs.Reading.{paired}
use Rattle.stp_body.specs.Durations.{between, backwards}
use Rattle.stp_body.proofs.duration.read_bounded.Goals as goal

pub returns-in_ok-high-in-AtLeast-AtMost : goal.returns-in_ok-high-in-AtLeast-AtMost
returns-in_ok-high-in-AtLeast-AtMost c = rw (c.in-AtLeast-AtMost.is-0, c.in-AtLeast-AtMost.is-1) (paired between _ _ _ _ _ _ _ _ refl c.in_ok-low-in-AtLeast-AtMost.ensures c.in_ok-high-in-AtLeast-AtMost.ensures)

pub returns-in_ok-low-in-AtMost-AtLeast : goal.returns-in_ok-low-in-AtMost-AtLeast
returns-in_ok-low-in-AtMost-AtLeast c = rw (c.in-AtMost-AtLeast.is-0, c.in-AtMost-AtLeast.is-1) (paired backwards _ _ _ _ _ _ _ _ refl c.in_ok-high-in-AtMost-AtLeast.ensures c.in_ok-low-in-AtMost-AtLeast.ensures)
