use Rattle.std.proofs.Common.{arith, subst}
use Rattle.stp_happen.specs.Boxes.{IsStrong}
use Rattle.stp_least.specs.Places.{box_at}
use Rattle.stp_least.proofs.Placed.{keeps_low, keeps_high, lower_fits, upper_failing}
use Rattle.stp_least.proofs.Searches.{may_end}
use Rattle.stp_least.proofs.place.halved.Goals as goal

pub with_bounds-requires : goal.with_bounds-requires
with_bounds-requires c =
    may_end c.args.place c.requires.place c.args.failing.low c.args.middle (lower_fits c.args.place c.args.failing c.args.middle c.requires.failing c.requires.low c.requires.high)

pub lowered-requires-clause-fits : goal.lowered-requires-clause-fits
lowered-requires-clause-fits c = lower_fits c.args.place c.args.failing c.args.middle c.requires.failing c.requires.low c.requires.high

pub returns-in-Strong-clause-failing : goal.returns-in-Strong-clause-failing
returns-in-Strong-clause-failing c = upper_failing c.args.place c.args.failing c.args.middle c.requires.place c.requires.failing c.requires.low c.requires.high

-- strong up to the middle, so that the least failure is past it
pub returns-in-Strong-clause-least : goal.returns-in-Strong-clause-least
returns-in-Strong-clause-least c =
    let strong : IsStrong (box_at c.args.place c.args.failing.low c.args.middle) = subst IsStrong c.in_ok-boxed.ensures.same (rw c.in-Strong.is at c.in_ok-strong_by_owners.ensures.verdict) in
    keeps_high c.args.place c.args.failing.low c.args.failing.high c.args.middle c.requires.place c.requires.low c.requires.high strong

-- the high may be lowered to the middle, and then to the end
pub returns-in-Weak-clause-least : goal.returns-in-Weak-clause-least
returns-in-Weak-clause-least c = λ ds l. keeps_low c.args.place c.args.failing.low c.args.failing.high c.args.middle c.requires.place (omega arith) ds (c.lowered.ensures.least ds l)
