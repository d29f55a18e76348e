use Rattle.std.proofs.Common.{sym, ap, ◌∙◌, arith}
use Rattle.stp_frac.specs.Fractions.{up_to}
use Rattle.stp_exec.proofs.Multiples.{within_from}
use Rattle.stp_exec.proofs.Fits.{met_more, met_beyond, met_all, met_lie}
use Rattle.stp_exec.proofs.fit.join_all.Goals as goal

pub returns-in_default-clause-value : goal.returns-in_default-clause-value
returns-in_default-clause-value c =
    met_beyond c.args.grid c.loop-duration.joint c.loop-duration.duration-index c.duration-item.result c.args.durations.now (omega (arith, c.loop-duration.invariant.low)) (omega arith) (sym c.duration-item.is) (sym c.in_default.is ∙ c.join.ensures.value) c.loop-duration.invariant.met

pub loop-duration-preserved : goal.loop-duration-preserved
loop-duration-preserved c = record {
  met = met_more c.args.grid c.loop-duration.joint c.in-Some.next c.loop-duration.duration-index c.duration-item.result c.args.durations.now (omega (arith, c.loop-duration.invariant.low)) (omega arith) (sym c.duration-item.is) (sym c.in-Some.is ∙ c.join.ensures.value) c.loop-duration.invariant.met;
  low = c.in-Some.ensures.low;
  high = c.in-Some.ensures.high;
}

pub returns-clause-value : goal.returns-clause-value
returns-clause-value c =
    within_from 999999999 c.loop-duration.joint c.loop-duration.invariant.high
    ∙ ap (up_to 999999999) (met_all c.args.grid c.loop-duration.joint c.loop-duration.duration-index c.args.durations.now (omega (arith, c.loop-duration.invariant.low)) (omega arith) c.loop-duration.invariant.met)

pub returns-clause-lies : goal.returns-clause-lies
returns-clause-lies c =
    met_lie c.args.grid c.loop-duration.joint c.args.durations.now (omega (arith, c.requires.low))
    (met_all c.args.grid c.loop-duration.joint c.loop-duration.duration-index c.args.durations.now (omega (arith, c.loop-duration.invariant.low)) (omega arith) c.loop-duration.invariant.met)
