use Rattle.std.proofs.Common.{sym, ap, ◌∙◌, arith, refl}
use Rattle.stp_frac.specs.Fractions.{up_to}
use Rattle.stp_schema.specs.Timed.{timed_fact_of}
use Rattle.stp_exec.specs.Timed.{event_denominators}
use Rattle.stp_exec.proofs.Multiples.{within_from}
use Rattle.stp_exec.proofs.Joining.{joined_more, joined_beyond, joined_all}
use Rattle.stp_exec.proofs.TimedSteps.{event_positive}
use Rattle.stp_exec.proofs.grid.join_events.Goals as goal

pub loop-event-init : goal.loop-event-init
loop-event-init c = record { joined = refl; low = c.requires.low; high = c.requires.high }

pub returns-in_default-clause-value : goal.returns-in_default-clause-value
returns-in_default-clause-value c =
    joined_beyond timed_fact_of event_denominators event_positive c.args.grid c.loop-event.joint c.loop-event.event-index c.event-item.result c.args.events.now (omega (arith, c.loop-event.invariant.low)) (omega arith) (sym c.event-item.is) (sym c.in_default.is ∙ c.join_event.ensures.value) c.loop-event.invariant.joined

pub loop-event-preserved : goal.loop-event-preserved
loop-event-preserved c = record {
  joined = joined_more timed_fact_of event_denominators event_positive c.args.grid c.loop-event.joint c.in-Some.next c.loop-event.event-index c.event-item.result c.args.events.now (omega (arith, c.loop-event.invariant.low)) (omega arith) (sym c.event-item.is) (sym c.in-Some.is ∙ c.join_event.ensures.value) c.loop-event.invariant.joined;
  low = c.in-Some.ensures.low;
  high = c.in-Some.ensures.high;
}

pub returns-clause-value : goal.returns-clause-value
returns-clause-value c =
    within_from 999999999 c.loop-event.joint c.loop-event.invariant.high
    ∙ ap (up_to 999999999) (joined_all timed_fact_of event_denominators event_positive c.args.grid c.loop-event.joint c.loop-event.event-index c.args.events.now (omega (arith, c.loop-event.invariant.low)) (omega arith) c.loop-event.invariant.joined)
