use Rattle.std.proofs.Common.{sym, arith}
use Rattle.stp_schema.specs.Timed.{timed_fact_of}
use Rattle.stp_exec.specs.Fitting.{event_bounds}
use Rattle.stp_exec.proofs.Fits.{bounds_more, bounds_all}
use Rattle.stp_exec.proofs.fit.push_events.Goals as goal

pub loop-event-preserved : goal.loop-event-preserved
loop-event-preserved c =
    bounds_more timed_fact_of event_bounds c.args.bounds.now c.loop-event.bounds c.push_event.new.bounds c.event-item.result c.args.events.now c.loop-event.event-index (omega arith) (sym c.event-item.is) c.in_ok-push_event.ensures c.loop-event.invariant

pub returns : goal.returns
returns c = bounds_all timed_fact_of event_bounds c.args.bounds.now c.loop-event.bounds c.args.events.now c.loop-event.event-index (omega arith) c.loop-event.invariant
