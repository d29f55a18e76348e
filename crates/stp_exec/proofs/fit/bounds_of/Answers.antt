use Rattle.std.proofs.Common.{◌++◌, map, flat_map, ap, ◌∙◌}
use Rattle.stp_schema.specs.Timed.{timed_facts_of}
use Rattle.stp_exec.specs.Timed.{plain_timed}
use Rattle.stp_exec.specs.Fitting.{plain_bounds, event_bounds, step_bounds}
use Rattle.stp_exec.proofs.fit.bounds_of.Goals as goal

pub returns : goal.returns
returns c =
    c.in_ok-push_events.ensures
    ∙ ap (λ l. l ++ flat_map event_bounds (timed_facts_of c.args.times.now.events.now))
    (c.in_ok-push_steps.ensures
    ∙ ap (λ l. map plain_bounds l ++ flat_map step_bounds (map plain_timed c.deref.result.now)) c.new-bounds.ensures
    ∙ ap (λ l. flat_map step_bounds (map plain_timed l)) c.deref.ensures.value)
