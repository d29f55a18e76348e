use Rattle.std.proofs.Common.{ap, ◌++◌, ◌∙◌, map}
use Rattle.stp_frac.specs.Fractions.{value_of}
use Rattle.stp_schema.specs.Timed.{timed_facts_of}
use Rattle.stp_kept.specs.KeptTasks.{bounds_of_instances, event_times}
use Rattle.stp_kept.specs.Views.{instance_views}
use Rattle.stp_kept.proofs.TaskTimes.{lie_where}
use Rattle.stp_kept.proofs.timing.grid_of_all.Goals as goal

pub returns-clause-lie : goal.returns-clause-lie
returns-clause-lie c =
    let events = timed_facts_of c.args.events.now in
    let bounds = bounds_of_instances (instance_views c.args.instances.now) in
    lie_where c.deref.result.now bounds events c.grid_of.result
    (ap (map value_of) c.deref.ensures.value ∙ c.in_ok-put_times.ensures
    ∙ ap (λ l. l ++ event_times events) (c.in_ok-put_all_bounds.ensures ∙ ap (λ l. map value_of l ++ bounds) c.new-times.ensures.items))
    c.grid_of.ensures.value
