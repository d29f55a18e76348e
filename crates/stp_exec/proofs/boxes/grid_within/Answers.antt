use Rattle.std.proofs.Common.{map, ap, ◌∙◌}
use Rattle.stp_exec.specs.Timed.{plain_timed, first_too_late}
use Rattle.stp_exec.specs.TimeViews.{plain_times}
use Rattle.stp_exec.proofs.Limits.{fine_beyond, none_beyond, all_timely}
use Rattle.stp_exec.proofs.boxes.grid_within.Goals as goal

pub returns-in_default-clause-limits : goal.returns-in_default-clause-limits
returns-in_default-clause-limits c = fine_beyond (plain_times c.args.times.now) c.in_default.ensures.value

pub returns-clause-limits : goal.returns-clause-limits
returns-clause-limits c =
    none_beyond (plain_times c.args.times.now) c.in-Some.grid c.in-Some.ensures.base c.in-Some.ensures.high
    (c.in_default-first_late.ensures ∙ ap (λ l. first_too_late (map plain_timed l)) c.deref.ensures.value)

pub returns-clause-timely : goal.returns-clause-timely
returns-clause-timely c =
    all_timely c.in-Some.grid c.args.times.now.steps.items c.in-Some.ensures.steps
    (c.in_default-first_late.ensures ∙ ap (λ l. first_too_late (map plain_timed l)) c.deref.ensures.value)
