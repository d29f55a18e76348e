use Rattle.std.proofs.Common.{sym, ap, ◌∙◌, subst}
use Rattle.stp_refusal.specs.First.{first_of}
use Rattle.stp_schema.specs.Timed.{AreTimedFacts}
use Rattle.stp_problem.specs.Events.{events_at, open_items, times_read, too_many}
use Rattle.stp_problem.specs.TimedViews.{timed_items_of, times_of}
use Rattle.stp_problem.proofs.Accepting.{found_none}
use Rattle.stp_problem.proofs.Lawful.{items_lawful}
use Rattle.stp_problem.proofs.events.read_events.Goals as goal

pub returns-clause-lawful : goal.returns-clause-lawful
returns-clause-lawful c =
    let plain = timed_items_of c.args.items.now in
    let times = ap times_of c.as_slice-2.ensures.value ∙ c.in_ok-times.ensures.same in
    subst AreTimedFacts (sym (c.in_ok-events.ensures ∙ ap (λ ts. events_at ts plain) times))
    (items_lawful c.args.items.now
    (found_none _ (times_read plain).offences c.in_ok-times.ensures.first (sym c.end_phase.ensures ∙ c.in_ok-end_phase.was))
    (found_none _ (too_many (open_items plain)) (c.judge_open.ensures ∙ ap (λ is. first_of (too_many is)) (ap timed_items_of c.as_slice.ensures ∙ c.in_ok-others.ensures)) (sym c.end_phase-2.ensures ∙ c.in_ok-end_phase-2.was)))
