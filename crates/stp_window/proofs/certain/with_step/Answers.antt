use Rattle.std.proofs.Common.{◌++◌, ◌∷◌, [], refl, ap}
use Rattle.stp_cond.specs.Events.{event_of}
use Rattle.stp_happen.specs.StepViews.{some_event_of, step_of}
use Rattle.stp_window.proofs.Later.{first_of, last_of, two_events, one_event}
use Rattle.stp_window.proofs.certain.with_step.Goals as goal

pub returns-in-Some : goal.returns-in-Some
returns-in-Some c =
    λ seen number so_far.
    let s = step_of c.args.step.now in
    let first = first_of number s in
    let event = event_of c.in-Some.event in
    two_events seen c.args.atom.0 c.args.time number s event c.with_event.result (ap some_event_of c.in-Some.is)
    (c.with_event.ensures (seen ++ first ∷ []) (last_of number s event) refl refl (c.with_event-with_first.ensures seen first refl refl so_far))

pub returns-in-None : goal.returns-in-None
returns-in-None c =
    λ seen number so_far.
    let s = step_of c.args.step.now in
    one_event seen c.args.atom.0 c.args.time number s c.with_event-with_first.result (ap some_event_of c.in-None.is) (c.with_event-with_first.ensures seen (first_of number s) refl refl so_far)
