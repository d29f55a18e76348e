use Rattle.std.proofs.Common.{◌+◌, ◌++◌, map, length, ap, ◌∙◌, sym}
use Rattle.stp_happen.specs.StepViews.{timed_of}
use Rattle.stp_window.specs.Points.{point_at}
use Rattle.stp_window.proofs.NamedPoints.{timed_points, points_of_timed, events_more, events_all}
use Rattle.stp_window.proofs.meetings.push_of_timed.Goals as goal

pub loop-place-preserved : goal.loop-place-preserved
loop-place-preserved c = λ steps.
    let timed = c.args.timed.now in
    events_more steps timed c.loop-place.place c.loop-place-test.true c.loop-place.points c.push.new.self (map (point_at steps (timed_of timed)) c.args.points.now ++ timed_points (length steps + 1) (timed_of timed)) c.in_ok-push.ensures.ok (c.loop-place.invariant steps)

pub returns : goal.returns
returns c = λ steps.
    let timed = c.args.timed.now in
    let given = map (point_at steps (timed_of timed)) c.args.points.now in
    events_all steps timed c.loop-place.place c.loop-place-test.false c.loop-place.points (given ++ timed_points (length steps + 1) (timed_of timed)) (c.loop-place.invariant steps)
    ∙ ap (λ ps. given ++ ps) (sym (points_of_timed (length steps + 1) (timed_of timed)))
