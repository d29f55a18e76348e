use Rattle.stp_happen.specs.StepViews.{steps_of, timed_of}
use Rattle.stp_window.specs.Points.{point_at}
use Rattle.stp_window.proofs.PlacedPoints.{point_goes_up, test_told, both_told}
use Rattle.stp_window.proofs.points.may_meet.Goals as goal

pub returns-clause-windows : goal.returns-clause-windows
returns-clause-windows c =
    let steps = steps_of c.args.boxed.now.steps in
    let timed = timed_of c.args.boxed.now.timed in
    let a = c.window_of.result in
    let b = c.window_of-2.result in
    test_told (point_at steps timed c.args.one) (point_at steps timed c.args.other) c.bounds_meet.result a.low a.high b.low b.high c.bounds_meet.ensures c.window_of.ensures c.window_of-2.ensures

pub returns-clause-moment : goal.returns-clause-moment
returns-clause-moment c =
    let boxed = c.args.boxed.now in
    let steps = steps_of boxed.steps in
    let timed = timed_of boxed.timed in
    let a = c.window_of.result in
    let b = c.window_of-2.result in
    both_told (point_at steps timed c.args.one) (point_at steps timed c.args.other) c.bounds_meet.result (point_goes_up boxed c.args.one) (point_goes_up boxed c.args.other)
    (test_told (point_at steps timed c.args.one) (point_at steps timed c.args.other) c.bounds_meet.result a.low a.high b.low b.high c.bounds_meet.ensures c.window_of.ensures c.window_of-2.ensures)
