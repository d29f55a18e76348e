use Rattle.stp_types.proofs.Marking.{visit_loop, visit_none}
use Rattle.stp_types.proofs.loops.visit.Goals as goal

pub returns-then-marks-end : goal.returns-then-marks-end
returns-then-marks-end c = visit_loop c.args.parents.now c.requires.table c.args.start c.requires.there c.args.marks.now c.climb-end.new.marks c.args.looped.now c.climb-end.result c.requires.visited c.climb-end.ensures c.circle.new.looped c.if-marks-end.true c.circle.ensures

pub returns-else-marks-end : goal.returns-else-marks-end
returns-else-marks-end c = visit_none c.args.parents.now c.requires.table c.args.start c.requires.there c.args.marks.now c.climb-end.new.marks c.args.looped.now c.climb-end.result c.requires.visited c.climb-end.ensures c.if-marks-end.false
