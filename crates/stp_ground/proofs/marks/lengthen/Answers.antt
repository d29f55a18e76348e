use Rattle.std.proofs.Common.{◌∙◌, ap, arith}
use Rattle.stp_instance.specs.Numbered.{is_fluent}
use Rattle.stp_ground.proofs.Marking.{lengthened}
use Rattle.stp_ground.proofs.marks.lengthen.Goals as goal

pub returns-in_ok-resize-clause-same : goal.returns-in_ok-resize-clause-same
returns-in_ok-resize-clause-same c = ap is_fluent c.in_ok-resize.ensures.items ∙ lengthened c.args.marks.now.items c.args.count _ (omega arith)
