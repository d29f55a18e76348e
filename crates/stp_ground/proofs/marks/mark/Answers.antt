use Rattle.std.proofs.Common.{◌∙◌, ap, arith}
use Rattle.stp_ground.specs.Marks.{with_mark}
use Rattle.stp_ground.proofs.Marking.{marked}
use Rattle.stp_ground.proofs.marks.mark.Goals as goal

pub returns : goal.returns
returns c =
    let long = c.in_ok-lengthen.ensures.long in
    marked c.lengthen.new.marks.items c.args.predicate (omega (arith, long)) ∙ ap (with_mark c.args.predicate) c.in_ok-lengthen.ensures.same
