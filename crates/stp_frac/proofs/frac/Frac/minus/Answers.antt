use Rattle.std.proofs.Common.{◌∙◌}
use Rattle.stp_frac.specs.Fractions.{value_of}
use Rattle.stp_frac.proofs.Fractions.{sum_with_negated}
use Rattle.stp_frac.proofs.frac.Frac.minus.Goals as goal

pub returns : goal.returns
returns c =
    let to = value_of c.negated.result in
    c.plus.ensures ∙ sum_with_negated (value_of c.args.self) (value_of c.args.other) to.top to.bottom c.negated.ensures.top c.negated.ensures.bottom
