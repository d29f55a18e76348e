use Rattle.std.proofs.Common.{drop, ap, ◌∙◌}
use Rattle.std.proofs.lemmas.List.{take_rest}
use Rattle.stp_plan.specs.Parts.{parts}
use Rattle.stp_plan.proofs.Cuts.{parts_trimmed, black_trimmed}
use Rattle.stp_plan.proofs.parts.trimmed.Goals as goal

pub returns-clause-parts : goal.returns-clause-parts
returns-clause-parts c =
    ap parts (take_rest c.args.text.now c.white_length.result)
    ∙ ap (λ n. parts (drop n c.args.text.now)) c.white_length.ensures.value
    ∙ parts_trimmed c.args.text.now

pub returns-clause-black : goal.returns-clause-black
returns-clause-black c = black_trimmed c.args.text.now c.white_length.result c.white_length.ensures.value
