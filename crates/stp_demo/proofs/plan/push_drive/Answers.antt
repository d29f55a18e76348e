use Rattle.std.proofs.Common.{ap, sym, ◌∙◌}
use Rattle.std.specs.Prelude.{◌++◌, codes}
use Rattle.std.specs.Fmt.{decimal}
use Rattle.std.proofs.lemmas.Result.{on_ok_weaker}
use Rattle.stp_demo.specs.Pieces.{line}
use Rattle.stp_demo.proofs.JoinedTexts.{five}
use Rattle.stp_demo.proofs.plan.push_drive.Goals as goal

pub returns : goal.returns
returns c =
    let i = decimal c.args.rover in
    on_ok_weaker c.push_line.result
    (λ e. e
    ∙ ap (λ t. c.args.out.now ++ line t) (c.as_str.ensures.value ∙ c.in_ok-words.ensures.ok ∙ sym (five (codes "0: (drive r") i (codes " p0 p") i (codes ") [*]"))))
    c.push_line.ensures
