use Rattle.std.proofs.Common.{sym, subst, ◌∙◌}
use Rattle.std.proofs.lemmas.Result.{IfOk-weaker}
use Rattle.stp_report.specs.Bounds.{AreTimes}
use Rattle.stp_cli.proofs.reply.refuse.Goals as goal

pub reply_with-requires : goal.reply_with-requires
reply_with-requires c = let (refusal, of, is) = c.in-Ok.ensures.refused in subst AreTimes (sym is) tt

pub returns-in-Ok : goal.returns-in-Ok
returns-in-Ok c =
    let (refusal, of, is) = c.in-Ok.ensures.refused in
    IfOk-weaker c.reply_with.result _ _ (λ r (answer, same, status, text). (refusal, of, (answer, same ∙ is, status, text))) c.reply_with.ensures.reply
