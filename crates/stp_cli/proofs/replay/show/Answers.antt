use Rattle.std.proofs.Common.{refl}
use Rattle.std.proofs.lemmas.Result.{IfOk-weaker}
use Rattle.stp_cli.proofs.replay.show.Goals as goal

pub returns : goal.returns
returns c =
    IfOk-weaker c.reply_with.result _ _
    (λ r (answer, is, status, text). (answer, (c.args.run, refl, is), status, text))
    c.reply_with.ensures.reply
