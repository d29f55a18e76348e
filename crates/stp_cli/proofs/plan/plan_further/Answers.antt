use Rattle.std.proofs.Common.{inr, sym, ◌∙◌}
use Rattle.std.proofs.lemmas.Result.{IfOk-weaker}
use Rattle.stp_cli.proofs.plan.plan_further.Goals as goal

pub returns-then-possible : goal.returns-then-possible
returns-then-possible c =
    IfOk-weaker c.reply_with.result _ _
    (λ r (answer, is, status, text). (
      answer,
      inr (inr (record {
        certificate = c.in_ok-certificate.certificate;
        weak = c.requires.weak;
        least = c.in_ok-certificate.ensures;
        may_hold = sym c.possible.ensures ∙ c.if-possible.true;
        answered = is;
      })),
      status,
      text,
    ))
    c.reply_with.ensures.reply
