use Rattle.std.proofs.Common.{inl, inr, refl}
use Rattle.std.proofs.lemmas.Result.{IfOk-weaker}
use Rattle.stp_cli.proofs.plan.reply_unreachable.Goals as goal

pub returns : goal.returns
returns c =
    IfOk-weaker c.reply_with.result _ _
    (λ r (answer, is, status, text). (
      answer,
      inr (inl (record {
        problem = c.args.problem;
        task = c.args.task;
        certificate = c.args.certificate;
        weak = c.requires.weak;
        of_problem = refl;
        of_task = refl;
        least = c.requires.least;
        impossible = c.requires.impossible;
        answered = is;
      })),
      status,
      text,
    ))
    c.reply_with.ensures.reply
