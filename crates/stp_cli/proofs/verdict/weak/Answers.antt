use Rattle.std.proofs.Common.{inr}
use Rattle.std.proofs.lemmas.Result.{IfOk-weaker}
use Rattle.stp_cli.proofs.verdict.weak.Goals as goal

pub returns : goal.returns
returns c =
    IfOk-weaker c.reply_with.result _ _
    (λ r (answer, is, status, text). (
      answer,
      inr (record {
        durations = c.args.durations;
        fault = c.in_ok-fault.fault;
        weak = c.requires.weak;
        least = c.requires.least;
        first = c.in_ok-fault.ensures.first;
        answered = is;
      }),
      status,
      text,
    ))
    c.reply_with.ensures.reply
