use Rattle.std.proofs.Common.{inr, refl, ◌∙◌}
use Rattle.stp_report.specs.Texts.{text_of}
use Rattle.stp_cli.proofs.Writing.{same_front}
use Rattle.stp_cli.proofs.top.answer_words.Goals as goal

-- the text that was made is the one of an allowed answer, and a beginning of it was written
pub returns-clause-outcome : goal.returns-clause-outcome
returns-clause-outcome g c =
    let written = g.K.Sink.written in
    let (answer, allowed, status, text) = c.in-Ok.ensures.reply in
    inr (record {
      answer = answer;
      allowed = allowed;
      left = inr (record {
        ended = refl;
        counted = c.in-Err.ensures.counted;
        text = same_front (written c.args.sink.now) (written c.write_all.new.sink) c.as_slice.result.now (text_of answer) (c.as_slice.ensures ∙ text) c.in-Err.ensures.front;
      });
    })
