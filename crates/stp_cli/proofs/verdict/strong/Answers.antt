use Rattle.std.proofs.Common.{◌≡◌, List, length, ap, ◌∙◌, inl}
use Rattle.std.specs.List.{count_by}
use Rattle.std.proofs.lemmas.Result.{IfOk-weaker}
use Rattle.stp_happen.specs.declared.boxes.BoxStep.{BoxStep}
use Rattle.stp_happen.specs.declared.boxes.BoxTimed.{BoxTimed}
use Rattle.stp_happen.specs.BoxViews.{plain_box}
use Rattle.stp_report.specs.declared.answer.Answer.TheVariants as answers
use Rattle.stp_cli.specs.Verdict.{step_count, uncertain_count, event_count}
use Rattle.stp_cli.proofs.Verdicts.{box_steps, box_uncertain, box_events}
use Rattle.stp_cli.proofs.verdict.strong.Goals as goal

-- the steps of the box are counted, the uncertain ones of them, and the events whose moments are chosen
pub returns : goal.returns
returns c =
    let boxed = c.args.boxed.now in
    let steps : length c.as_slice-steps.result.now ≡ step_count (plain_box boxed) =
    ap (λ (l : List BoxStep). length l) c.as_slice-steps.ensures ∙ box_steps boxed in
    let uncertain : c.count_uncertain.result ≡ uncertain_count (plain_box boxed) =
    c.count_uncertain.ensures ∙ ap (λ (l : List BoxStep). count_by (λ (s : BoxStep). s.uncertain) l) c.as_slice-steps.ensures ∙ box_uncertain boxed in
    let events : c.count_chosen.result ≡ event_count (plain_box boxed) =
    c.count_chosen.ensures ∙ ap (λ (l : List BoxTimed). count_by (λ (e : BoxTimed). e.uncertain) l) c.as_slice.ensures ∙ box_events boxed in
    IfOk-weaker c.reply_with.result _ _
    (λ r (answer, is, status, text). (
      answer,
      inl (record {
        strong = c.requires.strong;
        answered = is ∙ ap (λ n. answers.Strong n c.count_uncertain.result c.count_chosen.result boxed.grid) steps
            ∙ ap (λ n. answers.Strong (step_count (plain_box boxed)) n c.count_chosen.result boxed.grid) uncertain
            ∙ ap (λ n. answers.Strong (step_count (plain_box boxed)) (uncertain_count (plain_box boxed)) n boxed.grid) events;
      }),
      status,
      text,
    ))
    c.reply_with.ensures.reply
