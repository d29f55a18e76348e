use Rattle.std.proofs.Common.{◌≡◌, Err, sym, ap, ap₂, subst, ◌∙◌}
use Rattle.std.proofs.lemmas.Result.{IfOk-weaker}
use Rattle.stp_schema.specs.Views.{problem_of}
use Rattle.stp_cli.specs.Case.{problem_of_texts, steps_of, case_of, case_with}
use Rattle.stp_cli.specs.Replay.{IsReplayedCase}
use Rattle.stp_cli.specs.declared.refusal.CaseFault.TheVariants.{Refused}
use Rattle.stp_cli.proofs.Casing.{is_refusal, case_refused, steps_refused, a_case, refused_or, or_right}
use Rattle.stp_cli.proofs.judge.replay_texts.Goals as goal

-- the domain or the problem is refused, and so the case is
pub returns-in-Err : goal.returns-in-Err
returns-in-Err c =
    let texts = c.args.texts.now in
    let read : problem_of_texts texts.domain texts.problem ≡ problem_of_texts c.as_slice.result.now c.as_slice-2.result.now = ap₂ problem_of_texts (sym c.as_slice.ensures) (sym c.as_slice-2.ensures) in
    IfOk-weaker c.refuse.result _ _
    (λ r (refusal, of, (answer, is, status, text)). (
      answer,
      refused_or (IsReplayedCase c.args.list.now) (case_of texts.domain texts.problem texts.plan) refusal answer
          (case_refused texts.domain texts.problem texts.plan (Refused refusal) (read ∙ c.in-Err.ensures.refused (is_refusal c.in-Err.fault refusal of) ∙ ap Err of)) is,
      status,
      text,
    ))
    c.refuse.ensures

-- the plan is refused, and so the case is
pub returns-in-Err-read_steps : goal.returns-in-Err-read_steps
returns-in-Err-read_steps c =
    let texts = c.args.texts.now in
    let read : problem_of_texts texts.domain texts.problem ≡ problem_of_texts c.as_slice.result.now c.as_slice-2.result.now = ap₂ problem_of_texts (sym c.as_slice.ensures) (sym c.as_slice-2.ensures) in
    let lines : steps_of (problem_of c.in-Ok.problem) texts.plan ≡ steps_of (problem_of c.in-Ok.problem) c.as_slice-3.result.now = ap (steps_of (problem_of c.in-Ok.problem)) (sym c.as_slice-3.ensures) in
    IfOk-weaker c.refuse-in-Err-read_steps.result _ _
    (λ r (refusal, of, (answer, is, status, text)). (
      answer,
      refused_or (IsReplayedCase c.args.list.now) (case_of texts.domain texts.problem texts.plan) refusal answer
          (steps_refused texts.domain texts.problem texts.plan (problem_of c.in-Ok.problem) (read ∙ c.in-Ok.ensures.ok) (Refused refusal) (lines ∙ c.in-Err-read_steps.ensures.refused (is_refusal c.in-Err-read_steps.fault refusal of) ∙ ap Err of)) is,
      status,
      text,
    ))
    c.refuse-in-Err-read_steps.ensures

-- the run is the one of the case
pub returns : goal.returns
returns c =
    let texts = c.args.texts.now in
    let read : problem_of_texts texts.domain texts.problem ≡ problem_of_texts c.as_slice.result.now c.as_slice-2.result.now = ap₂ problem_of_texts (sym c.as_slice.ensures) (sym c.as_slice-2.ensures) in
    let lines : steps_of (problem_of c.in-Ok.problem) texts.plan ≡ steps_of (problem_of c.in-Ok.problem) c.as_slice-3.result.now = ap (steps_of (problem_of c.in-Ok.problem)) (sym c.as_slice-3.ensures) in
    let (steps, placed, stands) = c.in-Ok-read_steps.ensures.ok in
    let made = case_with (problem_of c.in-Ok.problem) steps in
    IfOk-weaker c.replay.result _ _
    (λ r told.
    let (answer, right, status, text) = told made stands in (
      answer,
      or_right (IsReplayedCase c.args.list.now) (case_of texts.domain texts.problem texts.plan) made answer
          (a_case texts.domain texts.problem texts.plan (problem_of c.in-Ok.problem) (read ∙ c.in-Ok.ensures.ok) steps (lines ∙ placed))
          (subst (λ list. IsReplayedCase list made answer) c.as_bytes.ensures.value right),
      status,
      text,
    ))
    c.replay.ensures
