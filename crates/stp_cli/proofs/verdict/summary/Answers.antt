use Rattle.std.proofs.Common.{◌≡◌, List, length, ap, ◌∙◌, refl}
use Rattle.std.specs.List.{count_by}
use Rattle.stp_happen.specs.declared.boxes.BoxStep.{BoxStep}
use Rattle.stp_happen.specs.BoxViews.{plain_box}
use Rattle.stp_cli.proofs.Verdicts.{box_steps, box_uncertain}
use Rattle.stp_cli.proofs.verdict.summary.Goals as goal

-- the steps of the box are counted, and the uncertain ones of them
pub returns-clause-told : goal.returns-clause-told
returns-clause-told c = record {
  steps = ap (λ (l : List BoxStep). length l) c.as_slice-steps.ensures ∙ box_steps c.args.boxed.now;
  uncertain = c.count_uncertain.ensures ∙ ap (λ (l : List BoxStep). count_by (λ (s : BoxStep). s.uncertain) l) c.as_slice-steps.ensures ∙ box_uncertain c.args.boxed.now;
  on_grid = refl;
  judged = c.in_ok-failure.ensures.judged;
}
