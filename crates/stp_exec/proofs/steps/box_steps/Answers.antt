use Rattle.std.proofs.Common.{◌+◌, List, length, map, sym, ap, subst, ◌∙◌, arith}
use Rattle.std.specs.List.{All}
use Rattle.std.proofs.lemmas.List.{length_push}
use Rattle.std.proofs.lemmas.List.Elements.{All-push}
use Rattle.stp_ground.specs.Worlds.{problem_in}
use Rattle.stp_exec.specs.Timed.{plain_timed}
use Rattle.stp_happen.specs.declared.boxes.BoxStep.{BoxStep}
use Rattle.stp_happen.specs.SoundBox.{IsBoxStep}
use Rattle.stp_happen.specs.StepViews.{step_of}
use Rattle.stp_exec.specs.declared.placed.Placed.{Placed}
use Rattle.stp_exec.specs.Times.{IsTimely}
use Rattle.stp_exec.specs.Plans.{step_in}
use Rattle.stp_exec.specs.Views.{plain_placed}
use Rattle.stp_exec.proofs.Making.{AreMade, made_more, made_all}
use Rattle.stp_exec.proofs.steps.box_steps.Goals as goal

pub box_step-requires-clause-timely : goal.box_step-requires-clause-timely
box_step-requires-clause-timely c =
    subst (λ (s : Placed). IsTimely c.args.grid (plain_timed s.timed)) (sym c.step-item.is) (c.requires.timely c.loop-step.step-index c.step-item.result c.loop-step-test.true)

pub loop-step-preserved : goal.loop-step-preserved
loop-step-preserved c =
    let p = problem_in c.args.world.now in
    let made = step_in p c.args.table.now c.args.grid (map plain_placed c.args.placed.now) in
    let i = c.loop-step.step-index in
    record {
      stand = subst (λ (l : List BoxStep). AreMade plain_placed made step_of l (i + 1) c.args.placed.now) (sym c.in_ok-push.ensures.ok)
          (made_more plain_placed made step_of c.loop-step.steps c.in_ok-box_step.field-0 i c.args.placed.now c.step-item.result (omega arith) (sym c.step-item.is) c.in_ok-box_step.ensures.stands c.loop-step.invariant.stand);
      sound = subst (All (IsBoxStep c.args.grid (length c.args.table.now))) (sym c.in_ok-push.ensures.ok)
          (All-push (IsBoxStep c.args.grid (length c.args.table.now)) c.loop-step.steps c.in_ok-box_step.field-0 c.loop-step.invariant.sound c.in_ok-box_step.ensures.sound);
      count = ap length c.in_ok-push.ensures.ok ∙ length_push c.loop-step.steps c.in_ok-box_step.field-0 ∙ ap (λ n. n + 1) c.loop-step.invariant.count;
    }

pub returns-clause-stand : goal.returns-clause-stand
returns-clause-stand c =
    made_all plain_placed (step_in (problem_in c.args.world.now) c.args.table.now c.args.grid (map plain_placed c.args.placed.now)) step_of c.loop-step.steps c.loop-step.step-index c.args.placed.now (omega arith) c.loop-step.invariant.stand
