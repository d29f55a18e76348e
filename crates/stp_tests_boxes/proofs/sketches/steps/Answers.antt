use Rattle.std.proofs.Common.{◌≤◌, length, arith, length-append}
use Rattle.std.proofs.lemmas.List.Elements.{All-push}
use Rattle.stp_happen.specs.declared.boxes.BoxStep.{BoxStep}
use Rattle.stp_happen.specs.SoundBox.{IsBoxStep}
use Rattle.stp_tests_boxes.proofs.sketches.steps.Goals as goal
use Rattle.stp_tests_boxes.proofs.sketches.steps.Goals.{then-sketch+in_ok-step+in_ok-push, else-sketch}

pub loop-sketch-preserved : goal.loop-sketch-preserved
loop-sketch-preserved c = elim c.if-sketch.branch [
  | then-sketch+in_ok-step+in_ok-push w ↦
      let before = c.loop-sketch.steps in
      let step = w.in_ok-step.field-0 in
      let few : length before ≤ c.loop-sketch.sketch-index = c.loop-sketch.invariant.few in
      rw (w.steps-is, w.in_ok-push.ensures.ok) (record {
        in_range = All-push (λ (s : BoxStep). IsBoxStep 1 3 s) before step c.loop-sketch.invariant.in_range w.in_ok-step.ensures;
        few = omega (arith, length-append {A = BoxStep});
      })
  | else-sketch w ↦ rw w.steps-is (record { in_range = c.loop-sketch.invariant.in_range; few = omega arith })
]
