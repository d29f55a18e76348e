use Rattle.std.proofs.Common.{◌≤◌, length, All}
use Rattle.stp_happen.specs.SoundBox.{IsBoxStep}
use Rattle.stp_tests_boxes.proofs.sketches.steps.Given as goal

abbrev pub invariant-loop-sketch : goal.invariant-loop-sketch
invariant-loop-sketch l = record { in_range : All (IsBoxStep 1 3) l.steps; few : length l.steps ≤ l.sketch-index }
