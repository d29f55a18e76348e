-- What is left of the parts is left alone where all are.
use Rattle.std.proofs.Common.{◌≡◌, not, drop, map}
use Rattle.stp_cond.specs.Truth.{all_of, reads_only}
use Rattle.stp_window.specs.Certain.{sets}
use Rattle.stp_window.specs.Views.{point_of}
use Rattle.stp_check.proofs.touching.+leaves.Given as goal

abbrev pub decreases-leaves : goal.decreases-leaves
decreases-leaves l = goal.size-leaves l

abbrev pub invariant-loop-part : goal.invariant-loop-part
invariant-loop-part l = all_of (map (reads_only (λ a. not (sets (point_of l.window) a))) (drop l.part-index l.part-items)) ≡ reads_only (λ a. not (sets (point_of l.window) a)) l.cond
