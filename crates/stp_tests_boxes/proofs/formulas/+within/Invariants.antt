-- Whether the atoms of the parts that are left are below the number tells of all.
use Rattle.std.proofs.Common.{◌≡◌, drop, map}
use Rattle.stp_cond.specs.Truth.{all_of, is_below}
use Rattle.stp_tests_boxes.proofs.formulas.+within.Given as goal

abbrev pub invariant-loop-part : goal.invariant-loop-part
invariant-loop-part l = all_of (map (is_below l.count) (drop l.part-index l.part-items)) ≡ is_below l.count l.cond
