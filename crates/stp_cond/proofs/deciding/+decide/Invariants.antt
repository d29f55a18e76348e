-- What is known of the parts so far, and of those that are left, is what is known of all; their atoms have answers.
use Rattle.std.proofs.Common.{◌≡◌, true, length, drop, map}
use Rattle.stp_cond.specs.Decided.{both, either, all_three, any_three, decided}
use Rattle.stp_cond.specs.Folded.{known_of}
use Rattle.stp_cond.specs.Truth.{all_of, is_below}
use Rattle.stp_cond.proofs.deciding.+decide.Given as goal

abbrev pub decreases-decide : goal.decreases-decide
decreases-decide l = goal.size-decide l

abbrev pub invariant-loop-part : goal.invariant-loop-part
invariant-loop-part l = record {
  below : all_of (map (is_below (length l.partial)) (drop l.part-index l.part-items)) ≡ true;
  same : both l.so_far (all_three (map (decided (known_of l.partial)) (drop l.part-index l.part-items))) ≡ decided (known_of l.partial) l.cond;
}

abbrev pub invariant-loop-part-2 : goal.invariant-loop-part-2
invariant-loop-part-2 l = record {
  below : all_of (map (is_below (length l.partial)) (drop l.part-index l.part-items)) ≡ true;
  same : either l.so_far (any_three (map (decided (known_of l.partial)) (drop l.part-index l.part-items))) ≡ decided (known_of l.partial) l.cond;
}
