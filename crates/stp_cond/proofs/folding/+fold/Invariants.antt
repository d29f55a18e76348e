-- The folded parts so far, and those of the parts that are left, are all; the atoms of these are known of.
use Rattle.std.proofs.Common.{◌≡◌, true, ◌++◌, length, map, drop}
use Rattle.stp_cond.specs.Truth.{all_of, is_below}
use Rattle.stp_cond.specs.Formulas.{view}
use Rattle.stp_cond.specs.Folded.{known_of, folded}
use Rattle.stp_cond.proofs.folding.+fold.Given as goal

abbrev pub invariant-fold_all-loop-part : goal.invariant-fold_all-loop-part
invariant-fold_all-loop-part l = record {
  below : all_of (map (is_below (length l.known)) (drop l.part-index l.parts)) ≡ true;
  same : map view l.out.items ++ map (λ c. folded (known_of l.known) (view c)) (drop l.part-index l.parts) ≡ map (λ c. folded (known_of l.known) (view c)) l.parts;
}
