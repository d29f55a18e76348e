-- The new parts so far, and those of the parts that are left, are all.
use Rattle.std.proofs.Common.{◌≡◌, ◌++◌, map, drop}
use Rattle.stp_cond.specs.Views.{atoms_of}
use Rattle.stp_cond.specs.Formulas.{view}
use Rattle.stp_cond.specs.Substituted.{image_of, substituted}
use Rattle.stp_cond.proofs.substituting.+substitute.Given as goal

abbrev pub invariant-substitute_all-loop-part : goal.invariant-substitute_all-loop-part
invariant-substitute_all-loop-part l = map view l.out.items ++ map (λ c. substituted (image_of (atoms_of l.from) (atoms_of l.to)) (view c)) (drop l.part-index l.parts) ≡ map (λ c. substituted (image_of (atoms_of l.from) (atoms_of l.to)) (view c)) l.parts
