-- The atoms so far, and those of the parts that are left, are all.
use Rattle.std.proofs.Common.{◌≡◌, ◌++◌, drop, map}
use Rattle.stp_cond.specs.Formulas.{view, formulas_of, atoms_in, atoms_in_all}
use Rattle.stp_cond.proofs.gathering.+gather.Given as goal

abbrev pub invariant-loop-part : goal.invariant-loop-part
invariant-loop-part l = l.numbers.items ++ atoms_in_all (formulas_of (map view (drop l.part-index l.part-items))) ≡ l.fn.numbers.items ++ atoms_in (view l.cond)
