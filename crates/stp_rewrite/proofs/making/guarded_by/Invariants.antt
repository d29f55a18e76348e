-- The parts so far, and those of the locks that are left, are all.
use Rattle.std.proofs.Common.{◌≡◌, ◌++◌, ◌∷◌, map, drop}
use Rattle.stp_cond.specs.Formulas.{view}
use Rattle.stp_cond.specs.Views.{atoms_of}
use Rattle.stp_expand.specs.Expanded.{not_opened}
use Rattle.stp_rewrite.proofs.making.guarded_by.Given as goal

abbrev pub invariant-loop-atom : goal.invariant-loop-atom
invariant-loop-atom l = map view l.parts.items ++ map not_opened (atoms_of (drop l.atom-index l.locks)) ≡ view l.cond ∷ map not_opened (atoms_of l.locks)
