-- The new formulas so far, and those of the atoms that are left, are all.
use Rattle.std.proofs.Common.{◌≡◌, ◌++◌, map, drop}
use Rattle.stp_cond.specs.Formulas.{view}
use Rattle.stp_cond.specs.Views.{atoms_of}
use Rattle.stp_expand.specs.Expanded.{not_opened}
use Rattle.stp_expand.proofs.formulas.each_not_opened.Given as goal

abbrev pub invariant-loop-atom : goal.invariant-loop-atom
invariant-loop-atom l = map view l.parts.items ++ map not_opened (atoms_of (drop l.atom-index l.opened)) ≡ map not_opened (atoms_of l.opened)
