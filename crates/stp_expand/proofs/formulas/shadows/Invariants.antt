-- The shadows so far are those of the atoms so far.
use Rattle.std.proofs.Common.{◌≡◌, map, take}
use Rattle.stp_cond.specs.Views.{atoms_of}
use Rattle.stp_expand.specs.Views.{shadow_in}
use Rattle.stp_expand.proofs.formulas.shadows.Given as goal

abbrev pub invariant-loop-atom : goal.invariant-loop-atom
invariant-loop-atom l = atoms_of l.found.items ≡ map (shadow_in l.shadow_of) (atoms_of (take l.atom-index l.atoms))
