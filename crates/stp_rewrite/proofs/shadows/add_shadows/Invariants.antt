-- The shadows so far, and those of the atoms that are left, are all.
use Rattle.std.proofs.Common.{◌≡◌, ◌++◌, drop}
use Rattle.stp_cond.specs.Views.{atoms_of}
use Rattle.stp_rewrite.specs.Ends.{shadows_by}
use Rattle.stp_rewrite.proofs.shadows.add_shadows.Given as goal

abbrev pub invariant-loop-atom : goal.invariant-loop-atom
invariant-loop-atom l = atoms_of l.found.items ++ shadows_by l.shadow_of (atoms_of (drop l.atom-index l.atoms)) ≡ atoms_of l.fn.found.items ++ shadows_by l.shadow_of (atoms_of l.atoms)
