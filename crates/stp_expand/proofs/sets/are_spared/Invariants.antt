-- The footprints that are left decide.
use Rattle.std.proofs.Common.{◌≡◌, not, drop}
use Rattle.std.specs.List.{list_all}
use Rattle.stp_cond.specs.Atoms.{have_common}
use Rattle.stp_cond.specs.Views.{atoms_of}
use Rattle.stp_expand.specs.Views.{footprints_of}
use Rattle.stp_expand.proofs.sets.are_spared.Given as goal

abbrev pub invariant-loop-footprint : goal.invariant-loop-footprint
invariant-loop-footprint l = list_all (λ q. not (have_common (atoms_of l.atoms) q.dels)) (footprints_of (drop l.footprint-index l.set)) ≡ list_all (λ q. not (have_common (atoms_of l.atoms) q.dels)) (footprints_of l.set)
