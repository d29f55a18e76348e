-- The footprints that are left decide.
use Rattle.std.proofs.Common.{◌≡◌, not, drop}
use Rattle.std.specs.List.{list_all}
use Rattle.stp_cond.specs.Atoms.{have_common}
use Rattle.stp_expand.specs.Expanded.{is_consistent}
use Rattle.stp_expand.specs.Views.{footprints_of}
use Rattle.stp_expand.proofs.sets.is_consistent.Given as goal

abbrev pub invariant-loop-footprint : goal.invariant-loop-footprint
invariant-loop-footprint l = list_all (λ p. list_all (λ q. not (have_common p.adds q.dels)) (footprints_of l.set)) (footprints_of (drop l.footprint-index l.set)) ≡ is_consistent (footprints_of l.set)
