-- The atoms so far, and those of the footprints that are left, are all.
use Rattle.std.proofs.Common.{◌≡◌, ◌++◌, drop}
use Rattle.std.specs.List.{flat_map}
use Rattle.stp_cond.specs.Views.{atoms_of}
use Rattle.stp_expand.specs.Views.{footprints_of}
use Rattle.stp_expand.proofs.formulas.written.Given as goal

abbrev pub invariant-loop-footprint : goal.invariant-loop-footprint
invariant-loop-footprint l = atoms_of l.all.items ++ flat_map (λ p. p.adds ++ p.dels) (footprints_of (drop l.footprint-index l.set)) ≡ flat_map (λ p. p.adds ++ p.dels) (footprints_of l.set)
