-- The parts so far hold where the atoms so far do.
use Rattle.std.proofs.Common.{◌≡◌, ℕ, Bool, map, take}
use Rattle.stp_cond.specs.Truth.{truth, reads_only}
use Rattle.stp_cond.specs.Views.{atoms_of}
use Rattle.stp_cond.proofs.cond.conjunction.Given as goal

abbrev pub invariant-loop-atom : goal.invariant-loop-atom
invariant-loop-atom l = record {
  same : (s : ℕ → Bool) → map (truth s) l.parts.items ≡ map s (atoms_of (take l.atom-index l.atoms));
  read : (these : ℕ → Bool) → map (reads_only these) l.parts.items ≡ map these (atoms_of (take l.atom-index l.atoms));
}
