-- The atoms so far are unknown, and the others are as they were.
use Rattle.std.proofs.Common.{◌≡◌, ℕ, if◌then◌else◌, length, take}
use Rattle.stp_cond.specs.declared.known.Three.TheVariants.{Unknown}
use Rattle.stp_cond.specs.Atoms.{has}
use Rattle.stp_cond.specs.Folded.{known_of}
use Rattle.stp_cond.specs.Views.{atoms_of}
use Rattle.stp_split.proofs.knowing.forget.Given as goal

abbrev pub invariant-loop-atom : goal.invariant-loop-atom
invariant-loop-atom l = record {
  len : length l.known.items ≡ length l.fn.known.items;
  known : (a : ℕ) → known_of l.known.items a ≡ (if has (atoms_of (take l.atom-index l.atoms)) a then Unknown else known_of l.fn.known.items a);
}
