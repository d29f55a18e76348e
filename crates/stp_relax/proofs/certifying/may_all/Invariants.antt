-- The atoms so far that are true may be true.
use Rattle.std.proofs.Common.{◌≡◌, ℕ, ◌<◌, true}
use Rattle.stp_cond.specs.Atoms.{has}
use Rattle.stp_cond.specs.Truth.{state_of_row}
use Rattle.stp_cond.specs.Views.{atoms_of}
use Rattle.stp_relax.proofs.certifying.may_all.Given as goal

abbrev pub invariant-loop-number : goal.invariant-loop-number
invariant-loop-number l = (a : ℕ) → a < l.number → state_of_row l.row a ≡ true → has (atoms_of l.cert.may) a ≡ true
