use Rattle.std.proofs.Common.{◌≡◌, ℕ, ◌<◌, length}
use Rattle.stp_cond.specs.Truth.{state_of_row}
use Rattle.stp_happen.specs.Plain.{state_after}
use Rattle.stp_strength.specs.Views.{late_entries}
use Rattle.stp_strength.proofs.states.row_after.Given as goal

abbrev pub invariant-loop-atom : goal.invariant-loop-atom
invariant-loop-atom l = record {
  len : length l.row ≡ length l.fn.initial;
  state : (a : ℕ) → a < l.atom → state_of_row l.row a ≡ state_after (state_of_row l.fn.initial) (late_entries l.windows) a;
}
