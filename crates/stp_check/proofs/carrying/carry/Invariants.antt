-- The windows so far have ended, and the row is what they leave.
use Rattle.std.proofs.Common.{◌≡◌, ℕ, ◌<◌, ◌≤◌, Bool, length, get_or, take}
use Rattle.stp_strength.specs.Splitting.{applied}
use Rattle.stp_cond.specs.Truth.{state_of_row}
use Rattle.stp_window.specs.Views.{points_of}
use Rattle.stp_window.specs.declared.windows.Window.{Window}
use Rattle.stp_check.proofs.carrying.carry.Given as goal

abbrev pub invariant-loop-place : goal.invariant-loop-place
invariant-loop-place l = record {
  len : length l.row ≡ length l.fn.row;
  ended : (k : ℕ) (d : Window) → l.start ≤ k → k < l.place → (get_or l.ordered k d).high ≤ l.time;
  state : (first : ℕ → Bool) → ((a : ℕ) → state_of_row l.fn.row a ≡ applied (points_of (take l.start l.ordered)) first a) → (a : ℕ) → state_of_row l.row a ≡ applied (points_of (take l.place l.ordered)) first a;
}
