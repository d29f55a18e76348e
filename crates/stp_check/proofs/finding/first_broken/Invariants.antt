-- The row has what the windows before the place leave, which end by each moment to come, and all members have been judged at the
-- moments so far.
use Rattle.std.proofs.Common.{◌≡◌, ℕ, ◌<◌, ◌≤◌, length, get_or, take, drop, All, Contains}
use Rattle.stp_strength.specs.Splitting.{applied}
use Rattle.stp_cond.specs.Truth.{state_of_row}
use Rattle.stp_window.specs.Views.{points_of}
use Rattle.stp_check.specs.Ends.{AreJudged}
use Rattle.stp_check.specs.Late.{box_inside}
use Rattle.stp_window.specs.declared.windows.Window.{Window}
use Rattle.stp_check.proofs.finding.first_broken.Given as goal

abbrev pub invariant-loop-time : goal.invariant-loop-time
invariant-loop-time l = record {
  len : length l.row ≡ length l.fn.initial;
  within : l.place ≤ length l.ordered.items;
  ended : (k : ℕ) (d : Window) → k < l.place → (u : ℕ) → Contains (drop l.time-index l.time-items) u → (get_or l.ordered.items k d).high ≤ u;
  state : (a : ℕ) → state_of_row l.row a ≡ applied (points_of (take l.place l.ordered.items)) (state_of_row l.fn.initial) a;
  judged : All (λ t. All (AreJudged (box_inside l.windows l.fn.spans l.fn.initial) t) l.over_alls.items) (take l.time-index l.time-items);
}
