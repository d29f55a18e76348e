-- The formulas so far are judged apart from those that are left.
use Rattle.std.proofs.Common.{◌≡◌, ℕ, ◌+◌, ◌*◌, ◌||◌, List, length, drop, take, All}
use Rattle.stp_cond.specs.Atoms.{has}
use Rattle.stp_cond.specs.Truth.{state_of_row}
use Rattle.stp_split.specs.Judged.{IsAlways, SomeAlways, EachFails}
use Rattle.stp_split.proofs.Weights.{weight, weight_all}
use Rattle.stp_window.specs.Views.{points_of}
use Rattle.stp_split.proofs.judging.+failing.Given as goal

abbrev pub decreases-failing : goal.decreases-failing
decreases-failing l = 2 * (length l.ends.now + weight l.cond.now)

abbrev pub decreases-failing_one : goal.decreases-failing_one
decreases-failing_one l = 2 * (length l.ends.now + weight_all l.conds.now) + 1

abbrev pub decreases-failing_by_cases : goal.decreases-failing_by_cases
decreases-failing_by_cases l = 2 * (length l.ends.now + weight_all (drop l.start l.conds.now))

abbrev pub decreases-failing_all : goal.decreases-failing_all
decreases-failing_all l = 2 * (length l.ends.now + weight_all (drop l.start l.conds.now)) + 1

abbrev pub invariant-failing_one-loop-cond : goal.invariant-failing_one-loop-cond
invariant-failing_one-loop-cond l = All (λ c. IsAlways c l.want (points_of l.ends) (state_of_row l.row)) (take l.cond-index l.conds)

abbrev pub invariant-failing_all-loop-place : goal.invariant-failing_all-loop-place
invariant-failing_all-loop-place l = record {
  always : SomeAlways (drop l.place l.conds) l.want (points_of l.ends) (state_of_row l.row) → SomeAlways (drop l.start l.conds) l.want (points_of l.ends) (state_of_row l.row);
  fails : (more all : List ℕ) → ((n : ℕ) → has all n ≡ (has l.steps n || has more n)) → EachFails (drop l.place l.conds) l.want (points_of l.ends) (state_of_row l.row) more → EachFails (drop l.start l.conds) l.want (points_of l.ends) (state_of_row l.row) all;
}
