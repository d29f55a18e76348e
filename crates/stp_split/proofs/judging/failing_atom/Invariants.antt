-- None of the ends so far changes the atom.
use Rattle.std.proofs.Common.{◌≡◌, [], false, take, All}
use Rattle.stp_cond.specs.Truth.{state_of_row}
use Rattle.stp_split.specs.Cases.{turns_at}
use Rattle.stp_window.specs.Views.{point_of}
use Rattle.stp_split.proofs.judging.failing_atom.Given as goal

abbrev pub invariant-loop-end : goal.invariant-loop-end
invariant-loop-end l = record {
  none : l.steps ≡ [];
  still : All (λ w. turns_at (point_of w) (state_of_row l.row) l.atom.0 ≡ false) (take l.end-index l.ends);
}
