-- None of the ends so far is shared.
use Rattle.std.proofs.Common.{drop, take, All}
use Rattle.stp_cond.specs.Truth.{state_of_row}
use Rattle.stp_split.proofs.Turned.{IsNotShared}
use Rattle.stp_split.proofs.turning.shared.Given as goal

abbrev pub invariant-loop-end : goal.invariant-loop-end
invariant-loop-end l = All (IsNotShared (state_of_row l.row) l.cond (drop l.start l.conds)) (take l.end-index l.ends)
