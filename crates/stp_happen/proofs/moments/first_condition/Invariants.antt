-- The first of those so far.
use Rattle.std.proofs.Common.{◌≡◌, take}
use Rattle.std.specs.List.{filter_map}
use Rattle.stp_cond.specs.Truth.{state_of_row}
use Rattle.stp_happen.specs.Faults.{condition_in}
use Rattle.stp_happen.specs.Firsts.{first_from}
use Rattle.stp_happen.specs.Views.{entries_of}
use Rattle.stp_happen.proofs.moments.first_condition.Given as goal

abbrev pub invariant-loop-entry : goal.invariant-loop-entry
invariant-loop-entry l = l.best ≡ first_from l.fn.best (filter_map (condition_in (state_of_row l.row)) (entries_of (take l.entry-index l.moment)))
