-- The first of those so far.
use Rattle.std.proofs.Common.{◌≡◌, take}
use Rattle.std.specs.List.{filter_map}
use Rattle.stp_cond.specs.Truth.{state_of_row}
use Rattle.stp_happen.specs.Faults.{over_all_in}
use Rattle.stp_happen.specs.Firsts.{first_from}
use Rattle.stp_happen.specs.Views.{spans_of}
use Rattle.stp_happen.proofs.moments.first_over_all.Given as goal

abbrev pub invariant-loop-span : goal.invariant-loop-span
invariant-loop-span l = l.best ≡ first_from l.fn.best (filter_map (over_all_in (state_of_row l.row) l.time) (spans_of (take l.span-index l.spans)))
