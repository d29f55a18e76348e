use Rattle.std.proofs.Common.{◌+◌, ◌*◌, ◌-◌, ◌^◌, length, sum}
use Rattle.stp_network.specs.Lowest.{IsBelowAll}
use Rattle.stp_network.proofs.lowest.raise_to_lowest.Given as goal

abbrev pub invariant-loop : goal.invariant-loop
invariant-loop l = IsBelowAll l.grid l.edges l.row

abbrev pub decreases-loop : goal.decreases-loop
decreases-loop l = sum l.fn.row + length l.fn.row * 2 ^ 126 - sum l.row
