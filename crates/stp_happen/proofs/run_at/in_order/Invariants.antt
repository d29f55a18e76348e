use Rattle.std.proofs.Common.{◌≡◌, take}
use Rattle.stp_happen.proofs.run_at.in_order.Given as goal

abbrev pub invariant-loop-entry : goal.invariant-loop-entry
invariant-loop-entry l = l.list ≡ take l.entry-index l.entry-items
