-- Nothing is known of so many actions.
use Rattle.std.proofs.Common.{◌≡◌, length, All}
use Rattle.stp_relax.specs.Seen.{IsUnseen}
use Rattle.stp_relax.proofs.reaching.unseen.Given as goal

abbrev pub invariant-loop : goal.invariant-loop
invariant-loop l = (length l.seen.items ≡ l.counter) × All IsUnseen l.seen.items
