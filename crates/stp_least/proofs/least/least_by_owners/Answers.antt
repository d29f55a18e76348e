use Rattle.std.proofs.Common.{arith}
use Rattle.stp_least.proofs.Searches.{search_ends}
use Rattle.stp_least.proofs.least.least_by_owners.Goals as goal

-- the box at the end has one vector, whose failure is the least
pub returns-clause-least : goal.returns-clause-least
returns-clause-least c =
    c.loop-index.invariant.least c.loop-index.search.durations (search_ends c.loop-index.search c.loop-index.index c.loop-index.invariant.search (omega (arith, c.loop-index.invariant.long)))
