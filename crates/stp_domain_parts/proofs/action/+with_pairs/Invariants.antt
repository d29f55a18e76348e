use Rattle.std.proofs.Common.{length}
use Rattle.stp_domain_parts.proofs.action.+with_pairs.Given as goal

abbrev pub decreases-with_pairs : goal.decreases-with_pairs
decreases-with_pairs l = length l.items.now
