use Rattle.stp_kept.specs.Counts.{size_in}
use Rattle.stp_kept.proofs.CutCounts.{parts_nodes}
use Rattle.stp_kept.proofs.counting.part_nodes.Goals as goal

pub returns-in-And-clause-count : goal.returns-in-And-clause-count
returns-in-And-clause-count c = parts_nodes (size_in c.args.members.now) c.args.cond.now c.in-And.parts c.in_ok-count.count c.in-And.is c.in_ok-count.ensures.count
