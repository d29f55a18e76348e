-- The kept times, from the origin on, are times that meet all edges.
use Rattle.std.proofs.Common.{◌^◌}
use Rattle.stp_network.proofs.Kept.{kept_has_times}
use Rattle.stp_network.proofs.rows.Rows.take_lowest.Goals as goal

pub raise_to_lowest-requires-clause-times : goal.raise_to_lowest-requires-clause-times
raise_to_lowest-requires-clause-times c = kept_has_times (2 ^ 126) c.args.self.now.times.items c.args.self.now.heads.items c.args.edges.now c.requires.kept
