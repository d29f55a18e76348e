-- The least times are low, so they may be kept.
use Rattle.std.proofs.Common.{◌^◌, refl}
use Rattle.stp_network.specs.declared.limits.TheConstants.{LATEST_KEPT}
use Rattle.stp_network.proofs.Kept.{kept_lowest, kept_same}
use Rattle.stp_network.proofs.rows.Rows.lower.Goals as goal

pub returns-clause-kept : goal.returns-clause-kept
returns-clause-kept c =
    kept_same LATEST_KEPT c.take_lowest.new.self.times.items c.args.self.now.heads.items c.take_lowest.new.self.times.items c.take_lowest.new.self.heads.items
    c.args.edges.now c.args.edges.now refl c.take_lowest.ensures.heads refl
    (kept_lowest (2 ^ 126) c.args.self.now.times.items c.args.self.now.heads.items c.take_lowest.new.self.times.items c.args.edges.now
    c.requires.kept c.requires.some c.take_lowest.ensures.count c.take_lowest.ensures.solves c.take_lowest.ensures.below)
