-- The last edge goes, and the edge before it to the same point is the last one to it again.
use Rattle.std.proofs.Common.{List, subst}
use Rattle.stp_network.specs.declared.edge.Edge.{Edge}
use Rattle.stp_network.specs.declared.limits.TheConstants.{LATEST_KEPT}
use Rattle.stp_network.specs.Rows.{IsKept}
use Rattle.stp_network.proofs.Linked.{kept_taken}
use Rattle.stp_network.proofs.rows.Rows.take_back.Goals as goal

pub returns-in-Some-clause-kept : goal.returns-in-Some-clause-kept
returns-in-Some-clause-kept c =
    kept_taken LATEST_KEPT c.args.self.now.times.items c.args.self.now.heads.items c.pop.new.self.items c.in-Some.edge
    (subst (λ (es : List Edge). IsKept LATEST_KEPT c.args.self.now.times.items c.args.self.now.heads.items es) c.in-Some.ensures.items c.requires.kept)
