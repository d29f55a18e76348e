-- All edges are between points that there are.
use Rattle.std.proofs.Common.{◌≡◌, map, ap, sym}
use Rattle.stp_network.specs.declared.limits.TheConstants.{LATEST_KEPT}
use Rattle.stp_network.specs.Edges.{constraint_of}
use Rattle.stp_network.proofs.Answering.{kept_within}
use Rattle.stp_network.proofs.network.Network.mark.Goals as goal

pub returns-clause-within : goal.returns-clause-within
returns-clause-within c =
    let constraints : c.args.self.now.constraints ≡ map constraint_of c.self.inside.edges.items = sym (ap (λ v. v.constraints) c.self.view_is) in
    kept_within LATEST_KEPT c.points.result c.self.inside.rows.times.items c.self.inside.rows.heads.items c.self.inside.edges.items
    c.args.self.now.constraints c.self.invariant.kept c.points.ensures constraints
