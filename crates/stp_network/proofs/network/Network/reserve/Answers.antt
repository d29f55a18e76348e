-- Where memory is wanting, points and edges stay, and no room goes.
use Rattle.std.proofs.Common.{◌≡◌, length, ap, sym, ◌∙◌, arith}
use Rattle.stp_network.specs.declared.limits.TheConstants.{LATEST_KEPT}
use Rattle.stp_network.proofs.Kept.{kept_same}
use Rattle.stp_network.proofs.network.Network.reserve.Goals as goal

pub invariant_of-self-in_err-prepare : goal.invariant_of-self-in_err-prepare
invariant_of-self-in_err-prepare c =
    let counted : length c.prepare.new.self.times.items ≡ length c.self.inside.rows.times.items = ap length c.in_err-prepare.ensures.times in
    record {
      even = c.prepare.ensures.even;
      kept = kept_same LATEST_KEPT c.self.inside.rows.times.items c.self.inside.rows.heads.items c.prepare.new.self.times.items c.prepare.new.self.heads.items
          c.self.inside.edges.items c.reserve.new.self.items c.in_err-prepare.ensures.times c.in_err-prepare.ensures.heads c.reserve.ensures.items c.self.invariant.kept;
      room = c.prepare.ensures.kept c.self.inside.most_points c.self.invariant.room;
      edges_room = omega (arith, c.reserve.ensures.capacity, c.self.invariant.edges_room);
      points_fit = omega (arith, c.self.invariant.points_fit);
      edges_fit = omega (arith, ap length c.reserve.ensures.items, c.self.invariant.edges_fit);
      points_rooted = λ none. c.self.invariant.points_rooted (sym counted ∙ none);
      edges_rooted = λ none. c.self.invariant.edges_rooted (sym counted ∙ none);
    }
