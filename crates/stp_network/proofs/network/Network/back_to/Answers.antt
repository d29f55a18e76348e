-- The first edges are between the first points, so both may be all that is left.
use Rattle.std.proofs.Common.{◌≡◌, ◌<◌, All, take, map, min, length, refl, ap, sym, ◌∙◌, arith}
use Rattle.std.proofs.lemmas.List.{length-take}
use Rattle.stp_network.specs.declared.limits.TheConstants.{LATEST_KEPT}
use Rattle.stp_network.specs.Edges.{constraint_of}
use Rattle.stp_network.specs.Held.{points_of}
use Rattle.stp_network.proofs.Answering.{edges_from, edges_to, first_constraints}
use Rattle.stp_network.proofs.Kept.{kept_same}
use Rattle.stp_network.proofs.Linked.{kept_first}
use Rattle.stp_network.proofs.network.Network.back_to.Goals as goal

pub returns-clause-constraints : goal.returns-clause-constraints
returns-clause-constraints c =
    sym (first_constraints c.args.mark.edges c.self.inside.edges.items c.withdraw.new.edges.items c.args.self.now.constraints
    (sym (ap (λ v. v.constraints) c.self.view_is)) c.withdraw.ensures.edges)

pub invariant_of-self : goal.invariant_of-self
invariant_of-self c =
    let points : c.args.self.now.points ≡ points_of c.self.inside.rows = sym (ap (λ v. v.points) c.self.view_is) in
    let first : take c.args.mark.edges c.args.self.now.constraints ≡ map constraint_of c.withdraw.new.edges.items =
    first_constraints c.args.mark.edges c.self.inside.edges.items c.withdraw.new.edges.items c.args.self.now.constraints
    (sym (ap (λ v. v.constraints) c.self.view_is)) c.withdraw.ensures.edges in
    let from : All (λ e. e.from < c.args.mark.points) c.withdraw.new.edges.items =
    edges_from c.args.mark.points c.withdraw.new.edges.items (take c.args.mark.edges c.args.self.now.constraints) first c.requires.within in
    let to : All (λ e. e.to < c.args.mark.points) c.withdraw.new.edges.items =
    edges_to c.args.mark.points c.withdraw.new.edges.items (take c.args.mark.edges c.args.self.now.constraints) first c.requires.within in
    let still : length c.withdraw.new.self.times.items ≡ length c.self.inside.rows.times.items = ap length c.withdraw.ensures.times in
    let counted : length c.cut.new.self.times.items ≡ min c.args.mark.points (length c.withdraw.new.self.times.items) =
    ap length c.cut.ensures.times ∙ length-take c.args.mark.points c.withdraw.new.self.times.items in
    let edges : length c.withdraw.new.edges.items ≡ min c.args.mark.edges (length c.self.inside.edges.items) =
    ap length c.withdraw.ensures.edges ∙ length-take c.args.mark.edges c.self.inside.edges.items in
    record {
      even = c.cut.ensures.even;
      kept = kept_same LATEST_KEPT (take c.args.mark.points c.withdraw.new.self.times.items) (take c.args.mark.points c.withdraw.new.self.heads.items)
          c.cut.new.self.times.items c.cut.new.self.heads.items c.withdraw.new.edges.items c.withdraw.new.edges.items c.cut.ensures.times c.cut.ensures.heads refl
          (kept_first LATEST_KEPT c.args.mark.points c.withdraw.new.self.times.items c.withdraw.new.self.heads.items c.withdraw.new.edges.items
          c.withdraw.ensures.kept c.requires.some (omega (arith, c.requires.points)) from to);
      room = c.cut.ensures.room c.self.inside.most_points (c.withdraw.ensures.room c.self.inside.most_points c.self.invariant.room);
      edges_room = omega (arith, c.withdraw.ensures.capacity, c.self.invariant.edges_room);
      points_fit = omega (arith, c.self.invariant.points_fit);
      edges_fit = omega (arith, c.self.invariant.edges_fit);
      points_rooted = λ none. c.self.invariant.points_rooted (omega (arith, c.requires.some));
      edges_rooted = λ none. c.self.invariant.edges_rooted (omega (arith, c.requires.some));
    }
