-- A point comes at the origin's time; what is spare shows that there is the origin.
use Rattle.std.proofs.Common.{◌≡◌, ℕ, ◌+◌, ◌-◌, ◌<◌, List, [], ◌∷◌, ◌++◌, get_or, length, refl, ap, sym, ◌∙◌, arith}
use Rattle.std.proofs.lemmas.List.{get_or_default, length-append}
use Rattle.stp_network.specs.declared.limits.TheConstants.{LATEST_KEPT}
use Rattle.stp_network.specs.Held.{points_of}
use Rattle.stp_network.proofs.Answering.{has_points}
use Rattle.stp_network.proofs.Kept.{kept_more, kept_same}
use Rattle.stp_network.proofs.network.Network.add_point.Goals as goal

pub invariant_of-self : goal.invariant_of-self
invariant_of-self c =
    let times : List ℕ = c.self.inside.rows.times.items in
    let points : c.args.self.now.points ≡ points_of c.self.inside.rows = sym (ap (λ v. v.points) c.self.view_is) in
    let spare : c.args.self.now.spare_points ≡ c.self.inside.most_points - points_of c.self.inside.rows = sym (ap (λ v. v.spare_points) c.self.view_is) in
    let some : 0 < length times = has_points (length times) c.self.inside.most_points c.self.invariant.points_rooted (omega (arith, c.requires.spare)) in
    let counted : length c.put_point.new.self.times.items ≡ length times + 1 = ap length c.put_point.ensures.times ∙ length-append times (c.index-origin.result.now ∷ []) in
    let origin : c.index-origin.result.now ≡ get_or times 0 0 = c.index-origin.ensures ∙ get_or_default times 0 c.index-origin.result.now 0 some in
    let more : c.put_point.new.self.times.items ≡ times ++ get_or times 0 0 ∷ [] = c.put_point.ensures.times ∙ ap (λ x. times ++ x ∷ []) origin in
    record {
      even = c.put_point.ensures.even;
      kept = kept_same LATEST_KEPT (times ++ get_or times 0 0 ∷ []) (c.self.inside.rows.heads.items ++ 0 ∷ []) c.put_point.new.self.times.items c.put_point.new.self.heads.items
          c.self.inside.edges.items c.self.inside.edges.items more c.put_point.ensures.heads refl
          (kept_more times c.self.inside.rows.heads.items c.self.inside.edges.items c.self.invariant.kept some (omega (arith, c.requires.few)));
      room = c.put_point.ensures.room c.self.inside.most_points c.self.invariant.room;
      edges_room = c.self.invariant.edges_room;
      points_fit = omega (arith, c.requires.spare);
      edges_fit = c.self.invariant.edges_fit;
      points_rooted = λ none. absurd (omega arith);
      edges_rooted = λ none. absurd (omega arith);
    }
