-- What the rows answer of edges holds of constraints: the bound is the same in fewer bits, and the rows have a point.
use Rattle.std.proofs.Common.{◌≡◌, ◌-◌, ◌<◌, ℤ, [], ◌∷◌, ◌++◌, max, map, length, ap, sym, ◌∙◌, arith}
use Rattle.std.proofs.lemmas.Int.{ints}
use Rattle.std.proofs.lemmas.List.{length-append}
use mir.Syntax.{w64, w128}
use mir.Val.{to_z, of_z}
use Rattle.stp_network.specs.declared.edge.Edge.{Edge}
use Rattle.stp_network.specs.declared.limits.TheConstants.{LATEST_KEPT}
use Rattle.stp_network.specs.Network.{Constraint}
use Rattle.stp_network.specs.Edges.{constraint_of}
use Rattle.stp_network.specs.Held.{points_of}
use Rattle.stp_network.proofs.Answering.{after, constraints_are, exact_answer, has_points, length_after, same_network}
use Rattle.stp_network.proofs.network.Network.add.Goals as goal

-- the bound in 64 bits
abbrev narrowed : ℤ → ℤ
narrowed bound = to_z w64 (of_z w64 (to_z w128 (of_z w128 bound)))

pub invariant_of-self : goal.invariant_of-self
invariant_of-self c =
    let spare : c.args.self.now.spare_edges ≡ c.self.inside.most_edges - length c.self.inside.edges.items = sym (ap (λ v. v.spare_edges) c.self.view_is) in
    let e : Edge = record { from = c.args.from.0; to = c.args.to.0; bound = narrowed c.args.bound; strict = c.args.strict; next = c.index.result.now } in
    record {
      even = c.admit.ensures.even;
      kept = c.admit.ensures.kept;
      room = c.admit.ensures.room c.self.inside.most_points c.self.invariant.room;
      edges_room = omega (arith, c.admit.ensures.capacity, c.self.invariant.edges_room);
      points_fit = omega (arith, c.admit.ensures.points, c.self.invariant.points_fit);
      edges_fit = omega (arith, length_after c.admit.result c.self.inside.edges.items c.admit.new.edges.items e c.admit.ensures.edges);
      points_rooted = λ none. c.self.invariant.points_rooted (sym c.admit.ensures.points ∙ none);
      edges_rooted = λ none. c.self.invariant.edges_rooted (sym c.admit.ensures.points ∙ none);
    }

pub returns-clause-exact : goal.returns-clause-exact
returns-clause-exact c =
    let same : narrowed c.args.bound ≡ c.args.bound = omega (arith, ints) in
    let e : Edge = record { from = c.args.from.0; to = c.args.to.0; bound = narrowed c.args.bound; strict = c.args.strict; next = c.index.result.now } in
    let b : Constraint = record { from = c.args.from.0; to = c.args.to.0; bound = c.args.bound; strict = c.args.strict } in
    let there : b ≡ constraint_of e = ap (λ z. let x : Constraint = record { from = c.args.from.0; to = c.args.to.0; bound = z; strict = c.args.strict } in x) (sym same) in
    let constraints : c.args.self.now.constraints ≡ map constraint_of c.self.inside.edges.items = sym (ap (λ v. v.constraints) c.self.view_is) in
    let points : c.args.self.now.points ≡ points_of c.self.inside.rows = sym (ap (λ v. v.points) c.self.view_is) in
    let spare : c.args.self.now.spare_edges ≡ c.self.inside.most_edges - length c.self.inside.edges.items = sym (ap (λ v. v.spare_edges) c.self.view_is) in
    let some : 0 < length c.self.inside.rows.times.items = has_points (length c.self.inside.rows.times.items) c.self.inside.most_edges c.self.invariant.edges_rooted (omega (arith, c.requires.spare)) in
    exact_answer c.admit.result LATEST_KEPT (length c.self.inside.rows.times.items) c.self.inside.edges.items c.admit.new.edges.items c.self.inside.rows.heads.items e
    c.args.self.now.constraints b c.admit.new.self.times.items c.admit.new.self.heads.items constraints there c.admit.ensures.edges c.admit.ensures.kept
    c.self.invariant.kept.few c.self.invariant.kept.linked (omega (arith, c.requires.from)) (omega (arith, c.requires.to)) c.admit.ensures.none

pub returns-clause-added : goal.returns-clause-added
returns-clause-added c = λ yes.
    let same : narrowed c.args.bound ≡ c.args.bound = omega (arith, ints) in
    let e : Edge = record { from = c.args.from.0; to = c.args.to.0; bound = narrowed c.args.bound; strict = c.args.strict; next = c.index.result.now } in
    let b : Constraint = record { from = c.args.from.0; to = c.args.to.0; bound = c.args.bound; strict = c.args.strict } in
    let there : b ≡ constraint_of e = ap (λ z. let x : Constraint = record { from = c.args.from.0; to = c.args.to.0; bound = z; strict = c.args.strict } in x) (sym same) in
    let constraints : c.args.self.now.constraints ≡ map constraint_of c.self.inside.edges.items = sym (ap (λ v. v.constraints) c.self.view_is) in
    let points : c.args.self.now.points ≡ points_of c.self.inside.rows = sym (ap (λ v. v.points) c.self.view_is) in
    let spare_points : c.args.self.now.spare_points ≡ c.self.inside.most_points - points_of c.self.inside.rows = sym (ap (λ v. v.spare_points) c.self.view_is) in
    let spare_edges : c.args.self.now.spare_edges ≡ c.self.inside.most_edges - length c.self.inside.edges.items = sym (ap (λ v. v.spare_edges) c.self.view_is) in
    let edges : c.admit.new.edges.items ≡ c.self.inside.edges.items ++ e ∷ [] = c.admit.ensures.edges ∙ ap (λ r. after r c.self.inside.edges.items e) yes in
    let still : max 1 (length c.admit.new.self.times.items) ≡ c.args.self.now.points = ap (λ n. max 1 n) c.admit.ensures.points ∙ sym points in
    same_network (max 1 (length c.admit.new.self.times.items)) c.args.self.now.points
    (map constraint_of c.admit.new.edges.items) (c.args.self.now.constraints ++ b ∷ [])
    (c.self.inside.most_points - max 1 (length c.admit.new.self.times.items)) c.args.self.now.spare_points
    (c.self.inside.most_edges - length c.admit.new.edges.items) (c.args.self.now.spare_edges - 1)
    still
    (ap (λ x. map constraint_of x) edges ∙ sym (constraints_are c.self.inside.edges.items e c.args.self.now.constraints b constraints there))
    (omega (arith, still, points))
    (omega (arith, ap length edges, length-append c.self.inside.edges.items (e ∷ [])))
