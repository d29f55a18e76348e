-- The least times of the edges are those of the constraints, and a list of them is the row.
use Rattle.std.proofs.Common.{◌≡◌, ℕ, ◌+◌, ◌^◌, List, get_or, map, ap, sym, subst, ◌∙◌}
use Rattle.stp_network.specs.declared.edge.Edge.{Edge}
use Rattle.stp_network.specs.Network.{IsEarliest}
use Rattle.stp_network.specs.Edges.{constraint_of}
use Rattle.stp_network.specs.Lowest.{HasTimes, IsBelowAll, SolvesEdges}
use Rattle.stp_network.proofs.Answering.{earliest_of, finer_times}
use Rattle.stp_network.proofs.network.Network.earliest.Goals as goal

pub lowest_row-requires-clause-times : goal.lowest_row-requires-clause-times
lowest_row-requires-clause-times c =
    subst (λ (es : List Edge). HasTimes (c.points-points.result + 1) es (2 ^ 126)) (sym c.deref.ensures.value)
    (finer_times c.points-points.result c.self.inside.rows.times.items c.self.inside.rows.heads.items c.self.inside.edges.items c.self.invariant.kept c.points-points.ensures)

pub returns : goal.returns
returns c =
    let n : ℕ = c.points-points.result in
    let es : List Edge = c.self.inside.edges.items in
    let row : List ℕ = c.in_ok-row.row.items in
    let points : n ≡ c.args.self.now.points = c.points-points.ensures ∙ ap (λ v. v.points) c.self.view_is in
    let constraints : c.args.self.now.constraints ≡ map constraint_of es = sym (ap (λ v. v.constraints) c.self.view_is) in
    let solves : SolvesEdges (n + 1) es (λ p. get_or row p 0) =
    subst (λ (x : List Edge). SolvesEdges (n + 1) x (λ p. get_or row p 0)) c.deref.ensures.value c.in_ok-row.ensures.solves in
    let below : IsBelowAll (n + 1) es row =
    subst (λ (x : List Edge). IsBelowAll (n + 1) x row) c.deref.ensures.value c.in_ok-row.ensures.below in
    let earliest : IsEarliest (c.args.self.now.points + 1) c.args.self.now.points c.args.self.now.constraints row =
    subst (λ (m : ℕ). IsEarliest (m + 1) m c.args.self.now.constraints row) points
    (earliest_of (n + 1) n es c.args.self.now.constraints row constraints c.in_ok-row.ensures.count solves below) in
    subst (λ (xs : List ℕ). IsEarliest (c.args.self.now.points + 1) c.args.self.now.points c.args.self.now.constraints xs) (sym c.from_vec.ensures) earliest
