-- An edge comes that the kept times meet, or those that were moved; where none do, what was found of the edges holds of them.
use Rattle.std.proofs.Common.{ℕ, ◌+◌, ◌^◌, List, [], ◌∷◌, ◌++◌, get_or, set, length, refl, ap, subst, ◌∙◌}
use Rattle.stp_network.specs.declared.edge.Edge.{Edge}
use Rattle.stp_network.specs.declared.limits.TheConstants.{LATEST_KEPT}
use Rattle.stp_network.specs.Edges.{IsMetBy}
use Rattle.stp_network.specs.Raising.{HasNoPotential, IsPotential}
use Rattle.stp_network.proofs.Kept.{kept_judged, kept_same}
use Rattle.stp_network.proofs.Linked.{kept_put}
use Rattle.stp_network.proofs.rows.Rows.admit.Goals as goal

pub returns-then-is_met-clause-kept : goal.returns-then-is_met-clause-kept
returns-then-is_met-clause-kept c =
    let met : IsMetBy (λ q. get_or c.args.self.now.times.items q 0) c.args.edge =
    subst (λ (xs : List ℕ). IsMetBy (λ q. get_or xs q 0) c.args.edge) c.deref.ensures.value (c.if-is_met.ensures.0 refl) in
    kept_same LATEST_KEPT c.args.self.now.times.items (set c.args.self.now.heads.items c.args.edge.to (length c.args.edges.now.items + 1))
    c.put.new.self.times.items c.put.new.self.heads.items (c.args.edges.now.items ++ c.args.edge ∷ []) c.put.new.edges.items
    c.put.ensures.times c.put.ensures.heads c.put.ensures.edges
    (kept_put LATEST_KEPT c.args.self.now.times.items c.args.self.now.heads.items c.args.edges.now.items c.args.edge c.requires.kept
    c.requires.from c.requires.to c.requires.small c.requires.next c.requires.count met)

pub returns-then-not-judge-clause-none : goal.returns-then-not-judge-clause-none
returns-then-not-judge-clause-none c = λ same.
    subst (λ (es : List Edge). HasNoPotential (length c.args.self.now.times.items) es c.args.edge) c.deref-2.ensures.value (c.if-not-judge.ensures.none refl)

pub lower-requires-clause-kept : goal.lower-requires-clause-kept
lower-requires-clause-kept c =
    let potential : IsPotential (length c.args.self.now.times.items) c.args.edges.now.items (λ q. get_or c.judge.new.self.times.items q 0) =
    subst (λ (es : List Edge). IsPotential (length c.args.self.now.times.items) es (λ q. get_or c.judge.new.self.times.items q 0)) c.deref-2.ensures.value
    (c.if-not-judge.ensures.potential refl) in
    kept_same (2 ^ 126) c.judge.new.self.times.items (set c.args.self.now.heads.items c.args.edge.to (length c.args.edges.now.items + 1))
    c.put-2.new.self.times.items c.put-2.new.self.heads.items (c.args.edges.now.items ++ c.args.edge ∷ []) c.deref-3.result.now
    c.put-2.ensures.times (c.put-2.ensures.heads ∙ ap (λ hs. set hs c.args.edge.to (length c.args.edges.now.items + 1)) c.judge.ensures.heads)
    (c.deref-3.ensures.value ∙ c.put-2.ensures.edges)
    (kept_judged LATEST_KEPT (2 ^ 126) c.args.self.now.times.items c.args.self.now.heads.items c.judge.new.self.times.items c.args.edges.now.items c.args.edge
    c.requires.kept c.judge.ensures.count potential (c.if-not-judge.ensures.low refl) (c.if-not-judge.ensures.met refl)
    c.requires.from c.requires.to c.requires.small c.requires.next c.requires.count)

pub returns-clause-room : goal.returns-clause-room
returns-clause-room c = λ n room. c.lower.ensures.room n (c.put-2.ensures.room n (c.judge.ensures.room n room))
