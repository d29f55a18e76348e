use Rattle.std.proofs.Common.{rules, ◌≡◌, ◌≤◌, ◌<◌, ℕ, true, false, [], ◌∷◌, length, map, sym, ap, ◌∙◌, subst, arith}
use Rattle.std.proofs.lemmas.List.{length-map}
use Rattle.stp_tree.specs.Queues.{IsQueue}
use Rattle.stp_tree.specs.Rests.{AreMet}
use Rattle.stp_tree.specs.Expansions.{IsExpanded}
use Rattle.stp_tree.proofs.Steps.{next_place}
use Rattle.stp_tree.proofs.Ends.{exhausted, spent, spent_unused}
use Rattle.stp_tree.proofs.Places.{is_false}
use Rattle.stp_tree.proofs.breadth.breadth_first.Goals as goal

pub returns-then-most-eq0-clause-answer : goal.returns-then-most-eq0-clause-answer
returns-then-most-eq0-clause-answer g c =
    let t = c.args.space.now in
    let none : g.S.Space.valid t (g.S.Space.path c.in_ok-root.root) → ⊥ = λ v. is_false c.is_valid.result c.if-is_valid.false (c.is_valid.ensures.1 v) in
    spent_unused (g.S.Space.nodes t) (g.S.Space.valid t) (g.S.Space.limit t) c.args.most c.if-most-eq0.true (g.met.S.Space.tree t).root (subst (λ s. g.S.Space.valid t s → ⊥) c.in_ok-root.ensures.root none)

pub loop-at-init : goal.loop-at-init
loop-at-init g c =
    let t = c.args.space.now in
    let alone : c.push.new.self.items ≡ c.in_ok-root.root ∷ [] = search rules in
    let met : AreMet (g.S.Space.state t) (map g.S.Space.path c.push.new.self.items) (g.S.Space.met c.in_ok-rests.rests) = subst (λ items. AreMet (g.S.Space.state t) (map g.S.Space.path items) (g.S.Space.met c.in_ok-rests.rests)) (sym alone) c.in_ok-rests.ensures in
    (search rules, search rules, met, search rules)

pub loop-at-preserved : goal.loop-at-preserved
loop-at-preserved g c =
    let t = c.args.space.now in
    let items = c.expand.new.nodes.items in
    let es = map g.S.Space.path items in
    let o = subst (λ r. IsExpanded (g.S.Space.nodes t) (g.S.Space.valid t) (g.S.Space.skips t) (g.S.Space.within t) (g.S.Space.moves t) (g.S.Space.state t) g.S.Space.path (g.S.Space.limit t) c.args.most c.loop-at.at es (g.S.Space.met c.expand.new.rests) r) c.in-Open.is c.in_ok-node.ensures.expanded in (
      omega (arith, o.0, length-map items g.S.Space.path),
      next_place (g.S.Space.nodes t) (g.S.Space.valid t) (g.S.Space.skips t) (g.S.Space.moves t) (g.S.Space.limit t) c.args.most c.in-Open.now c.loop-at.at es o.1 o.0,
      o.2,
      c.in_ok-node.ensures.fits,
    )

pub returns-then-cut-clause-answer : goal.returns-then-cut-clause-answer
returns-then-cut-clause-answer g c =
    let t = c.args.space.now in
    let es = map g.S.Space.path c.loop-at.nodes.items in
    spent (g.S.Space.nodes t) (g.S.Space.valid t) (g.S.Space.skips t) (g.S.Space.moves t) (g.S.Space.limit t) c.args.most c.loop-at.at es (g.met.S.Space.tree t)
    (subst (λ b. IsQueue (g.S.Space.nodes t) (g.S.Space.valid t) (g.S.Space.skips t) (g.S.Space.moves t) (g.S.Space.limit t) c.args.most b c.loop-at.at [] es) c.if-cut.true c.loop-at.invariant.1)
    (omega (arith, length-map c.loop-at.nodes.items g.S.Space.path))

pub returns-clause-answer : goal.returns-clause-answer
returns-clause-answer g c =
    let t = c.args.space.now in
    let es = map g.S.Space.path c.loop-at.nodes.items in
    exhausted (g.S.Space.nodes t) (g.S.Space.valid t) (g.S.Space.skips t) (g.S.Space.moves t) (g.S.Space.limit t) c.args.most c.loop-at.at es (g.met.S.Space.tree t)
    (subst (λ b. IsQueue (g.S.Space.nodes t) (g.S.Space.valid t) (g.S.Space.skips t) (g.S.Space.moves t) (g.S.Space.limit t) c.args.most b c.loop-at.at [] es) c.if-cut.false c.loop-at.invariant.1)
    (omega (arith, length-map c.loop-at.nodes.items g.S.Space.path))
