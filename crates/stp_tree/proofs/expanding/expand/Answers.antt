use Rattle.std.proofs.Common.{◌≡◌, ◌<◌, ◌≤◌, [], ◌∷◌, ◌++◌, length, map, take, sym, ap, ◌∙◌, subst, arith}
use Rattle.std.proofs.lemmas.List.{length-map, length_push, map_push}
use Rattle.stp_tree.specs.Queues.{IsQueue}
use Rattle.stp_tree.specs.Answers.{IsChild}
use Rattle.stp_tree.proofs.Places.{is_false}
use Rattle.stp_tree.proofs.Children.{next_move, not_tried, looked_new, looked_met, met_more, after_none, after_past, after_full, after_new, after_met, parent_path}
use Rattle.stp_tree.proofs.expanding.expand.Goals as goal
use Rattle.stp_tree.proofs.expanding.expand.Goals.{in-No, in-Past, in-Node+else-is_valid+then-len-most+in_ok-is_new-in-Node+then-branch+in_ok-push-in-Node, in-Node+else-is_valid+then-len-most+in_ok-is_new-in-Node+else-branch, in-Node+else-is_valid+else-len-most}

pub loop-next-preserved : goal.loop-next-preserved
loop-next-preserved g c =
    let t = c.args.space.now in
    let m = c.next-item.result in
    let i = c.loop-next.next-index in
    let items = c.loop-next.nodes.items in
    let es = map g.S.Space.path items in
    let moves = g.S.Space.moves t in
    let listed = c.all_moves-next-items.result.now in
    let there : c.args.at < length es = omega (arith, c.loop-next.invariant.0, length-map items g.S.Space.path) in
    let parent = parent_path g.S.Space.path items c.args.at c.index.result.now c.loop-next.invariant.0 c.index.ensures in
    let all = next_move moves listed i m c.all_moves-next-items.ensures (omega arith) c.next-item.is in
    let new = not_tried (g.S.Space.nodes t) (g.S.Space.valid t) (g.S.Space.skips t) moves listed i m (g.met.S.Space.tree t) c.all_moves-next-items.ensures (omega arith) c.next-item.is in
    let path = g.S.Space.path in
    let s = path c.index.result.now in
    let nodes = g.S.Space.nodes t in
    let valid = g.S.Space.valid t in
    let skips = g.S.Space.skips t in
    let within = g.S.Space.within t in
    let limit = g.S.Space.limit t in
    let tree = g.met.S.Space.tree t in
    let most = c.args.most in
    let cut = c.loop-next.cut in
    let at = c.args.at in
    let tried = take i moves in
    let q = c.loop-next.invariant.1 in
    let met = c.loop-next.invariant.2 in
    let fits = c.in_ok-child.ensures.fits in
    let child = c.in_ok-child.ensures.child in
    elim c.match-branch-2.branch [
      | in-No w ↦
          let h = subst (λ r. IsChild nodes skips within path s m r) w.in-No.is child in
          rw (w.nodes-is, w.cut-is, w.rests-is, all) (c.loop-next.invariant.0, after_none nodes valid skips moves limit most cut at tried es m s q parent h, met, fits)
      | in-Past w ↦
          let h = subst (λ r. IsChild nodes skips within path s m r) w.in-Past.is child in
          rw (w.nodes-is, w.cut-is, w.rests-is, all) (c.loop-next.invariant.0, after_past nodes valid skips within moves limit most cut at tried es m s tree (g.met.S.Space.short_within t) there q parent h, met, fits)
      | in-Node+else-is_valid+then-len-most+in_ok-is_new-in-Node+then-branch+in_ok-push-in-Node w ↦
          let h = subst (λ r. IsChild nodes skips within path s m r) w.in-Node.is child in
          let child_path = path w.in-Node.child in
          let not_valid : valid child_path → ⊥ = λ v. is_false w.is_valid.result w.if-is_valid.false (w.is_valid.ensures.1 v) in
          let longer : map path w.push.new.self.items ≡ es ++ child_path ∷ [] = ap (map path) w.in_ok-push-in-Node.ensures.items ∙ map_push path items w.in-Node.child in
          let room : length es < most = omega (arith, w.if-len-most.true, w.len.ensures, length-map items path) in
          let more : IsQueue nodes valid skips moves limit most cut at (tried ++ m ∷ []) (es ++ child_path ∷ []) = after_new nodes valid skips moves limit most cut at tried es m s child_path there new room q parent h.0 h.1 not_valid in
          let looked = looked_new (g.S.Space.state t) child_path (g.S.Space.met c.loop-next.rests) (g.S.Space.met w.is_new.new.rests) w.in_ok-is_new-in-Node.field-0 w.in_ok-is_new-in-Node.ensures w.if-branch.true in
          let met_now = met_more (g.S.Space.state t) es child_path (g.S.Space.met c.loop-next.rests) (g.S.Space.met w.is_new.new.rests) met looked in
          rw (w.nodes-is, w.cut-is, w.rests-is, all, longer) (omega (arith, c.loop-next.invariant.0, ap length w.in_ok-push-in-Node.ensures.items, length_push items w.in-Node.child), more, met_now, fits)
      | in-Node+else-is_valid+then-len-most+in_ok-is_new-in-Node+else-branch w ↦
          let h = subst (λ r. IsChild nodes skips within path s m r) w.in-Node.is child in
          let child_path = path w.in-Node.child in
          let old = looked_met (g.S.Space.state t) child_path (g.S.Space.met c.loop-next.rests) (g.S.Space.met w.is_new.new.rests) w.in_ok-is_new-in-Node.field-0 w.in_ok-is_new-in-Node.ensures w.if-branch.false in
          let next = after_met nodes valid skips moves limit most cut at tried es m s child_path (g.S.Space.state t) (g.S.Space.met c.loop-next.rests) old.0 (g.met.S.Space.rests t) met there q parent h.0 old.1 old.2 in
          rw (w.nodes-is, w.cut-is, w.rests-is, all, old.3) (c.loop-next.invariant.0, next, met, fits)
      | in-Node+else-is_valid+else-len-most w ↦
          let h = subst (λ r. IsChild nodes skips within path s m r) w.in-Node.is child in
          let child_path = path w.in-Node.child in
          let not_valid : valid child_path → ⊥ = λ v. is_false w.is_valid.result w.if-is_valid.false (w.is_valid.ensures.1 v) in
          let full : most ≤ length es = omega (arith, w.if-len-most.false, w.len.ensures, length-map items path) in
          rw (w.nodes-is, w.cut-is, w.rests-is, all) (c.loop-next.invariant.0, after_full nodes valid skips moves limit most cut at tried es m s child_path tree there new full q parent h.0 h.1 not_valid, met, fits)
    ]
