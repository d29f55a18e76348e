use Rattle.std.proofs.Common.{◌∙◌, ◌∷◌, [], ap, length, length-append, arith}
use Rattle.stp_types.proofs.Above.{above_within, rooted}
use Rattle.stp_types.proofs.Made.{path_steps, path_children, path_here}
use Rattle.stp_types.proofs.rows.climb.Goals as goal

pub bounds-rows-at : goal.bounds-rows-at
bounds-rows-at c =
    let w = above_within c.args.parents.now c.requires.table (length c.loop-at.path.items) c.args.start c.requires.there in
    let here = c.loop-at.invariant.here in
    omega arith

pub bounds-parents-at : goal.bounds-parents-at
bounds-parents-at c =
    let w = above_within c.args.parents.now c.requires.table (length c.loop-at.path.items) c.args.start c.requires.there in
    let here = c.loop-at.invariant.here in
    omega arith

pub loop-at-smaller : goal.loop-at-smaller
loop-at-smaller c =
    let fewer = rooted c.args.parents.now c.requires.table c.requires.forest (length c.loop-at.path.items) c.args.start c.requires.there c.loop-at.invariant.children in
    let longer = ap length c.in_ok-push.ensures.items ∙ length-append c.loop-at.path.items (c.loop-at.at ∷ []) in
    omega (arith, fewer, longer)

pub loop-at-preserved : goal.loop-at-preserved
loop-at-preserved c = rw c.in_ok-push.ensures.items (record {
  steps = path_steps c.args.parents.now c.args.start c.loop-at.path.items c.loop-at.at c.loop-at.invariant.steps c.loop-at.invariant.here;
  children = path_children c.args.parents.now c.args.start c.loop-at.path.items c.loop-at.at c.loop-at.invariant.children c.loop-at.invariant.here c.loop-at-test.true;
  here = path_here c.args.parents.now c.args.start c.loop-at.path.items c.loop-at.at c.loop-at.invariant.here;
})
