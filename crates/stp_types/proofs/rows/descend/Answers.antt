use Rattle.std.proofs.Common.{arith}
use Rattle.stp_types.proofs.Made.{last_there, last_child, last_parent, right_more, path_less, done_kept}
use Rattle.stp_types.proofs.rows.descend.Goals as goal

pub row_under-requires-clause-there : goal.row_under-requires-clause-there
row_under-requires-clause-there c = last_there c.args.parents.now c.requires.table c.args.start c.requires.there c.loop-kind.rows c.loop-kind.path.items c.pop.new.self.items c.in-Some.kind c.in-Some.ensures.items c.loop-kind.invariant.path

pub row_under-requires-clause-child : goal.row_under-requires-clause-child
row_under-requires-clause-child c = last_child c.args.parents.now c.requires.table c.args.start c.requires.there c.loop-kind.rows c.loop-kind.path.items c.pop.new.self.items c.in-Some.kind c.in-Some.ensures.items c.loop-kind.invariant.path

pub row_under-requires-clause-parent : goal.row_under-requires-clause-parent
row_under-requires-clause-parent c = last_parent c.args.parents.now c.requires.table c.args.start c.requires.there c.loop-kind.rows c.loop-kind.path.items c.pop.new.self.items c.in-Some.kind c.in-Some.ensures.items c.loop-kind.invariant.path

pub bounds-rows-kind : goal.bounds-rows-kind
bounds-rows-kind c =
    let there = last_there c.args.parents.now c.requires.table c.args.start c.requires.there c.loop-kind.rows c.loop-kind.path.items c.pop.new.self.items c.in-Some.kind c.in-Some.ensures.items c.loop-kind.invariant.path in
    let len = c.loop-kind.invariant.right.len in
    omega arith

pub loop-kind-preserved : goal.loop-kind-preserved
loop-kind-preserved c = record {
  right = right_more c.args.parents.now c.requires.table c.args.start c.requires.there c.loop-kind.rows c.loop-kind.path.items c.pop.new.self.items c.in-Some.kind c.in-Some.ensures.items c.loop-kind.invariant.path c.loop-kind.invariant.right c.row_under.result c.row_under.ensures.row c.row_under.ensures.deep;
  path = path_less c.args.parents.now c.requires.table c.args.start c.requires.there c.loop-kind.rows c.loop-kind.path.items c.pop.new.self.items c.in-Some.kind c.in-Some.ensures.items c.loop-kind.invariant.path c.loop-kind.invariant.right c.row_under.result c.row_under.ensures.row c.row_under.ensures.deep;
  kept = λ k done. done_kept c.args.parents.now c.requires.table c.args.start c.requires.there c.loop-kind.rows c.loop-kind.path.items c.pop.new.self.items c.in-Some.kind c.in-Some.ensures.items c.loop-kind.invariant.path c.loop-kind.invariant.right c.row_under.result c.row_under.ensures.row c.row_under.ensures.deep k (c.loop-kind.invariant.kept k done);
}
