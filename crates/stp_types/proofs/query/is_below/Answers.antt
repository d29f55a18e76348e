use Rattle.std.proofs.Common.{◌≢◌, ap, ◌∙◌, arith}
use Rattle.stp_types.specs.Rows.{depth_of}
use Rattle.stp_types.proofs.Asking.{climbed_jump, climbed_parent, answer}
use Rattle.stp_types.proofs.query.is_below.Goals as goal

pub loop-at-preserved-then-rows-row : goal.loop-at-preserved-then-rows-row
loop-at-preserved-then-rows-row c =
    let i = c.loop-at.invariant in
    let rows = c.args.rows.now in
    let at = c.loop-at.at in
    let child : at ≢ 0 = λ z. let e = ap (depth_of rows) z ∙ c.requires.rows.top in let deep = c.loop-at-test.true in omega (arith, e, deep) in
    let up = c.requires.rows.jump_above at i.within child in
    record {
      within = c.requires.rows.jump_within at i.within;
      shallow = let s = i.shallow in omega arith;
      below = let far = c.if-rows-row.true in omega (arith, far);
      here = climbed_jump rows c.requires.rows c.args.kind at c.requires.kind i.within child i.shallow i.here;
    }

pub loop-at-preserved : goal.loop-at-preserved
loop-at-preserved c =
    let i = c.loop-at.invariant in
    let rows = c.args.rows.now in
    let at = c.loop-at.at in
    let deep = c.loop-at-test.true in
    let child : at ≢ 0 = λ z. let e = ap (depth_of rows) z ∙ c.requires.rows.top in omega (arith, e, deep) in
    let up = c.requires.rows.depth at i.within child in
    record {
      within = c.requires.rows.parent_within at i.within;
      shallow = let s = i.shallow in omega arith;
      below = let b = i.below in omega (arith, deep, up, b);
      here = climbed_parent rows c.requires.rows c.args.kind at c.requires.kind i.within child i.shallow i.here;
    }

pub returns : goal.returns
returns c =
    let i = c.loop-at.invariant in
    answer c.args.rows.now c.requires.rows c.args.kind c.args.other c.loop-at.at c.requires.kind c.requires.other i.within i.shallow i.below c.loop-at-test.false i.here
