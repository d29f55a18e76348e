use Rattle.std.proofs.Common.{refl, arith}
use Rattle.stp_types.specs.Forest.{parent_of}
use Rattle.stp_types.specs.Rows.{row_at}
use Rattle.stp_types.proofs.Depths.{jump_within, jump_done, jump_shallow, depth_small, near_row, far_row}
use Rattle.stp_types.proofs.rows.row_under.Goals as goal

-- the parent's jump is a type, and so is the jump of that
pub overflow_cast-jump : goal.overflow_cast-jump
overflow_cast-jump c =
    let there = c.requires.table.within c.args.kind c.requires.there in
    let one = jump_within c.args.parents.now c.requires.table c.requires.forest c.args.rows.now c.requires.right (parent_of c.args.parents.now c.args.kind) there c.requires.parent in
    omega arith

pub offset_bounds-rows-above : goal.offset_bounds-rows-above
offset_bounds-rows-above c =
    let there = c.requires.table.within c.args.kind c.requires.there in
    let one = jump_within c.args.parents.now c.requires.table c.requires.forest c.args.rows.now c.requires.right (parent_of c.args.parents.now c.args.kind) there c.requires.parent in
    omega arith

pub bounds-rows-above : goal.bounds-rows-above
bounds-rows-above c =
    let there = c.requires.table.within c.args.kind c.requires.there in
    let one = jump_within c.args.parents.now c.requires.table c.requires.forest c.args.rows.now c.requires.right (parent_of c.args.parents.now c.args.kind) there c.requires.parent in
    omega arith

pub overflow_cast-far : goal.overflow_cast-far
overflow_cast-far c =
    let there = c.requires.table.within c.args.kind c.requires.there in
    let q = parent_of c.args.parents.now c.args.kind in
    let one = jump_within c.args.parents.now c.requires.table c.requires.forest c.args.rows.now c.requires.right q there c.requires.parent in
    let done = jump_done c.args.parents.now c.requires.table c.requires.forest c.args.rows.now c.requires.right q there c.requires.parent in
    let two = jump_within c.args.parents.now c.requires.table c.requires.forest c.args.rows.now c.requires.right (row_at c.args.rows.now q).jump one done in
    omega arith

pub offset_bounds-rows-jump : goal.offset_bounds-rows-jump
offset_bounds-rows-jump c =
    let there = c.requires.table.within c.args.kind c.requires.there in
    let q = parent_of c.args.parents.now c.args.kind in
    let one = jump_within c.args.parents.now c.requires.table c.requires.forest c.args.rows.now c.requires.right q there c.requires.parent in
    let done = jump_done c.args.parents.now c.requires.table c.requires.forest c.args.rows.now c.requires.right q there c.requires.parent in
    let two = jump_within c.args.parents.now c.requires.table c.requires.forest c.args.rows.now c.requires.right (row_at c.args.rows.now q).jump one done in
    omega arith

pub bounds-rows-jump : goal.bounds-rows-jump
bounds-rows-jump c =
    let there = c.requires.table.within c.args.kind c.requires.there in
    let q = parent_of c.args.parents.now c.args.kind in
    let one = jump_within c.args.parents.now c.requires.table c.requires.forest c.args.rows.now c.requires.right q there c.requires.parent in
    let done = jump_done c.args.parents.now c.requires.table c.requires.forest c.args.rows.now c.requires.right q there c.requires.parent in
    let two = jump_within c.args.parents.now c.requires.table c.requires.forest c.args.rows.now c.requires.right (row_at c.args.rows.now q).jump one done in
    omega arith

pub overflow_add-result : goal.overflow_add-result
overflow_add-result c =
    let there = c.requires.table.within c.args.kind c.requires.there in
    let small = depth_small c.args.parents.now c.requires.table c.requires.forest c.args.rows.now c.requires.right (parent_of c.args.parents.now c.args.kind) there c.requires.parent in
    omega arith

pub overflow_sub-above : goal.overflow_sub-above
overflow_sub-above c =
    jump_shallow c.args.parents.now c.requires.table c.requires.forest c.args.rows.now c.requires.right (parent_of c.args.parents.now c.args.kind) (c.requires.table.within c.args.kind c.requires.there) c.requires.parent

pub overflow_sub-jump : goal.overflow_sub-jump
overflow_sub-jump c =
    let there = c.requires.table.within c.args.kind c.requires.there in
    let q = parent_of c.args.parents.now c.args.kind in
    let one = jump_within c.args.parents.now c.requires.table c.requires.forest c.args.rows.now c.requires.right q there c.requires.parent in
    let done = jump_done c.args.parents.now c.requires.table c.requires.forest c.args.rows.now c.requires.right q there c.requires.parent in
    jump_shallow c.args.parents.now c.requires.table c.requires.forest c.args.rows.now c.requires.right (row_at c.args.rows.now q).jump one done

pub returns-then-above-jump-clause-row : goal.returns-then-above-jump-clause-row
returns-then-above-jump-clause-row c = far_row c.args.parents.now c.requires.table c.requires.forest c.args.rows.now c.requires.right c.args.kind _ c.requires.there c.requires.child c.requires.parent refl refl refl

pub returns-else-above-jump-clause-row : goal.returns-else-above-jump-clause-row
returns-else-above-jump-clause-row c = near_row c.args.parents.now c.requires.table c.requires.forest c.args.rows.now c.requires.right c.args.kind _ c.requires.there c.requires.child c.requires.parent refl refl refl
