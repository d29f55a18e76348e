-- Depths of types, and rows that are made one after the other.
use Rattle.std.proofs.Common.{◌≡◌, ◌≢◌, ℕ, zero, suc, ◌+◌, ◌-◌, ◌<◌, ◌≤◌, inl, inr, refl, sym, ap, ◌∙◌, arith, List, length, subst, add-one}
use Rattle.std.proofs.lemmas.Bool.{cases_eq, cases_lt}
use Rattle.stp_types.specs.declared.row.Ancestry.{Ancestry}
use Rattle.stp_types.specs.Forest.{parent_of, above, IsTable, IsForest}
use Rattle.stp_types.specs.Rows.{row_at, depth_of}
use Rattle.stp_types.specs.Making.{IsDepth, IsRow, IsDone, AreRight}
use Rattle.stp_types.proofs.Above.{above_parts, above_sum, above_within, rooted}

module _ (p : List ℕ) where
  pub one_depth : (k d e : ℕ) → IsDepth p k d → IsDepth p k e → d ≡ e
  one_depth k d e a b = elim (cases_lt d e) [
    | inl lt ↦ absurd (b.least d lt a.root)
    | inr le ↦ elim (cases_eq d e) [
      | inl same ↦ same
      | inr other ↦ absurd (a.least e (omega arith) b.root)
    ]
  ]

  pub depth_up : (k d n : ℕ) → n ≤ d → IsDepth p k d → IsDepth p (above p n k) (d - n)
  depth_up k d n le a = record {
    root = sym (above_parts p d (d - n) n k (omega arith)) ∙ a.root;
    least = λ m h e. a.least (m + n) (omega arith) (above_sum p m n k ∙ e);
  }

  below_parent : (k d : ℕ) → k ≢ 0 → IsDepth p (parent_of p k) d → (n : ℕ) → n < suc d → above p n k ≢ 0
  below_parent k d child a zero h = child
  below_parent k d child a (suc n) h = a.least n (omega arith)

  -- one step more than the parent has
  pub depth_down : (k d : ℕ) → k ≢ 0 → IsDepth p (parent_of p k) d → IsDepth p k (d + 1)
  depth_down k d child a = rw add-one (record { root = a.root; least = below_parent k d child a })

  pub depth_root : IsDepth p 0 0
  depth_root = record { root = refl; least = λ n h. absurd (omega (arith, h)) }

-- what is known of a row that is made, and of that to which it jumps
module _ (p : List ℕ) (t : IsTable p) (forest : IsForest p) (rows : List Ancestry) (right : AreRight p rows) where
  pub done_up : (n k : ℕ) → k < length p → IsDone rows k → IsDone rows (above p n k)
  done_up zero k there done = done
  done_up (suc n) k there done = done_up n (parent_of p k) (t.within k there) (right.upwards k there done)

  pub jump_within : (k : ℕ) → k < length p → IsDone rows k → (row_at rows k).jump < length p
  jump_within k there done =
      let r = right.row k there done in
      let w = above_within p t r.steps k there in
      let e = r.jump in
      omega arith

  pub jump_done : (k : ℕ) → k < length p → IsDone rows k → IsDone rows (row_at rows k).jump
  jump_done k there done =
      let r = right.row k there done in
      subst (λ (x : ℕ). IsDone rows x) r.jump (done_up r.steps k there done)

  pub jump_depth : (k : ℕ) → (there : k < length p) → (done : IsDone rows k) → depth_of rows (row_at rows k).jump ≡ depth_of rows k - (right.row k there done).steps
  jump_depth k there done =
      let r = right.row k there done in
      let up = depth_up p k (depth_of rows k) r.steps r.within r.depth in
      let far = right.row (row_at rows k).jump (jump_within k there done) (jump_done k there done) in
      one_depth p (row_at rows k).jump (depth_of rows (row_at rows k).jump) (depth_of rows k - r.steps) far.depth (subst (λ (x : ℕ). IsDepth p x (depth_of rows k - r.steps)) r.jump up)

  pub jump_shallow : (k : ℕ) → k < length p → IsDone rows k → depth_of rows (row_at rows k).jump ≤ depth_of rows k
  jump_shallow k there done = let e = jump_depth k there done in omega arith

  pub depth_small : (k : ℕ) → k < length p → IsDone rows k → depth_of rows k < length p
  depth_small k there done = let r = right.row k there done in rooted p t forest (depth_of rows k) k there r.depth.least

  -- the row under one that is made, where it jumps to its parent
  pub near_row : (k : ℕ) (new : Ancestry) → k < length p → k ≢ 0 → IsDone rows (parent_of p k) → new.parent ≡ parent_of p k → new.depth ≡ depth_of rows (parent_of p k) + 1 → new.jump ≡ parent_of p k → IsRow p k new
  near_row k new there child done same deep jump = record {
    parent = same;
    depth = rw deep (depth_down p k (depth_of rows (parent_of p k)) child (right.row (parent_of p k) (t.within k there) done).depth);
    steps = 1;
    up = λ _. omega arith;
    within = omega arith;
    jump = sym jump;
  }

  -- where it jumps further
  pub far_row : (k : ℕ) (new : Ancestry) → k < length p → k ≢ 0 → IsDone rows (parent_of p k) → new.parent ≡ parent_of p k → new.depth ≡ depth_of rows (parent_of p k) + 1 → new.jump ≡ (row_at rows (row_at rows (parent_of p k)).jump).jump → IsRow p k new
  far_row k new there child done same deep jump =
      let q = parent_of p k in
      let q_there = t.within k there in
      let one = right.row q q_there done in
      let j = (row_at rows q).jump in
      let j_there = jump_within q q_there done in
      let j_done = jump_done q q_there done in
      let two = right.row j j_there j_done in
      let shallow = jump_depth q q_there done in
      record {
        parent = same;
        depth = rw deep (depth_down p k (depth_of rows q) child one.depth);
        steps = suc (two.steps + one.steps);
        up = λ _. omega arith;
        within = let a = one.within in let b = two.within in omega arith;
        jump = above_sum p two.steps one.steps q ∙ ap (above p two.steps) one.jump ∙ two.jump ∙ sym jump;
      }
