-- Depths and jumps in rows of ancestry.
use Rattle.std.proofs.Common.{◌≡◌, ◌≢◌, ℕ, zero, suc, ◌-◌, ◌<◌, ◌≤◌, inl, inr, sym, ap, ◌∙◌, arith, List, length}
use Rattle.std.specs.Prelude.{◌==◌, min}
use Rattle.std.proofs.lemmas.Bool.{cases_eq, eq-eqb, eqb-true}
use Rattle.std.proofs.lemmas.List.{get_or-map, length-map}
use Rattle.stp_types.specs.declared.row.Ancestry.{Ancestry}
use Rattle.stp_types.specs.Forest.{parent_of, above, is_below}
use Rattle.stp_types.specs.Rows.{row_at, depth_of, parents_of, AreAncestries}
use Rattle.stp_types.proofs.Above.{above_parts}
use Rattle.stp_types.proofs.Deciding.{climbs_up, climbs_down, same_tests}

module _ (rows : List Ancestry) (a : AreAncestries rows) where
  pub size : length (parents_of rows) ≡ length rows
  size = length-map rows (λ r. r.parent)

  pub parent_is : (k : ℕ) → k < length rows → parent_of (parents_of rows) k ≡ (row_at rows k).parent
  parent_is k h = get_or-map (λ r. r.parent) rows k (record { parent = 0; depth = 0; jump = 0 }) 0 h

  pub within : (n k : ℕ) → k < length rows → above (parents_of rows) n k < length rows
  within zero k h = h
  within (suc n) k h = within n (parent_of (parents_of rows) k) (let e = parent_is k h in let w = a.parent_within k h in omega arith)

  pub at_root : (k : ℕ) → k < length rows → depth_of rows k ≡ 0 → k ≡ 0
  at_root k h e = elim (cases_eq k 0) [
    | inl z ↦ z
    | inr child ↦ let d = a.depth k h child in absurd (omega arith)
  ]

  pub depth_parent : (k : ℕ) → k < length rows → depth_of rows (parent_of (parents_of rows) k) ≡ depth_of rows k - 1
  depth_parent k h = ap (depth_of rows) (parent_is k h) ∙ elim (cases_eq k 0) [
    | inl z ↦
        let top = a.top in
        let e : depth_of rows (row_at rows k).parent ≡ 0 = ap (λ x. depth_of rows (row_at rows x).parent) z ∙ ap (depth_of rows) a.root ∙ top in
        let f : depth_of rows k ≡ 0 = ap (depth_of rows) z ∙ top in
        omega arith
    | inr child ↦ let d = a.depth k h child in omega arith
  ]

  pub depth_above : (n k : ℕ) → k < length rows → depth_of rows (above (parents_of rows) n k) ≡ depth_of rows k - n
  depth_above zero k h = omega arith
  depth_above (suc n) k h =
      let e = depth_parent k h in
      let w = depth_above n (parent_of (parents_of rows) k) (within 1 k h) in
      omega arith

  -- a place on the way up, and one more step or jump
  pub climbed_jump : (k at : ℕ) → k < length rows → at < length rows → at ≢ 0 → depth_of rows at ≤ depth_of rows k → above (parents_of rows) (depth_of rows k - depth_of rows at) k ≡ at → above (parents_of rows) (depth_of rows k - depth_of rows (row_at rows at).jump) k ≡ (row_at rows at).jump
  climbed_jump k at h there child le here =
      let up = a.jump_above at there child in
      above_parts (parents_of rows) (depth_of rows k - depth_of rows (row_at rows at).jump) (depth_of rows at - depth_of rows (row_at rows at).jump) (depth_of rows k - depth_of rows at) k (omega arith)
      ∙ ap (above (parents_of rows) (depth_of rows at - depth_of rows (row_at rows at).jump)) here
      ∙ a.jump at there

  pub climbed_parent : (k at : ℕ) → k < length rows → at < length rows → at ≢ 0 → depth_of rows at ≤ depth_of rows k → above (parents_of rows) (depth_of rows k - depth_of rows at) k ≡ at → above (parents_of rows) (depth_of rows k - depth_of rows (row_at rows at).parent) k ≡ (row_at rows at).parent
  climbed_parent k at h there child le here =
      let d = a.depth at there child in
      above_parts (parents_of rows) (depth_of rows k - depth_of rows (row_at rows at).parent) 1 (depth_of rows k - depth_of rows at) k (omega arith)
      ∙ ap (above (parents_of rows) 1) here
      ∙ parent_is at there

  pub answer : (k other at : ℕ) → k < length rows → other < length rows → at < length rows → depth_of rows at ≤ depth_of rows k → min (depth_of rows k) (depth_of rows other) ≤ depth_of rows at → depth_of rows at ≤ depth_of rows other → above (parents_of rows) (depth_of rows k - depth_of rows at) k ≡ at → (at == other) ≡ is_below (parents_of rows) k other
  answer k other at h other_there there le low high here = same_tests (at == other) (is_below (parents_of rows) k other)
      (λ same.
      let bounded = a.depth_within k h in
      climbs_down (parents_of rows) (length (parents_of rows)) (depth_of rows k - depth_of rows at) k other (omega (arith, size, bounded)) (here ∙ eqb-true at other same))
      (λ below.
      let w = climbs_up (parents_of rows) (length (parents_of rows)) k other below in
      let d : depth_of rows other ≡ depth_of rows k - w.0 = ap (depth_of rows) (sym w.2) ∙ depth_above w.0 k h in
      let e : depth_of rows at ≡ depth_of rows other = omega (arith, d, low, high, le) in
      eq-eqb at other (elim (cases_eq (depth_of rows other) 0) [
        | inl z ↦ at_root at there (e ∙ z) ∙ sym (at_root other other_there z)
        | inr deep ↦
            let m : depth_of rows k - depth_of rows at ≡ w.0 = omega (arith, d, e, deep) in
            sym here ∙ ap (λ x. above (parents_of rows) x k) m ∙ w.2
      ]))
