-- Rows while they are made, and when all are made.
use Rattle.std.proofs.Common.{◌≡◌, ◌≢◌, ℕ, suc, ◌+◌, ◌-◌, ◌<◌, ◌⊎◌, inl, inr, refl, sym, ap, ◌∙◌, arith, List, [], ◌∷◌, ◌++◌, length, length-append, length-set, subst, set}
use Rattle.std.specs.Prelude.{slice_index, replicate}
use Rattle.std.proofs.lemmas.Bool.{cases_lt}
use Rattle.std.proofs.lemmas.List.{ext_get_or, get_or-map, get_or-replicate, length-map, length-replicate}
use Rattle.std.proofs.Math.Seq.{get_or-append_seam}
use Rattle.std.proofs.Math.ListN.{get_or-append}
use Rattle.stp_types.specs.declared.row.Ancestry.{Ancestry}
use Rattle.stp_types.specs.Forest.{parent_of, above, IsTable, IsForest}
use Rattle.stp_types.specs.Rows.{row_at, depth_of, parents_of, AreAncestries}
use Rattle.stp_types.specs.Making.{IsDepth, IsRow, IsDone, AreRight, IsPath}
use Rattle.stp_types.proofs.Above.{above_suc, above_within}
use Rattle.stp_types.proofs.Depths.{one_depth, depth_down, depth_root, jump_within, jump_depth, depth_small}
use Rattle.stp_types.proofs.Marking.{put}

abbrev pub none : Ancestry
none = record { parent = 0; depth = 0; jump = 0 }

-- ---- paths

module _ (p : List ℕ) (start : ℕ) (path : List ℕ) where
  pub path_steps : (at : ℕ) → ((n : ℕ) → n < length path → slice_index path n ≡ above p n start) → at ≡ above p (length path) start → (n : ℕ) → n < length (path ++ at ∷ []) → slice_index (path ++ at ∷ []) n ≡ above p n start
  path_steps at steps here n h =
      let l = length-append path (at ∷ []) in
      elim (cases_lt n (length path)) [
        | inl lt ↦ get_or-append path (at ∷ []) 0 n lt ∙ steps n lt
        | inr le ↦
            let e : n ≡ length path = omega (arith, l) in
            ap (slice_index (path ++ at ∷ [])) e ∙ get_or-append_seam path at [] 0 ∙ here ∙ ap (λ m. above p m start) (sym e)
      ]

  pub path_children : (at : ℕ) → ((n : ℕ) → n < length path → above p n start ≢ 0) → at ≡ above p (length path) start → at ≢ 0 → (n : ℕ) → n < length (path ++ at ∷ []) → above p n start ≢ 0
  path_children at children here child n h =
      let l = length-append path (at ∷ []) in
      elim (cases_lt n (length path)) [
        | inl lt ↦ children n lt
        | inr le ↦
            let e : n ≡ length path = omega (arith, l) in
            λ z. child (here ∙ ap (λ m. above p m start) (sym e) ∙ z)
      ]

  pub path_here : (at : ℕ) → at ≡ above p (length path) start → parent_of p at ≡ above p (length (path ++ at ∷ [])) start
  path_here at here =
      let l = length-append path (at ∷ []) in
      let e : length (path ++ at ∷ []) ≡ suc (length path) = omega (arith, l) in
      ap (parent_of p) here ∙ sym (above_suc p (length path) start) ∙ ap (λ m. above p m start) (sym e)

-- the last type of a path
module _ (p : List ℕ) (t : IsTable p) (start : ℕ) (there : start < length p) (rows : List Ancestry) (path front : List ℕ) (kind : ℕ) (e : path ≡ front ++ kind ∷ []) (i : IsPath p start rows path) where
  size : length path ≡ suc (length front)
  size = let l = length-append front (kind ∷ []) in let f = ap length e in omega (arith, l, f)

  pub last_is : kind ≡ above p (length front) start
  last_is = sym (get_or-append_seam front kind [] 0) ∙ ap (λ xs. slice_index xs (length front)) (sym e) ∙ i.steps (length front) (omega (arith, size))

  pub last_there : kind < length p
  last_there = let w = above_within p t (length front) start there in let s = last_is in omega arith

  pub last_child : kind ≢ 0
  last_child z = i.children (length front) (omega (arith, size)) (sym last_is ∙ z)

  pub last_parent : IsDone rows (parent_of p kind)
  last_parent = subst (λ (x : ℕ). IsDone rows x) (ap (λ m. above p m start) size ∙ above_suc p (length front) start ∙ ap (parent_of p) (sym last_is)) i.ended

  -- a row more
  module _ (right : AreRight p rows) (row : Ancestry) (is_row : IsRow p kind row) (deep : 0 < row.depth) where
    in_rows : kind < length rows
    in_rows = let r = right.len in let h = last_there in omega arith

    placed : (k : ℕ) → ((k ≡ kind) × (row_at (set rows kind row) k ≡ row)) ⊎ ((k ≢ kind) × (row_at (set rows kind row) k ≡ row_at rows k))
    placed k = put rows kind k row none in_rows

    pub done_here : IsDone (set rows kind row) kind
    done_here = elim (placed kind) [
      | inl w ↦ inr (subst (λ (r : Ancestry). 0 < r.depth) (sym w.1) deep)
      | inr w ↦ absurd (w.0 refl)
    ]

    pub done_kept : (k : ℕ) → IsDone rows k → IsDone (set rows kind row) k
    done_kept k done = elim (placed k) [
      | inl w ↦ inr (subst (λ (r : Ancestry). 0 < r.depth) (sym w.1) deep)
      | inr w ↦ elim done [
        | inl z ↦ inl z
        | inr some ↦ inr (subst (λ (r : Ancestry). 0 < r.depth) (sym w.1) some)
      ]
    ]

    done_before : (k : ℕ) → row_at (set rows kind row) k ≡ row_at rows k → IsDone (set rows kind row) k → IsDone rows k
    done_before k same done = elim done [
      | inl z ↦ inl z
      | inr some ↦ inr (subst (λ (r : Ancestry). 0 < r.depth) same some)
    ]

    pub right_more : AreRight p (set rows kind row)
    right_more = record {
      len = length-set rows kind row ∙ right.len;
      row = λ k h done. elim (placed k) [
        | inl w ↦ subst (λ (r : Ancestry). IsRow p k r) (sym w.1) (subst (λ (x : ℕ). IsRow p x row) (sym w.0) is_row)
        | inr w ↦ subst (λ (r : Ancestry). IsRow p k r) (sym w.1) (right.row k h (done_before k w.1 done))
      ];
      upwards = λ k h done. elim (placed k) [
        | inl w ↦ done_kept (parent_of p k) (subst (λ (x : ℕ). IsDone rows (parent_of p x)) (sym w.0) last_parent)
        | inr w ↦ done_kept (parent_of p k) (right.upwards k h (done_before k w.1 done))
      ];
    }

    pub path_less : IsPath p start (set rows kind row) front
    path_less = record {
      steps = λ n h. sym (get_or-append front (kind ∷ []) 0 n h) ∙ ap (λ xs. slice_index xs n) (sym e) ∙ i.steps n (omega (arith, size));
      children = λ n h. i.children n (omega (arith, size));
      ended = subst (λ (x : ℕ). IsDone (set rows kind row) x) last_is done_here;
    }

-- ---- the first row and all rows

pub right_at_first : (p : List ℕ) → IsTable p → AreRight p (replicate (length p) none)
right_at_first p t =
    let empty : (k : ℕ) → k < length p → row_at (replicate (length p) none) k ≡ none = λ k h. get_or-replicate (length p) k none none h in
    record {
      len = length-replicate (length p) none;
      row = λ k h done. subst (λ (r : Ancestry). IsRow p k r) (sym (empty k h)) (elim done [
        | inl z ↦ record {
          parent = sym (ap (parent_of p) z ∙ t.root);
          depth = subst (λ (x : ℕ). IsDepth p x 0) (sym z) (depth_root p);
          steps = 0;
          up = λ child. absurd (child z);
          within = omega arith;
          jump = z;
        }
        | inr some ↦ let e = ap (λ r. r.depth) (empty k h) in absurd (omega (arith, e, some))
      ]);
      upwards = λ k h done. elim done [
        | inl z ↦ inl (ap (parent_of p) z ∙ t.root)
        | inr some ↦ let e = ap (λ r. r.depth) (empty k h) in absurd (omega (arith, e, some))
      ];
    }

module _ (p : List ℕ) (t : IsTable p) (forest : IsForest p) (rows : List Ancestry) (right : AreRight p rows) (all : (k : ℕ) → k < length p → IsDone rows k) where
  pub same_parents : parents_of rows ≡ p
  same_parents = ext_get_or 0 (parents_of rows) p (length-map rows (λ r. r.parent) ∙ right.len) (λ k h.
      let l = length-map rows (λ r. r.parent) in
      let r = right.len in
      let there : k < length p = omega (arith, l, r, h) in
      get_or-map (λ r. r.parent) rows k none 0 (omega (arith, there, r)) ∙ (right.row k there (all k there)).parent)

  in_table : (k : ℕ) → k < length rows → k < length p
  in_table k h = let r = right.len in omega arith

  pub all_made : AreAncestries rows
  all_made =
      let r = right.len in
      let at = λ (k : ℕ) (h : k < length rows). right.row k (in_table k h) (all k (in_table k h)) in
      let some : 0 < length rows = let s = t.some in omega arith in
      record {
        some = some;
        root = (at 0 some).parent ∙ t.root;
        top = one_depth p 0 (depth_of rows 0) 0 (at 0 some).depth (depth_root p);
        parent_within = λ k h. let e = (at k h).parent in let w = t.within k (in_table k h) in omega arith;
        jump_within = λ k h. let w = jump_within p t forest rows right k (in_table k h) (all k (in_table k h)) in omega arith;
        depth_within = λ k h. let w = depth_small p t forest rows right k (in_table k h) (all k (in_table k h)) in omega arith;
        depth = λ k h child.
            let q = t.within k (in_table k h) in
            one_depth p k (depth_of rows k) (depth_of rows (parent_of p k) + 1) (at k h).depth (depth_down p k (depth_of rows (parent_of p k)) child (right.row (parent_of p k) q (all (parent_of p k) q)).depth)
            ∙ ap (λ x. depth_of rows x + 1) (sym (at k h).parent);
        jump_above = λ k h child.
            let e = jump_depth p t forest rows right k (in_table k h) (all k (in_table k h)) in
            let up = (at k h).up child in
            let within = (at k h).within in
            omega arith;
        jump = λ k h.
            let e = jump_depth p t forest rows right k (in_table k h) (all k (in_table k h)) in
            let within = (at k h).within in
            let s : depth_of rows k - depth_of rows (row_at rows k).jump ≡ (at k h).steps = omega arith in
            ap (λ x. above (parents_of rows) x k) s ∙ ap (λ ps. above ps (at k h).steps k) same_parents ∙ (at k h).jump;
      }
