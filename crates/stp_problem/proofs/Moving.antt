-- Counts that are passed on.
use Rattle.std.proofs.Common.{◌≡◌, ℕ, ◌+◌, ◌<◌, ◌≤◌, inl, inr, true, false, cond, List, [], ◌∷◌, ◌++◌, length, map, set, take, drop, refl, sym, ap, ◌∙◌, arith, subst}
use Rattle.std.specs.Prelude.{◌==◌, All, slice_index}
use Rattle.std.specs.List.{count_by}
use Rattle.std.proofs.lemmas.Bool.{cases_eq, cases_lt, eq-eqb, ne_eqb}
use Rattle.std.proofs.lemmas.List.{get_or_past, drop_all, take_all, append-nil}
use Rattle.std.proofs.lemmas.List.Sums.{count_by-le-length}
use Rattle.stp_types.specs.declared.row.Ancestry.{Ancestry}
use Rattle.stp_types.specs.Forest.{parent_of, climbs, is_below}
use Rattle.stp_types.specs.Rows.{AreAncestries, parents_of}
use Rattle.stp_types.proofs.Asking.{size, parent_is, within}
use Rattle.stp_types.proofs.Marking.{put}
use Rattle.stp_schema.specs.declared.rows.ObjectRow.{ObjectRow}
use Rattle.stp_schema.specs.Rows.{thing_of}
use Rattle.stp_schema.proofs.Below.{inside_rows}
use Rattle.stp_problem.specs.declared.rung.Rung.{Rung}
use Rattle.stp_problem.specs.Sizes.{size_of, AreSizes}
use Rattle.stp_problem.specs.Passing.{leads, has_passed, come_to, AreLeft, AreAllLeft}
use Rattle.stp_problem.proofs.Counts.{same_count, sum_count, count-map}
use Rattle.stp_problem.proofs.Leading.{stays, all_pass, leads_more}
use Rattle.stp_problem.proofs.Left.{not_passed, is_passed, is_rung, rest_left, was_waiting, passes_now, others_stay, parent_waits}

-- all of a list is written through a slice of it
pub written : (n : ℕ) (new slice old : List ℕ) → length new ≡ length slice → slice ≡ old → length slice ≡ n → take n (new ++ drop (length new) old) ≡ new
written n new slice old same is len =
    let l = ap length is in
    ap (λ rest. take n (new ++ rest)) (drop_all (length new) old (omega arith)) ∙ ap (take n) (append-nil new) ∙ take_all n new (omega arith)

pub none_left : (left : List Rung) → length left ≡ 0 → left ≡ []
none_left [] e = refl
none_left (r ∷ rs) e = absurd (omega (arith, e))

module _ (rows : List Ancestry) (a : AreAncestries rows) (objects : List ObjectRow) (typed : All (λ o. o.kind < length rows) objects) where
  -- at first each object is at its own type
  pub at_first : (left : List Rung) → AreAllLeft rows left → (k : ℕ) → come_to rows objects left k ≡ count_by (λ o. o.kind == k) objects
  at_first left l k = same_count (λ o. o.kind < length rows) (λ o. leads (parents_of rows) (has_passed left) (length rows) o.kind k) (λ o. o.kind == k) objects typed
      (λ o h. stays (parents_of rows) (has_passed left) (length rows) o.kind k (not_passed left o.kind (elim (cases_eq o.kind 0) [
        | inl z ↦ inl z
        | inr child ↦ inr (let c = l.complete o.kind child h in omega arith)
      ])))

  -- a type passes its objects on
  pub come_more : (rest : List Rung) (r : Rung) → AreLeft rows (rest ++ r ∷ []) → (k : ℕ) → come_to rows objects rest k ≡ come_to rows objects (rest ++ r ∷ []) k + cond (parent_of (parents_of rows) r.kind == k) (come_to rows objects (rest ++ r ∷ []) r.kind) 0
  come_more rest r l k = sum_count (λ o. o.kind < length rows)
      (λ o. leads (parents_of rows) (has_passed rest) (length rows) o.kind k)
      (λ o. leads (parents_of rows) (has_passed (rest ++ r ∷ [])) (length rows) o.kind k)
      (λ o. leads (parents_of rows) (has_passed (rest ++ r ∷ [])) (length rows) o.kind r.kind)
      (parent_of (parents_of rows) r.kind == k) objects typed
      (λ o h. leads_more rows a (has_passed (rest ++ r ∷ [])) (has_passed rest) r.kind (is_rung rows a rest r l).1 (is_rung rows a rest r l).0 (was_waiting rows a rest r l) (passes_now rows a rest r l) (others_stay rows a rest r l) (parent_waits rows a rest r l) (length rows) o.kind k h (let d = a.depth_within o.kind h in omega arith))

  -- what the counts are after that
  counts_more : (rest : List Rung) (r : Rung) (sizes : List ℕ) (n : ℕ) → AreLeft rows (rest ++ r ∷ []) → length sizes ≡ length rows → parent_of (parents_of rows) r.kind < length rows → n ≡ slice_index sizes (parent_of (parents_of rows) r.kind) + slice_index sizes r.kind → ((k : ℕ) → k < length rows → slice_index sizes k ≡ come_to rows objects (rest ++ r ∷ []) k) → (k : ℕ) → k < length rows → slice_index (set sizes (parent_of (parents_of rows) r.kind) n) k ≡ come_to rows objects rest k
  counts_more rest r sizes n l len within sum so_far k h =
      let up = parent_of (parents_of rows) r.kind in
      let more = come_more rest r l k in
      elim (put sizes up k n 0 (omega arith)) [
        | inl w ↦
            let e = w.1 in
            let here : (up == k) ≡ true = eq-eqb up k (sym w.0) in
            let more' = rw here at more in
            let s = so_far up within in
            let t = so_far r.kind (is_rung rows a rest r l).1 in
            let u = ap (come_to rows objects (rest ++ r ∷ [])) w.0 in
            omega (arith, e, more', s, t, u, sum)
        | inr w ↦
            let e = w.1 in
            let off : (up == k) ≡ false = ne_eqb up k (λ z. w.0 (sym z)) in
            let more' = rw off at more in
            let s = so_far k h in
            omega (arith, e, more', s)
      ]

  come_few : (left : List Rung) (k : ℕ) → come_to rows objects left k ≤ length objects
  come_few left k = count_by-le-length (λ o. leads (parents_of rows) (has_passed left) (length rows) o.kind k) objects

  pub last_within : (left rest : List Rung) (r : Rung) → left ≡ rest ++ r ∷ [] → AreLeft rows left → r.kind < length rows
  last_within left rest r e l = (is_rung rows a rest r (subst (AreLeft rows) e l)).1

  pub parent_within : (kind : ℕ) → kind < length rows → parent_of (parents_of rows) kind < length rows
  parent_within kind h = within rows a 1 kind h

  pub still_left : (left rest : List Rung) (r : Rung) → left ≡ rest ++ r ∷ [] → AreLeft rows left → AreLeft rows rest
  still_left left rest r e l = rest_left rows a rest r (subst (AreLeft rows) e l)

  -- no count is above the number of the objects
  pub counts_fit : (left rest : List Rung) (r : Rung) (sizes : List ℕ) → left ≡ rest ++ r ∷ [] → AreLeft rows left → parent_of (parents_of rows) r.kind < length rows → ((k : ℕ) → k < length rows → slice_index sizes k ≡ come_to rows objects left k) → slice_index sizes (parent_of (parents_of rows) r.kind) + slice_index sizes r.kind ≤ length objects
  counts_fit left rest r sizes e l within so_far =
      let up = parent_of (parents_of rows) r.kind in
      let l' = subst (AreLeft rows) e l in
      let here : (up == up) ≡ true = eq-eqb up up refl in
      let more = rw here at (come_more rest r l' up) in
      let few = come_few rest up in
      let s = so_far up within ∙ ap (λ x. come_to rows objects x up) e in
      let t = so_far r.kind (is_rung rows a rest r l').1 ∙ ap (λ x. come_to rows objects x r.kind) e in
      omega (arith, more, few, s, t)

  pub next : (left rest : List Rung) (r : Rung) (sizes new : List ℕ) → left ≡ rest ++ r ∷ [] → AreLeft rows left → length sizes ≡ length rows → parent_of (parents_of rows) r.kind < length rows → ((k : ℕ) → k < length rows → slice_index sizes k ≡ come_to rows objects left k) → new ≡ set sizes (parent_of (parents_of rows) r.kind) (slice_index sizes (parent_of (parents_of rows) r.kind) + slice_index sizes r.kind) → (k : ℕ) → k < length rows → slice_index new k ≡ come_to rows objects rest k
  next left rest r sizes new e l len within so_far is k h =
      ap (λ x. slice_index x k) is
      ∙ counts_more rest r sizes (slice_index sizes (parent_of (parents_of rows) r.kind) + slice_index sizes r.kind) (subst (AreLeft rows) e l) len within refl (λ i there. so_far i there ∙ ap (λ x. come_to rows objects x i) e) k h

  -- at last all have come that are below a type
  at_last : (k : ℕ) → come_to rows objects [] k ≡ size_of (parents_of rows) (map thing_of objects) k
  at_last k =
      let root = parent_is rows a 0 a.some ∙ a.root in
      same_count (λ o. o.kind < length rows) (λ o. leads (parents_of rows) (has_passed []) (length rows) o.kind k) (λ o. is_below (parents_of rows) o.kind k) objects typed
      (λ o h. all_pass (parents_of rows) (has_passed []) (length rows) o.kind k root (not_passed [] 0 (inl refl)) (λ x child. is_passed [] x child refl)
      ∙ ap (λ n. climbs (parents_of rows) n o.kind k) (sym (size rows a)))
      ∙ sym (count-map (λ t. is_below (parents_of rows) t.kind k) thing_of objects)

  none_past : (k : ℕ) → length rows ≤ k → size_of (parents_of rows) (map thing_of objects) k ≡ 0
  none_past k past =
      count-map (λ t. is_below (parents_of rows) t.kind k) thing_of objects
      ∙ same_count (λ o. o.kind < length rows) (λ o. is_below (parents_of rows) o.kind k) (λ _. false) objects typed (λ o h. inside_rows rows (parents_of rows) o.kind k a refl h past)
      ∙ zero_count objects
    where
      zero_count : (os : List ObjectRow) → count_by (λ (_ : ObjectRow). false) os ≡ 0
      zero_count [] = refl
      zero_count (o ∷ os) = zero_count os

  pub are_sizes : (sizes : List ℕ) → length sizes ≡ length rows → ((k : ℕ) → k < length rows → slice_index sizes k ≡ come_to rows objects [] k) → AreSizes (parents_of rows) (map thing_of objects) sizes
  are_sizes sizes len each = record {
    len = len ∙ sym (size rows a);
    each = λ k. elim (cases_lt k (length rows)) [
      | inl h ↦ each k h ∙ at_last k
      | inr past ↦ get_or_past sizes k 0 (omega arith) ∙ sym (none_past k past)
    ];
  }
