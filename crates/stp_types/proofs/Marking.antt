-- Walks that mark types.
use Rattle.std.proofs.Common.{◌≡◌, ◌≢◌, ℕ, zero, suc, ◌+◌, ◌<◌, ◌⊎◌, inl, inr, refl, sym, ap, ◌∙◌, arith, List, length, Bool, true, false, subst, set, get_or, get_or-set_other, get_or-set_same}
use Rattle.std.specs.Prelude.{slice_index, slice_index_or}
use Rattle.std.proofs.lemmas.Bool.{cases_eq}
use Rattle.stp_types.specs.Forest.{parent_of, above, IsTable, IsBelow, IsOwnAncestor}
use Rattle.stp_types.specs.Loops.{IsClosed, IsVisited, Climbed, Circled}
use Rattle.stp_types.proofs.Above.{above_suc, above_sum, above_root}

-- ---- one mark more

pub put : {A : Type 0} (xs : List A) (i k : ℕ) (x d : A) → i < length xs → ((k ≡ i) × (get_or (set xs i x) k d ≡ x)) ⊎ ((k ≢ i) × (get_or (set xs i x) k d ≡ get_or xs k d))
put xs i k x d h = elim (cases_eq k i) [
  | inl e ↦ inl (e, rw e (get_or-set_same xs i x d h))
  | inr n ↦ inr (n, get_or-set_other xs i k x d n)
]

pub put_true : (xs : List Bool) (i k : ℕ) → i < length xs → get_or xs k false ≡ true → get_or (set xs i true) k false ≡ true
put_true xs i k h e = elim (put xs i k true false h) [ inl w ↦ w.1 | inr w ↦ w.1 ∙ e ]

pub put_here : (xs : List Bool) (i k : ℕ) → i < length xs → k ≡ i → get_or (set xs i true) k false ≡ true
put_here xs i k h e = elim (put xs i k true false h) [ inl w ↦ w.1 | inr w ↦ absurd (w.0 e) ]

pub was_true : (xs : List Bool) (i k : ℕ) → i < length xs → get_or (set xs i true) k false ≡ true → (k ≡ i) ⊎ (get_or xs k false ≡ true)
was_true xs i k h e = elim (put xs i k true false h) [ inl w ↦ inl w.0 | inr w ↦ inr (sym w.1 ∙ e) ]

pub put_some : (xs : List ℕ) (i k n : ℕ) → i < length xs → 0 < n → 0 < get_or xs k 0 → 0 < get_or (set xs i n) k 0
put_some xs i k n h some e = elim (put xs i k n 0 h) [ inl w ↦ let f = w.1 in omega arith | inr w ↦ let f = w.1 in omega arith ]

pub put_some_here : (xs : List ℕ) (i k n : ℕ) → i < length xs → 0 < n → k ≡ i → 0 < get_or (set xs i n) k 0
put_some_here xs i k n h some e = elim (put xs i k n 0 h) [ inl w ↦ let f = w.1 in omega arith | inr w ↦ absurd (w.0 e) ]

-- ---- round a loop

module _ (p : List ℕ) where
  back_from : (e x : ℕ) → IsBelow p (parent_of p e) e → (j : ℕ) → above p j x ≡ e → IsBelow p (parent_of p x) e
  back_from e x back zero same = subst (λ (y : ℕ). IsBelow p (parent_of p y) e) (sym same) back
  back_from e x back (suc j) same = (j, same)

  -- from all that is above a type on a loop one comes back to it
  pub round : (e : ℕ) → IsBelow p (parent_of p e) e → (n : ℕ) → IsBelow p (above p n e) e
  round e back zero = (0, refl)
  round e back (suc n) =
      let here = round e back n in
      subst (λ (x : ℕ). IsBelow p x e) (sym (above_suc p n e)) (back_from e (above p n e) back here.0 here.1)

  pub below_then : (x y z : ℕ) → IsBelow p x y → IsBelow p y z → IsBelow p x z
  below_then x y z a b = (b.0 + a.0, above_sum p b.0 a.0 x ∙ ap (above p b.0) a.1 ∙ b.1)

  pub below_more : (x y : ℕ) → IsBelow p x y → IsBelow p x (parent_of p y)
  below_more x y a = (suc a.0, above_suc p a.0 x ∙ ap (parent_of p) a.1)

  pub own_back : (e k : ℕ) → IsOwnAncestor p e → IsBelow p e k → IsBelow p k e
  own_back e k own b = subst (λ (x : ℕ). IsBelow p x e) b.1 (round e own.1 b.0)

  pub own_below : IsTable p → (e k : ℕ) → IsOwnAncestor p e → IsBelow p e k → IsOwnAncestor p k
  own_below t e k own b =
      let back = own_back e k own b in
      let on : IsBelow p (parent_of p k) e = subst (λ (x : ℕ). IsBelow p x e) (above_suc p b.0 e ∙ ap (parent_of p) b.1) (round e own.1 (suc b.0)) in
      ((λ zero_. own.0 (sym back.1 ∙ ap (above p back.0) zero_ ∙ above_root p t back.0)), below_then (parent_of p k) e k on b)

  pub closed_above : IsTable p → (looped : List Bool) → IsClosed p looped → (x : ℕ) → x < length p → slice_index_or looped x false ≡ true → (n : ℕ) → slice_index_or looped (above p n x) false ≡ true
  closed_above t looped closed x there h zero = h
  closed_above t looped closed x there h (suc n) = closed_above t looped closed (parent_of p x) (t.within x there) (closed x there h) n

  pub closed_below : IsTable p → (looped : List Bool) → IsClosed p looped → (x k : ℕ) → x < length p → slice_index_or looped x false ≡ true → IsBelow p x k → slice_index_or looped k false ≡ true
  closed_below t looped closed x k there h b = subst (λ (y : ℕ). slice_index_or looped y false ≡ true) b.1 (closed_above t looped closed x there h b.0)

-- ---- a visit

module _ (p : List ℕ) (t : IsTable p) (start : ℕ) (there : start < length p) (old new : List ℕ) (looped : List Bool) (end : ℕ) (v : IsVisited p start old looped) (c : Climbed p start old new end) where
  grows : (k : ℕ) → k < length p → 0 < slice_index old k → 0 < slice_index new k
  grows k h some = elim (c.marked k h) [
    | inl same ↦ omega (arith, same, some)
    | inr w ↦ let a = w.1 in let b = v.positive in omega arith
  ]

  pub below : (k : ℕ) → k < length p → slice_index new k < start + 1
  below k h = elim (c.marked k h) [
    | inl same ↦ let b = v.below k h in omega (arith, same)
    | inr w ↦ let a = w.1 in omega arith
  ]

  begun : 0 < slice_index new start
  begun = elim c.begun [
    | inr some ↦ some
    | inl e ↦ elim c.ended [
      | inl root ↦ let b = v.positive in absurd (omega arith)
      | inr some ↦ subst (λ (x : ℕ). 0 < slice_index new x) (sym e) some
    ]
  ]

  pub done : (k : ℕ) → 0 < k → k < start + 1 → 0 < slice_index new k
  done k some h = elim (cases_eq k start) [
    | inl e ↦ subst (λ (x : ℕ). 0 < slice_index new x) (sym e) begun
    | inr n ↦ grows k (omega arith) (v.done k some (omega arith))
  ]

  pub upwards : (k : ℕ) → k < length p → 0 < slice_index new k → (parent_of p k ≡ 0) ⊎ (0 < slice_index new (parent_of p k))
  upwards k h some = elim (c.marked k h) [
    | inl same ↦ elim (v.upwards k h (omega (arith, same, some))) [
      | inl e ↦ inl e
      | inr w ↦ inr (grows (parent_of p k) (t.within k h) w)
    ]
    | inr w ↦ elim (c.upwards k h w.0 w.1) [
      | inr further ↦ inr further
      | inl e ↦ elim c.ended [
        | inl root ↦ inl (e ∙ root)
        | inr marked ↦ inr (subst (λ (x : ℕ). 0 < slice_index new x) (sym e) marked)
      ]
    ]
  ]

  -- a fresh type on a loop is above the end
  led : (k : ℕ) → IsBelow p (parent_of p k) end → IsOwnAncestor p k → IsBelow p end k
  led k b own = own_back p k end own (suc b.0, b.1)

  end_is_fresh : slice_index new end ≡ start → (slice_index old end ≡ 0) × (slice_index new end ≡ start) × (end ≢ 0)
  end_is_fresh here = elim (c.marked end c.within) [
    | inl same ↦ let b = v.below end c.within in absurd (omega (arith, same, here))
    | inr w ↦ w
  ]

  end_is_own : slice_index new end ≡ start → IsOwnAncestor p end
  end_is_own here = let w = end_is_fresh here in (w.2, c.leads end c.within w.0 w.1)

  pub visit_loop : (marked : List Bool) → slice_index new end ≡ start → Circled p end looped marked → IsVisited p (start + 1) new marked
  visit_loop marked here r = record {
    positive = omega arith;
    marks_len = c.len;
    len = r.len;
    below = below;
    done = done;
    upwards = upwards;
    closed = r.closed;
    sound = λ k h m. elim (r.marked k h m) [
      | inl was ↦ v.sound k h was
      | inr b ↦ own_below p t end k (end_is_own here) b
    ];
    complete = λ k h some own. elim (c.marked k h) [
      | inl same ↦ r.kept k h (v.complete k h (omega (arith, same, some)) own)
      | inr w ↦ closed_below p t marked r.closed end k c.within r.begun (led k (c.leads k h w.0 w.1) own)
    ];
  }

  visited_above : (x : ℕ) → x < length p → (x ≡ 0) ⊎ (0 < slice_index old x) → (n : ℕ) → (above p n x ≡ 0) ⊎ (0 < slice_index old (above p n x))
  visited_above x h here zero = here
  visited_above x h here (suc n) = visited_above (parent_of p x) (t.within x h) (elim here [
    | inl root ↦ inl (ap (parent_of p) root ∙ t.root)
    | inr some ↦ v.upwards x h some
  ]) n

  end_is_old : slice_index new end ≢ start → (end ≡ 0) ⊎ (0 < slice_index old end)
  end_is_old other = elim c.ended [
    | inl root ↦ inl root
    | inr some ↦ elim (c.marked end c.within) [
      | inl same ↦ inr (omega (arith, same, some))
      | inr w ↦ absurd (other w.1)
    ]
  ]

  not_fresh : slice_index new end ≢ start → (k : ℕ) → slice_index old k ≡ 0 → k ≢ 0 → IsBelow p end k → ⊥
  not_fresh other k none child b = elim (visited_above end c.within (end_is_old other) b.0) [
    | inl root ↦ child (sym b.1 ∙ root)
    | inr some ↦ let e = ap (slice_index old) b.1 in omega (arith, e, some, none)
  ]

  pub visit_none : slice_index new end ≢ start → IsVisited p (start + 1) new looped
  visit_none other = record {
    positive = omega arith;
    marks_len = c.len;
    len = v.len;
    below = below;
    done = done;
    upwards = upwards;
    closed = v.closed;
    sound = v.sound;
    complete = λ k h some own. elim (c.marked k h) [
      | inl same ↦ v.complete k h (omega (arith, same, some)) own
      | inr w ↦ absurd (not_fresh other k w.0 w.2 (led k (c.leads k h w.0 w.1) own))
    ];
  }
