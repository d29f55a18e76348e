-- Plain atoms, shadows and opened atoms have numbers of their own, so no event of the rewritten problem adds what it deletes.
use Rattle.std.proofs.Common.{◌≡◌, ℕ, zero, suc, ◌+◌, ◌-◌, ◌<◌, ◌≤◌, ◌==◌, ◌||◌, ◌⊎◌, Bool, true, false, cond, List, [], ◌∷◌, ◌++◌, length, map, filter, inl, inr, refl, sym, ap, ◌∙◌, subst, arith}
use Rattle.std.proofs.lemmas.Bool.{cases_lt}
use Rattle.std.proofs.lemmas.Bool.Decides.{nat_tests}
use Rattle.std.proofs.lemmas.List.Folds.{list_any-append}
use Rattle.stp_cond.specs.Atoms.{has, have_common}
use Rattle.stp_cond.proofs.Interferes.{common, common_atom, either}
use Rattle.stp_expand.proofs.Members.{not_true}
use Rattle.stp_task.specs.Tasks.{PlainTask}
use Rattle.stp_rewriting.specs.Rewritten.{Rewriting, is_shadowed, shadows}
use Rattle.stp_rewrite.specs.RewrittenTasks.{first_opened, rewriting_in}
use Rattle.stp_rewrite.specs.Rows.{passing_below}
use Rattle.stp_rewrite.proofs.Numbers.{passing_step, shadow_number}

-- more atoms pass below a greater number
passing_up : (test : ℕ → Bool) (a k : ℕ) → passing_below test a ≤ passing_below test (a + k)
passing_up test a zero = let e : a + 0 ≡ a = omega arith in omega (arith, ap (passing_below test) e)
passing_up test a (suc k) = let e : a + suc k ≡ (a + k) + 1 = omega arith in omega (arith, ap (passing_below test) e, passing_step test (a + k), passing_up test a k, bit (test (a + k)))
  where
    bit : (b : Bool) → 0 ≤ cond b 1 0
    bit b = omega arith

passing_past : (test : ℕ → Bool) (a c : ℕ) → test a ≡ true → a < c → passing_below test a < passing_below test c
passing_past test a c h l =
    let e : c ≡ (a + 1) + (c - (a + 1)) = omega (arith, l) in
    let step : passing_below test (a + 1) ≡ passing_below test a + 1 = passing_step test a ∙ ap (λ b. passing_below test a + cond b 1 0) h in
    omega (arith, ap (passing_below test) e, passing_up test (a + 1) (c - (a + 1)), step)

module _ (t : PlainTask) where
  abbrev r : Rewriting
  r = rewriting_in t

  abbrev n : ℕ
  n = length t.atoms

  shadow_below : (a : ℕ) → a < n → is_shadowed r a ≡ true → r.shadow a < first_opened t
  shadow_below a l h = omega (arith, shadow_number t a l h, passing_past (is_shadowed r) a n h l)

  shadow_above : (a : ℕ) → n ≤ r.shadow a
  shadow_above a = omega arith

  shadow_once : (a c : ℕ) → a < n → c < n → is_shadowed r a ≡ true → is_shadowed r c ≡ true → r.shadow a ≡ r.shadow c → a ≡ c
  shadow_once a c l m h k e = elim (cases_lt a c) [
    | inl less ↦ absurd (omega (arith, e, shadow_number t a l h, shadow_number t c m k, passing_past (is_shadowed r) a c h less))
    | inr more ↦ elim (cases_lt c a) [
      | inl less ↦ absurd (omega (arith, e, shadow_number t a l h, shadow_number t c m k, passing_past (is_shadowed r) c a k less))
      | inr same ↦ omega (arith, more, same)
    ]
  ]

  -- what a shadow is of
  shadow_of : (xs : List ℕ) (x : ℕ) → has (shadows r xs) x ≡ true → (a : ℕ) × (has xs a ≡ true) × (is_shadowed r a ≡ true) × (r.shadow a ≡ x)
  shadow_of [] x h = cc
  shadow_of (y ∷ ys) x h = by_test (is_shadowed r y) refl h (shadow_of ys x)
    where
      later : ((a : ℕ) × (has ys a ≡ true) × (is_shadowed r a ≡ true) × (r.shadow a ≡ x)) → (a : ℕ) × (has (y ∷ ys) a ≡ true) × (is_shadowed r a ≡ true) × (r.shadow a ≡ x)
      later m = (m.0, or_second (y == m.0) (has ys m.0) m.1, m.2, m.3)
        where
          or_second : (b c : Bool) → c ≡ true → (b || c) ≡ true
          or_second true c e = refl
          or_second false c e = e

      same_number : (a b : ℕ) → (a == b) ≡ true → a ≡ b
      same_number a b e = grind (arith, nat_tests)

      itself : (a : ℕ) (b : Bool) → ((a == a) || b) ≡ true
      itself a b = grind (arith, nat_tests)

      by_test : (b : Bool) → is_shadowed r y ≡ b → has (map r.shadow (cond b (y ∷ filter (is_shadowed r) ys) (filter (is_shadowed r) ys))) x ≡ true →
          (has (shadows r ys) x ≡ true → (a : ℕ) × (has ys a ≡ true) × (is_shadowed r a ≡ true) × (r.shadow a ≡ x)) →
          (a : ℕ) × (has (y ∷ ys) a ≡ true) × (is_shadowed r a ≡ true) × (r.shadow a ≡ x)
      by_test true e k rest = elim (either (r.shadow y == x) (has (shadows r ys) x) k) [
        | inl m ↦ (y, itself y (has ys y), e, same_number (r.shadow y) x m)
        | inr m ↦ later (rest m)
      ]
      by_test false e k rest = later (rest k)

  append_cases : (xs ys : List ℕ) (x : ℕ) → has (xs ++ ys) x ≡ true → (has xs x ≡ true) ⊎ (has ys x ≡ true)
  append_cases xs ys x h = either (has xs x) (has ys x) (sym (list_any-append (λ a. a == x) xs ys) ∙ h)

  only : (o x : ℕ) → has (o ∷ []) x ≡ true → o ≡ x
  only o x h = grind (arith, nat_tests)

  opened_above : (key : ℕ) → first_opened t ≤ r.opened key
  opened_above key = omega arith

  plain_below : n ≤ first_opened t
  plain_below = omega arith

  -- no plain atom and no shadow is an opened atom
  no_opened : (xs : List ℕ) (key : ℕ) → ((a : ℕ) → has xs a ≡ true → a < n) → has (xs ++ shadows r xs) (r.opened key) ≡ true → ⊥
  no_opened xs key below h = elim (append_cases xs (shadows r xs) (r.opened key) h) [
    | inl m ↦ omega (arith, below (r.opened key) m, opened_above key, plain_below)
    | inr m ↦ let s = shadow_of xs (r.opened key) m in omega (arith, s.3, shadow_below s.0 (below s.0 s.1) s.2, opened_above key)
  ]

  module _ (adds dels : List ℕ) (added : (a : ℕ) → has adds a ≡ true → a < n) (deleted : (a : ℕ) → has dels a ≡ true → a < n) (apart : have_common adds dels ≡ false) where
    never : (a : ℕ) → has adds a ≡ true → has dels a ≡ true → ⊥
    never a h k = clash (common adds dels a h k)
      where
        clash : have_common adds dels ≡ true → ⊥
        clash e = cc

    both_shadows : (x : ℕ) → has (shadows r adds) x ≡ true → has (shadows r dels) x ≡ true → ⊥
    both_shadows x h k =
        let s = shadow_of adds x h in
        let d = shadow_of dels x k in
        let same = shadow_once s.0 d.0 (added s.0 s.1) (deleted d.0 d.1) s.2 d.2 (s.3 ∙ sym d.3) in
        never s.0 s.1 (subst (λ a. has dels a ≡ true) (sym same) d.1)

    both_ways : (x : ℕ) → has (adds ++ shadows r adds) x ≡ true → has (dels ++ shadows r dels) x ≡ true → ⊥
    both_ways x h k = elim (append_cases adds (shadows r adds) x h) [
      | inl m ↦ elim (append_cases dels (shadows r dels) x k) [
        | inl l ↦ never x m l
        | inr l ↦ let s = shadow_of dels x l in omega (arith, added x m, s.3, shadow_above s.0)
      ]
      | inr m ↦ elim (append_cases dels (shadows r dels) x k) [
        | inl l ↦ let s = shadow_of adds x m in omega (arith, deleted x l, s.3, shadow_above s.0)
        | inr l ↦ both_shadows x m l
      ]
    ]

    pub settled_apart : have_common (adds ++ shadows r adds) (dels ++ shadows r dels) ≡ false
    settled_apart = not_true (have_common (adds ++ shadows r adds) (dels ++ shadows r dels)) (λ h. let m = common_atom (adds ++ shadows r adds) (dels ++ shadows r dels) h in both_ways m.0 m.1 m.2)

    pub opening_apart : (key : ℕ) → have_common (shadows r adds ++ r.opened key ∷ []) (shadows r dels) ≡ false
    opening_apart key = not_true (have_common (shadows r adds ++ r.opened key ∷ []) (shadows r dels)) (λ h.
        let m = common_atom (shadows r adds ++ r.opened key ∷ []) (shadows r dels) h in
        elim (append_cases (shadows r adds) (r.opened key ∷ []) m.0 m.1) [
          | inl l ↦ both_shadows m.0 l m.2
          | inr l ↦ let s = shadow_of dels m.0 m.2 in omega (arith, only (r.opened key) m.0 l, s.3, shadow_below s.0 (deleted s.0 s.1) s.2, opened_above key)
        ])

    pub closing_apart : (key : ℕ) → have_common (adds ++ shadows r adds) ((dels ++ shadows r dels) ++ r.opened key ∷ []) ≡ false
    closing_apart key = not_true (have_common (adds ++ shadows r adds) ((dels ++ shadows r dels) ++ r.opened key ∷ [])) (λ h.
        let m = common_atom (adds ++ shadows r adds) ((dels ++ shadows r dels) ++ r.opened key ∷ []) h in
        elim (append_cases (dels ++ shadows r dels) (r.opened key ∷ []) m.0 m.2) [
          | inl l ↦ both_ways m.0 m.1 l
          | inr l ↦ no_opened adds key added (subst (λ x. has (adds ++ shadows r adds) x ≡ true) (sym (only (r.opened key) m.0 l)) m.1)
        ])
