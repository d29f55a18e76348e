-- When events interfere: by an atom that the one reads and the other writes, or that the one adds and the other deletes.
use Rattle.std.proofs.Common.{◌≡◌, ℕ, Bool, true, false, ◌||◌, ◌==◌, List, [], ◌∷◌, ◌⊎◌, inl, inr, refl, sym, subst, arith, true≢false, eqb-true}
use Rattle.stp_cond.specs.Atoms.{PlainEvent, has, have_common, disturbs, interfere}
use Rattle.stp_cond.specs.Interferences.{Disturbs, AtomsShowInterference}
use Rattle.stp_cond.proofs.Rising.{has_first}

-- ---- tests

pub either : (b c : Bool) → (b || c) ≡ true → (b ≡ true) ⊎ (c ≡ true)
either true c h = inl refl
either false c h = inr h

first_holds : (b c : Bool) → b ≡ true → (b || c) ≡ true
first_holds b c h = grind arith

second_holds : (b c : Bool) → c ≡ true → (b || c) ≡ true
second_holds b c h = grind arith

-- ---- common atoms

pub common : (xs ys : List ℕ) (a : ℕ) → has xs a ≡ true → has ys a ≡ true → have_common xs ys ≡ true
common [] ys a i j = absurd (true≢false (sym i))
common (x ∷ xs) ys a i j = elim (either (x == a) (has xs a) i) [
  | inl e ↦ first_holds (has ys x) (have_common xs ys) (subst (λ n. has ys n ≡ true) (sym (eqb-true x a e)) j)
  | inr k ↦ second_holds (has ys x) (have_common xs ys) (common xs ys a k j)
]

pub common_atom : (xs ys : List ℕ) → have_common xs ys ≡ true → (a : ℕ) × (has xs a ≡ true) × (has ys a ≡ true)
common_atom [] ys h = absurd (true≢false (sym h))
common_atom (x ∷ xs) ys h = elim (either (has ys x) (have_common xs ys) h) [
  | inl i ↦ (x, has_first x xs, i)
  | inr k ↦ let r = common_atom xs ys k in (r.0, second_holds (x == r.0) (has xs r.0) r.1, r.2)
]

-- ---- events

disturbed : (e o : PlainEvent) → disturbs e o ≡ true → Disturbs e o
disturbed e o h = elim (either (have_common e.reads o.adds || have_common e.reads o.dels) (have_common e.adds o.dels) h) [
  | inl k ↦ elim (either (have_common e.reads o.adds) (have_common e.reads o.dels) k) [
    | inl i ↦ let r = common_atom e.reads o.adds i in (r.0, inl (r.1, first_holds (has o.adds r.0) (has o.dels r.0) r.2))
    | inr i ↦ let r = common_atom e.reads o.dels i in (r.0, inl (r.1, second_holds (has o.adds r.0) (has o.dels r.0) r.2))
  ]
  | inr i ↦ let r = common_atom e.adds o.dels i in (r.0, inr (r.1, r.2))
]

disturbing : (e o : PlainEvent) → Disturbs e o → disturbs e o ≡ true
disturbing e o (a, inl (r, w)) = first_holds (have_common e.reads o.adds || have_common e.reads o.dels) (have_common e.adds o.dels) (elim (either (has o.adds a) (has o.dels a) w) [
  | inl i ↦ first_holds (have_common e.reads o.adds) (have_common e.reads o.dels) (common e.reads o.adds a r i)
  | inr i ↦ second_holds (have_common e.reads o.adds) (have_common e.reads o.dels) (common e.reads o.dels a r i)
])
disturbing e o (a, inr (i, j)) = second_holds (have_common e.reads o.adds || have_common e.reads o.dels) (have_common e.adds o.dels) (common e.adds o.dels a i j)

-- two events that interfere have an atom that shows it
pub interfere_cases : (e o : PlainEvent) → interfere e o ≡ true → Disturbs e o ⊎ Disturbs o e
interfere_cases e o h = elim (either (disturbs e o) (disturbs o e) h) [ inl i ↦ inl (disturbed e o i) | inr i ↦ inr (disturbed o e i) ]

-- and where there is one, they interfere in both orders
pub interfere_of : (e o : PlainEvent) → Disturbs e o → (interfere e o ≡ true) × (interfere o e ≡ true)
interfere_of e o d = (first_holds (disturbs e o) (disturbs o e) (disturbing e o d), second_holds (disturbs o e) (disturbs e o) (disturbing e o d))

pub atoms_show_interference : AtomsShowInterference
atoms_show_interference e o = (interfere_cases e o, λ d. elim d [ inl i ↦ (interfere_of e o i).0 | inr i ↦ (interfere_of o e i).1 ])
