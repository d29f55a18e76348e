-- More numbers than places: two of them have one place.
use Rattle.std.proofs.Common.{◌≡◌, ◌≢◌, ℕ, zero, suc, ◌<◌, ◌≤◌, ◌⊎◌, inl, inr, sym, ap, ◌∙◌, subst, arith, if◌then◌else◌}
use Rattle.std.specs.Prelude.{◌==◌}
use Rattle.std.proofs.lemmas.Bool.{cases_eq}
use Rattle.std.proofs.lemmas.Bool.Decides.{eqb_tells}

-- one of the first `n` numbers that a function takes to `x`, or that there is none
pub found_below : (f : ℕ → ℕ) (x n : ℕ) → ((i : ℕ) × (i < n) × (f i ≡ x)) ⊎ ((i : ℕ) → i < n → f i ≢ x)
found_below f x zero = inr (λ i h e. absurd (omega (arith, h)))
found_below f x (suc n) = elim (found_below f x n) [
  | inl w ↦ inl (w.0, omega arith, w.2)
  | inr none ↦ elim (cases_eq (f n) x) [
    | inl e ↦ inl (n, omega arith, e)
    | inr d ↦ inr (λ i h e. elim (cases_eq i n) [
      | inl same ↦ d (subst (λ (k : ℕ). f k ≡ x) same e)
      | inr other ↦ none i (omega arith) e
    ])
  ]
]

-- two of the numbers up to `n` that have one place
abbrev pub Twice : (ℕ → ℕ) → ℕ → Type 0
Twice f n = (i : ℕ) × (j : ℕ) × (i < j) × (j ≤ n) × (f i ≡ f j)

-- another place instead of `n`
abbrev pub moved : ℕ → ℕ → ℕ → ℕ
moved n other x = if x == n then other else x

moved_is : (n other x : ℕ) → ((x ≡ n) × (moved n other x ≡ other)) ⊎ ((x ≢ n) × (moved n other x ≡ x))
moved_is n other x = elim (eqb_tells x n) [
  | inl w ↦ inl (w.1, ap (λ b. if b then other else x) w.0)
  | inr w ↦ inr (w.1, ap (λ b. if b then other else x) w.0)
]

moved_below : (n : ℕ) (f : ℕ → ℕ) → ((i : ℕ) → i ≤ suc n → f i < suc n) → ((i : ℕ) → i < suc n → f i ≢ f (suc n)) → (i : ℕ) → i ≤ n → moved n (f (suc n)) (f i) < n
moved_below n f h none i le =
    let last : f (suc n) < suc n = h (suc n) (omega arith) in
    let here : f i < suc n = h i (omega arith) in
    let apart : f i ≢ f (suc n) = none i (omega arith) in
    elim (moved_is n (f (suc n)) (f i)) [
      | inl w ↦ omega arith
      | inr w ↦ omega arith
    ]

twice_moved : (n : ℕ) (f : ℕ → ℕ) → ((i : ℕ) → i < suc n → f i ≢ f (suc n)) → Twice (λ i. moved n (f (suc n)) (f i)) n → Twice f (suc n)
twice_moved n f none t =
    let apart_i : f t.0 ≢ f (suc n) = none t.0 (omega arith) in
    let apart_j : f t.1 ≢ f (suc n) = none t.1 (omega arith) in
    let same : f t.0 ≡ f t.1 = elim (moved_is n (f (suc n)) (f t.0)) [
      | inl v ↦ elim (moved_is n (f (suc n)) (f t.1)) [
        | inl w ↦ v.0 ∙ sym w.0
        | inr w ↦ absurd (apart_j (sym w.1 ∙ sym t.4 ∙ v.1))
      ]
      | inr v ↦ elim (moved_is n (f (suc n)) (f t.1)) [
        | inl w ↦ absurd (apart_i (sym v.1 ∙ t.4 ∙ w.1))
        | inr w ↦ sym v.1 ∙ t.4 ∙ w.1
      ]
    ] in
    (t.0, t.1, t.2, omega arith, same)

pub pigeons : (n : ℕ) (f : ℕ → ℕ) → ((i : ℕ) → i ≤ n → f i < n) → Twice f n
pigeons zero f h = absurd (omega (arith, h 0 (omega arith)))
pigeons (suc n) f h = elim (found_below f (f (suc n)) (suc n)) [
  | inl w ↦ (w.0, suc n, w.1, omega arith, w.2)
  | inr none ↦ twice_moved n f none (pigeons n (λ i. moved n (f (suc n)) (f i)) (moved_below n f h none))
]
