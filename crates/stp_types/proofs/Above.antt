-- Steps from types to their parents.
use Rattle.std.proofs.Common.{◌≡◌, ◌≢◌, ℕ, zero, suc, ◌+◌, ◌-◌, ◌<◌, ◌≤◌, ◌⊎◌, inl, inr, refl, sym, ap, ◌∙◌, arith, List, length, add-zero, add-suc}
use Rattle.std.proofs.lemmas.Bool.{cases_eq, cases_lt}
use Rattle.stp_types.specs.Forest.{parent_of, above, IsTable, IsForest, IsOwnAncestor}
use Rattle.stp_types.proofs.Pigeons.{pigeons}

module _ (p : List ℕ) where
  -- one more step
  pub above_suc : (n k : ℕ) → above p (suc n) k ≡ parent_of p (above p n k)
  above_suc zero k = refl
  above_suc (suc n) k = above_suc n (parent_of p k)

  -- some steps after others
  pub above_sum : (m n k : ℕ) → above p (m + n) k ≡ above p m (above p n k)
  above_sum m zero k = rw add-zero refl
  above_sum m (suc n) k = rw add-suc (above_sum m n (parent_of p k))

  -- so many steps in two parts
  pub above_parts : (s m n k : ℕ) → s ≡ m + n → above p s k ≡ above p m (above p n k)
  above_parts s m n k e = ap (λ x. above p x k) e ∙ above_sum m n k

module _ (p : List ℕ) (t : IsTable p) where
  pub above_within : (n k : ℕ) → k < length p → above p n k < length p
  above_within zero k h = h
  above_within (suc n) k h = above_within n (parent_of p k) (t.within k h)

  pub above_root : (n : ℕ) → above p n 0 ≡ 0
  above_root zero = refl
  above_root (suc n) = ap (above p n) t.root ∙ above_root n

  -- beyond the root
  pub above_past : (m n k : ℕ) → above p n k ≡ 0 → n ≤ m → above p m k ≡ 0
  above_past m n k e h = above_parts p m (m - n) n k (omega arith) ∙ ap (above p (m - n)) e ∙ above_root (m - n)

  -- what is reached at all is reached by as many steps as there are types
  shorter_by : (b n : ℕ) → n ≤ b → (k other : ℕ) → k < length p → above p n k ≡ other → (m : ℕ) × (m ≤ length p) × (above p m k ≡ other)
  shorter_by zero n h k other there e = (n, omega arith, e)
  shorter_by (suc b) n h k other there e = elim (cases_lt (length p) n) [
    | inr le ↦ (n, le, e)
    | inl lt ↦
        let w = pigeons (length p) (λ i. above p i k) (λ i _. above_within i k there) in
        shorter_by b (n - w.1 + w.0) (omega arith) k other there
        (above_sum p (n - w.1) w.0 k ∙ ap (above p (n - w.1)) w.4 ∙ sym (above_parts p n (n - w.1) w.1 k (omega arith)) ∙ e)
  ]

  pub shorter : (n k other : ℕ) → k < length p → above p n k ≡ other → (m : ℕ) × (m ≤ length p) × (above p m k ≡ other)
  shorter n k other there e = shorter_by n n (omega arith) k other there e

  -- a type that is met twice on the way up is an ancestor of itself
  pub met_twice : (i j k : ℕ) → i < j → above p i k ≡ above p j k → above p i k ≢ 0 → IsOwnAncestor p (above p i k)
  met_twice i j k lt e d = (d, (j - i - 1, sym (above_parts p j (suc (j - i - 1)) i k (omega arith)) ∙ sym e))

  -- where no type is an ancestor of itself, there are more types than steps below the root
  pub rooted : IsForest p → (n k : ℕ) → k < length p → ((i : ℕ) → i < n → above p i k ≢ 0) → n < length p
  rooted forest n k there up = elim (cases_lt n (length p)) [
    | inl lt ↦ lt
    | inr le ↦
        let some : 0 < length p = t.some in
        let child : (i : ℕ) → i ≤ length p - 1 → above p i k ≢ 0 = λ i h. up i (omega arith) in
        let w = pigeons (length p - 1) (λ i. above p i k - 1) (λ i h. let a = child i h in let b = above_within i k there in omega arith) in
        let c = child w.0 (omega arith) in
        let d = child w.1 w.3 in
        absurd (forest (above p w.0 k) (above_within w.0 k there) (met_twice w.0 w.1 k w.2 (omega (arith, w.4)) c))
  ]

  -- the first of so many steps that is at the root
  root_by : (n k : ℕ) → ((i : ℕ) → i < n → above p i k ≢ 0) ⊎ (above p n k ≡ 0)
  root_by zero k = inl (λ i h. absurd (omega (arith, h)))
  root_by (suc n) k = elim (root_by n k) [
    | inr z ↦ inr (above_suc p n k ∙ ap (parent_of p) z ∙ t.root)
    | inl up ↦ elim (cases_eq (above p n k) 0) [
      | inl z ↦ inr (above_suc p n k ∙ ap (parent_of p) z ∙ t.root)
      | inr d ↦ inl (λ i h. elim (cases_eq i n) [
        | inl e ↦ λ z. d (ap (λ x. above p x k) (sym e) ∙ z)
        | inr other ↦ up i (omega arith)
      ])
    ]
  ]

  pub above_end : IsForest p → (k : ℕ) → k < length p → above p (length p) k ≡ 0
  above_end forest k there = elim (root_by (length p) k) [
    | inr z ↦ z
    | inl up ↦ let w = rooted forest (length p) k there up in absurd (omega (arith, w))
  ]
