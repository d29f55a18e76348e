-- Tables that are written out.
use Rattle.std.proofs.Common.{◌≡◌, ℕ, zero, suc, ◌<◌, inl, inr, sym, ap, ◌∙◌, arith, List, [], ◌∷◌, length, Bool, true, false, get_or}
use Rattle.std.specs.Prelude.{◌==◌, ◌&&◌, nat_lt, not}
use Rattle.std.specs.List.{list_all}
use Rattle.std.proofs.lemmas.Bool.{eqb-true, cases_eq}
use Rattle.std.proofs.lemmas.Bool.Decides.{nat_tests}
use Rattle.stp_types.specs.Forest.{parent_of, is_own_ancestor, IsTable, IsForest}
use Rattle.stp_types.proofs.Deciding.{both, test_from_own}

below_test : (a b : ℕ) → nat_lt a b ≡ true → a < b
below_test a b e = grind (arith, nat_tests)

all_within : (n : ℕ) (p : List ℕ) → list_all (λ x. nat_lt x n) p ≡ true → (k : ℕ) → k < length p → get_or p k 0 < n
all_within n [] e k h = absurd (omega (arith, h))
all_within n (x ∷ xs) e zero h = below_test x n (both (nat_lt x n) (list_all (λ y. nat_lt y n) xs) e).0
all_within n (x ∷ xs) e (suc k) h = all_within n xs (both (nat_lt x n) (list_all (λ y. nat_lt y n) xs) e).1 k (omega arith)

-- whether a list is a table of parents
abbrev pub is_table : List ℕ → Bool
is_table p = (nat_lt 0 (length p) && (parent_of p 0 == 0)) && list_all (λ x. nat_lt x (length p)) p

pub table_given : (p : List ℕ) → is_table p ≡ true → IsTable p
table_given p e =
    let parts = both (nat_lt 0 (length p) && (parent_of p 0 == 0)) (list_all (λ x. nat_lt x (length p)) p) e in
    let first = both (nat_lt 0 (length p)) (parent_of p 0 == 0) parts.0 in
    record { some = below_test 0 (length p) first.0; root = eqb-true (parent_of p 0) 0 first.1; within = all_within (length p) p parts.1 }

-- whether none of so many types is an ancestor of itself
abbrev pub has_no_loop : List ℕ → ℕ → Bool
has_no_loop p zero = true
has_no_loop p (suc n) = not (is_own_ancestor p n) && has_no_loop p n

not_both : (b : Bool) → not b ≡ true → b ≡ true → ⊥
not_both true e f = cc
not_both false e f = cc

no_loop : (p : List ℕ) (n : ℕ) → has_no_loop p n ≡ true → (k : ℕ) → k < n → is_own_ancestor p k ≡ true → ⊥
no_loop p zero e k h own = omega (arith, h)
no_loop p (suc n) e k h own =
    let parts = both (not (is_own_ancestor p n)) (has_no_loop p n) e in
    elim (cases_eq k n) [
      | inl same ↦ not_both (is_own_ancestor p n) parts.0 (ap (is_own_ancestor p) (sym same) ∙ own)
      | inr other ↦ no_loop p n parts.1 k (omega arith) own
    ]

pub forest_given : (p : List ℕ) → is_table p ≡ true → has_no_loop p (length p) ≡ true → IsForest p
forest_given p e f = λ k h own. no_loop p (length p) f k h (test_from_own p k (table_given p e) h own)
