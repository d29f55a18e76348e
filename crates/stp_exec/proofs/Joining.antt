-- The denominators of items of a list, joined one item after the other.
use Rattle.std.proofs.Common.{◌≡◌, ℕ, ◌+◌, ◌<◌, ◌≤◌, true, List, [], ◌∷◌, ◌++◌, length, map, flat_map, drop, get_or, Some, None, refl, sym, ap, ◌∙◌, subst, arith}
use Rattle.std.specs.List.{list_all, All}
use Prim.Native.Nat.{◌∣◌}
use Rattle.std.proofs.lemmas.List.{drop_more, drop_all}
use Rattle.std.proofs.lemmas.List.Elements.{All-nil, All-cons}
use Rattle.std.proofs.lemmas.Nat.Gcd.{dvd_trans}
use Rattle.stp_frac.specs.Divisors.{lcm, divides}
use Rattle.stp_frac.specs.Fractions.{up_to}
use Rattle.stp_frac.proofs.Divisors.{divides_from, both_true, lcm_pos, lcm_multiple_left, lcm_multiple_right}
use Rattle.stp_exec.specs.Timed.{common_multiple}
use Rattle.stp_exec.proofs.Multiples.{Positive, common_pos, common_append, lcm_one_right, within_is, beyond_is, beyond_from, lcm_above, lcm_assoc}

pub at_item : {A : Type 0} (xs : List A) (i : ℕ) (x : A) → i < length xs → get_or xs i x ≡ x → drop i xs ≡ x ∷ drop (i + 1) xs
at_item xs i x h is = drop_more xs i x h ∙ ap (λ y. y ∷ drop (i + 1) xs) is

pub append_positive : (ms ns : List ℕ) → Positive ms → Positive ns → Positive (ms ++ ns)
append_positive [] ns p q = q
append_positive (m ∷ ms) ns p q = (p.0, append_positive ms ns p.1 q)

-- grids on which all of these denominators lie
pub denominators_lie : (ns : List ℕ) (g : ℕ) → Positive ns → common_multiple ns ∣ g → list_all (λ d. divides d g) ns ≡ true
denominators_lie [] g p h = refl
denominators_lie (n ∷ ns) g p h =
    both_true (divides n g) (list_all (λ d. divides d g) ns)
    (divides_from n g (dvd_trans n (lcm_multiple_left n (common_multiple ns) p.0 (common_pos ns p.1)) h))
    (denominators_lie ns g p.1 (dvd_trans (common_multiple ns) (lcm_multiple_right n (common_multiple ns) p.0 (common_pos ns p.1)) h))

-- ---- items, each with some denominators

-- the common multiple of the denominators of items
abbrev pub multiple : {B : Type 0} → (B → List ℕ) → List B → ℕ
multiple bottoms items = common_multiple (flat_map bottoms items)

-- what is joined so far, and what is left
abbrev pub IsJoined : {A B : Type 0} → (A → B) → (B → List ℕ) → ℕ → ℕ → ℕ → List A → Type 0
IsJoined view bottoms start grid i xs = lcm grid (multiple bottoms (map view (drop i xs))) ≡ lcm start (multiple bottoms (map view xs))

module _ {A B : Type 0} (view : A → B) (bottoms : B → List ℕ) (positive : (x : A) → Positive (bottoms (view x))) where
  pub all_positive : (xs : List A) → Positive (flat_map bottoms (map view xs))
  all_positive [] = tt
  all_positive (x ∷ xs) = append_positive (bottoms (view x)) (flat_map bottoms (map view xs)) (positive x) (all_positive xs)

  pub multiple_pos : (xs : List A) → 0 < multiple bottoms (map view xs)
  multiple_pos xs = common_pos (flat_map bottoms (map view xs)) (all_positive xs)

  part_pos : (x : A) → 0 < common_multiple (bottoms (view x))
  part_pos x = common_pos (bottoms (view x)) (positive x)

  multiple_cons : (x : A) (xs : List A) → multiple bottoms (map view (x ∷ xs)) ≡ lcm (common_multiple (bottoms (view x))) (multiple bottoms (map view xs))
  multiple_cons x xs = common_append (bottoms (view x)) (flat_map bottoms (map view xs)) (positive x) (all_positive xs)

  joined_at : (start g i : ℕ) (x : A) (xs : List A) → 0 < g → i < length xs → get_or xs i x ≡ x → IsJoined view bottoms start g i xs → lcm (lcm g (common_multiple (bottoms (view x)))) (multiple bottoms (map view (drop (i + 1) xs))) ≡ lcm start (multiple bottoms (map view xs))
  joined_at start g i x xs pg h is so_far =
      lcm_assoc g (common_multiple (bottoms (view x))) (multiple bottoms (map view (drop (i + 1) xs))) pg (part_pos x) (multiple_pos (drop (i + 1) xs))
      ∙ ap (lcm g) (sym (multiple_cons x (drop (i + 1) xs)) ∙ ap (λ l. multiple bottoms (map view l)) (sym (at_item xs i x h is)))
      ∙ so_far

  pub joined_more : (start g k i : ℕ) (x : A) (xs : List A) → 0 < g → i < length xs → get_or xs i x ≡ x → Some k ≡ up_to 999999999 (lcm g (common_multiple (bottoms (view x)))) → IsJoined view bottoms start g i xs → IsJoined view bottoms start k (i + 1) xs
  joined_more start g k i x xs pg h is e so_far =
      ap (λ k. lcm k (multiple bottoms (map view (drop (i + 1) xs)))) (within_is 999999999 (lcm g (common_multiple (bottoms (view x)))) k e)
      ∙ joined_at start g i x xs pg h is so_far

  pub joined_beyond : (start g i : ℕ) (x : A) (xs : List A) → 0 < g → i < length xs → get_or xs i x ≡ x → None ≡ up_to 999999999 (lcm g (common_multiple (bottoms (view x)))) → IsJoined view bottoms start g i xs → None ≡ up_to 999999999 (lcm start (multiple bottoms (map view xs)))
  joined_beyond start g i x xs pg h is e so_far =
      let part : ℕ = common_multiple (bottoms (view x)) in
      let rest : ℕ = multiple bottoms (map view (drop (i + 1) xs)) in
      let above : 999999999 < lcm g part = beyond_is 999999999 (lcm g part) e in
      let more : lcm g part ≤ lcm (lcm g part) rest = lcm_above (lcm g part) rest (lcm_pos g part pg (part_pos x)) (multiple_pos (drop (i + 1) xs)) in
      beyond_from 999999999 (lcm start (multiple bottoms (map view xs))) (omega (arith, above, more, joined_at start g i x xs pg h is so_far))

  pub joined_all : (start g i : ℕ) (xs : List A) → 0 < g → length xs ≤ i → IsJoined view bottoms start g i xs → g ≡ lcm start (multiple bottoms (map view xs))
  joined_all start g i xs pg h so_far =
      sym (lcm_one_right g pg) ∙ ap (λ l. lcm g (multiple bottoms (map view l))) (sym (drop_all i xs h)) ∙ so_far

  -- all items lie on the grids that their multiple divides
  pub all_lie : (xs : List A) (g : ℕ) → multiple bottoms (map view xs) ∣ g → All (λ x. list_all (λ d. divides d g) (bottoms (view x)) ≡ true) xs
  all_lie [] g h = All-nil (λ x. list_all (λ d. divides d g) (bottoms (view x)) ≡ true)
  all_lie (x ∷ xs) g h =
      let part : ℕ = common_multiple (bottoms (view x)) in
      let rest : ℕ = multiple bottoms (map view xs) in
      let whole : lcm part rest ∣ g = subst (λ n. n ∣ g) (multiple_cons x xs) h in
      All-cons (λ x. list_all (λ d. divides d g) (bottoms (view x)) ≡ true) x xs
      (denominators_lie (bottoms (view x)) g (positive x) (dvd_trans part (lcm_multiple_left part rest (part_pos x) (multiple_pos xs)) whole))
      (all_lie xs g (dvd_trans rest (lcm_multiple_right part rest (part_pos x) (multiple_pos xs)) whole))
