-- What a binary search of ascending atoms says.
use Rattle.std.proofs.Common.{◌≡◌, ℕ, ◌+◌, ◌<◌, zero, suc, Bool, true, false, ◌&&◌, ◌||◌, ◌==◌, nat_lt, List, [], ◌∷◌, length, get_or, Result, Ok, Err, is_ok, ⊎_elim, refl, sym, ap, ◌∙◌, add-one, arith}
use Rattle.std.specs.List.{list_any, list_all}
use Rattle.std.specs.List.Sorted.{IsBinarySearchResult, IsSearchInRange, IsSortedBy}
use Rattle.std.specs.Ordering.{nat_cmp, is_lt}
use Rattle.std.specs.declared.cmp.Ordering.TheVariants.{Less, Equal, Greater}
use Rattle.std.proofs.lemmas.Bool.{and_parts, ltb-true, cases_lt}
use Rattle.std.proofs.lemmas.Bool.Decides.{nat_tests}
use Rattle.std.proofs.lemmas.Cmp.{nat_cmp_total}
use Rattle.std.proofs.lemmas.List.Folds.{list_any_at, list_any_none}
use Rattle.std.proofs.lemmas.List.Recursion.{and_at}
use Rattle.std.proofs.lemmas.List.Sorted.{searchable_from_sorted}
use Rattle.stp_base.specs.declared.ids.AtomId.{AtomId}
use Rattle.stp_cond.specs.Atoms.{has, set_of}
use Rattle.stp_cond.specs.Views.{atoms_of}
use Rattle.stp_cond.proofs.Rising.{rises, rises_from_set}

pub any_of_atoms : (p : ℕ → Bool) (xs : List AtomId) → list_any p (atoms_of xs) ≡ list_any (λ x. p x.0) xs
any_of_atoms p [] = refl
any_of_atoms p (x ∷ xs) = ap (λ b. p x.0 || b) (any_of_atoms p xs)

pub all_of_atoms : (p : ℕ → Bool) (xs : List AtomId) → list_all p (atoms_of xs) ≡ list_all (λ x. p x.0) xs
all_of_atoms p [] = refl
all_of_atoms p (x ∷ xs) = ap (λ b. p x.0 && b) (all_of_atoms p xs)

next_above : (xs : List AtomId) (k : ℕ) (d : AtomId) → rises (atoms_of xs) ≡ true → suc k < length xs → (get_or xs k d).0 < (get_or xs (suc k) d).0
next_above [] k d up h = absurd (omega arith)
next_above (x ∷ xs) zero d up h =
    let parts = and_parts (list_all (nat_lt x.0) (atoms_of xs)) (rises (atoms_of xs)) up in
    ltb-true x.0 (get_or xs 0 d).0 (and_at (list_all (λ y. nat_lt x.0 y.0)) (λ y. nat_lt x.0 y.0) refl (λ _ _. refl) xs 0 d (omega arith) (sym (all_of_atoms (nat_lt x.0) xs) ∙ parts.0))
next_above (x ∷ xs) (suc k) d up h = next_above xs k d (and_parts (list_all (nat_lt x.0) (atoms_of xs)) (rises (atoms_of xs)) up).1 (omega arith)

not_less : (a b : ℕ) → b < a → is_lt (nat_cmp a b) ≡ false
not_less a b h = grind (arith, nat_tests)

equal : (a b : ℕ) → nat_cmp a b ≡ Equal → (a == b) ≡ true
equal a b h = grind (arith, nat_tests)

not_if_less : (a b : ℕ) → nat_cmp a b ≡ Less → (a == b) ≡ false
not_if_less a b h = grind (arith, nat_tests)

not_if_greater : (a b : ℕ) → nat_cmp a b ≡ Greater → (a == b) ≡ false
not_if_greater a b h = grind (arith, nat_tests)

sorted : (xs : List AtomId) → rises (atoms_of xs) ≡ true → IsSortedBy (λ x y. is_lt (nat_cmp x.0 y.0)) xs
sorted xs up = λ k d low high. not_less (get_or xs (k + 1) d).0 (get_or xs k d).0 (rw add-one (next_above xs k d up (omega arith)))

pub among : (xs : List AtomId) (a : ℕ) (r : Result ℕ ℕ) → set_of (atoms_of xs) ≡ atoms_of xs → IsSearchInRange r (length xs) → IsBinarySearchResult (λ y. nat_cmp y.0 a) xs r → is_ok r ≡ has (atoms_of xs) a
among xs a (Ok i) up within found = sym (any_of_atoms (λ b. b == a) xs ∙ list_any_at (λ x. x.0 == a) xs i (record { 0 = a }) within (equal (get_or xs i (record { 0 = a })).0 a (found (record { 0 = a }))))
among xs a (Err i) up within found =
    let split = found (searchable_from_sorted nat_cmp_total (λ x. x.0) xs a (sorted xs (rises_from_set (atoms_of xs) up))) in
    sym (any_of_atoms (λ b. b == a) xs ∙ list_any_none (λ x. x.0 == a) xs (λ k d h. ⊎_elim (λ l. not_if_less (get_or xs k d).0 a (split.0 k d (omega arith) l)) (λ l. not_if_greater (get_or xs k d).0 a (split.1 k d l h)) (cases_lt k i)))
