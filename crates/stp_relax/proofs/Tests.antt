-- Tests of lists of atoms.
use Rattle.std.proofs.Common.{◌≡◌, ℕ, ◌+◌, ◌<◌, nat_lt, ◌==◌, subst, Bool, true, false, not, ◌&&◌, ◌||◌, List, [], ◌∷◌, ◌++◌, length, refl, sym, ap, ◌∙◌, arith}
use Rattle.std.specs.List.{list_any, list_all}
use Rattle.std.proofs.lemmas.Bool.{ltb-true}
use Rattle.std.proofs.lemmas.Bool.Decides.{nat_tests}
use Rattle.std.proofs.lemmas.List.Folds.{list_all-append, list_any-append}
use Rattle.stp_cond.specs.Atoms.{has}
use Rattle.stp_base.specs.declared.ids.AtomId.{AtomId}
use Rattle.stp_cond.specs.Truth.{state_of_row}
use Rattle.stp_cond.specs.Views.{atoms_of}
use Rattle.stp_cond.proofs.Rising.{rises, has_from_Contains, Contains_from_has}
use Rattle.stp_happen.proofs.Members.{all_pass, any_passes, each_passes, passing_member, and_left, and_right, and_both}

-- ---- truth values

pub not_true : (b : Bool) → (b ≡ true → ⊥) → b ≡ false
not_true true h = absurd (h refl)
not_true false h = refl

pub clash : (b : Bool) → b ≡ true → b ≡ false → ⊥
clash b h k = cc

pub not_false : (b : Bool) → not b ≡ true → b ≡ false
not_false true h = sym h
not_false false h = refl

pub turned : (b : Bool) → b ≡ false → not b ≡ true
turned b h = ap not h

pub or_right : (b c : Bool) → c ≡ true → (b || c) ≡ true
or_right true c h = refl
or_right false c h = h

-- ---- all or none of some atoms

pub each_atom : (q : ℕ → Bool) (xs : List ℕ) → list_all q xs ≡ true → (a : ℕ) → has xs a ≡ true → q a ≡ true
each_atom q xs h a k = each_passes q xs h a (Contains_from_has xs a k)

pub all_atoms : (q : ℕ → Bool) (xs : List ℕ) → ((a : ℕ) → has xs a ≡ true → q a ≡ true) → list_all q xs ≡ true
all_atoms q xs h = all_pass q xs (λ a i. h a (has_from_Contains xs a i))

pub no_atom : (q : ℕ → Bool) (xs : List ℕ) → list_any q xs ≡ false → (a : ℕ) → has xs a ≡ true → q a ≡ false
no_atom q xs h a k = not_true (q a) (λ e. clash (list_any q xs) (any_passes q xs a (Contains_from_has xs a k) e) h)

pub no_atoms : (q : ℕ → Bool) (xs : List ℕ) → ((a : ℕ) → has xs a ≡ true → q a ≡ false) → list_any q xs ≡ false
no_atoms q xs h = not_true (list_any q xs) (λ e. let m = passing_member q xs e in clash (q m.0) m.2 (h m.0 (has_from_Contains xs m.0 m.1)))

-- ---- a greater number at the end of an ascending list

pub rises_push : (xs : List ℕ) (n : ℕ) → rises xs ≡ true → ((a : ℕ) → has xs a ≡ true → a < n) → rises (xs ++ n ∷ []) ≡ true
rises_push [] n up below = refl
rises_push (x ∷ xs) n up below =
    and_both (list_all (nat_lt x) (xs ++ n ∷ [])) (rises (xs ++ n ∷ []))
    (list_all-append (nat_lt x) xs (n ∷ []) ∙ and_both (list_all (nat_lt x) xs) (nat_lt x n && true) (and_left (list_all (nat_lt x) xs) (rises xs) up) (let l : x < n = below x (has_from_Contains (x ∷ xs) x (0, omega arith, refl)) in grind (arith, nat_tests)))
    (rises_push xs n (and_right (list_all (nat_lt x) xs) (rises xs) up) (λ a h. below a (or_right (x == a) (has xs a) h)))

-- ---- the true atoms of a row, one more of which is looked at

true_more : (a n : ℕ) (s : Bool) → (n ≡ a → s ≡ true) → ((nat_lt a n && s) || ((n == a) || false)) ≡ (nat_lt a (n + 1) && s)
true_more a n true h = grind (arith, nat_tests)
true_more a n false h = grind (arith, nat_tests)

false_more : (a n : ℕ) (s : Bool) → (n ≡ a → s ≡ false) → (nat_lt a n && s) ≡ (nat_lt a (n + 1) && s)
false_more a n true h = grind (arith, nat_tests)
false_more a n false h = grind (arith, nat_tests)

pub found_more : (row : List Bool) (xs : List ℕ) (n : ℕ) → ((a : ℕ) → has xs a ≡ (nat_lt a n && state_of_row row a)) → state_of_row row n ≡ true → (a : ℕ) → has (xs ++ n ∷ []) a ≡ (nat_lt a (n + 1) && state_of_row row a)
found_more row xs n those h a =
    list_any-append (λ b. b == a) xs (n ∷ []) ∙ ap (λ b. b || ((n == a) || false)) (those a) ∙ true_more a n (state_of_row row a) (λ e. subst (λ b. state_of_row row b ≡ true) e h)

pub none_found : (row : List Bool) (xs : List ℕ) (n : ℕ) → ((a : ℕ) → has xs a ≡ (nat_lt a n && state_of_row row a)) → state_of_row row n ≡ false → (a : ℕ) → has xs a ≡ (nat_lt a (n + 1) && state_of_row row a)
none_found row xs n those h a = those a ∙ false_more a n (state_of_row row a) (λ e. subst (λ b. state_of_row row b ≡ false) e h)

pub found_rise : (row : List Bool) (xs : List ℕ) (n : ℕ) → ((a : ℕ) → has xs a ≡ (nat_lt a n && state_of_row row a)) → rises xs ≡ true → rises (xs ++ n ∷ []) ≡ true
found_rise row xs n those up = rises_push xs n up (λ a h. let l : nat_lt a n ≡ true = and_left (nat_lt a n) (state_of_row row a) (sym (those a) ∙ h) in ltb-true a n l)

pub none_among : (xs : List AtomId) → length xs ≡ 0 → (a : ℕ) → has (atoms_of xs) a ≡ false
none_among [] e a = refl
none_among (x ∷ xs) e a = absurd (omega (arith, e))
