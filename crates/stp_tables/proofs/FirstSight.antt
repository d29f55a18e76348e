-- Things in order of first sight: where one stands, and that each stands there once.
use Rattle.std.proofs.Common.{◌≡◌, ℕ, suc, ◌+◌, ◌<◌, ◌≤◌, eqb, Bool, true, false, not, List, [], ◌∷◌, ◌++◌, length, map, get_or, refl, ap, sym, ◌∙◌, arith, Some, None, nat_lt, if◌then◌else◌}
use Rattle.std.specs.Prelude.{position, cond, ◌||◌, slice_get}
use Rattle.std.specs.List.{list_any, position_or_len}
use Rattle.std.proofs.lemmas.Bool.Decides.{nat_tests}
use Rattle.std.proofs.lemmas.List.{length-append, length-map, map-append, get_or_append_left, get_or_push}
use Rattle.std.proofs.lemmas.List.Folds.{position_or_len_push}
use Rattle.std.proofs.lemmas.List.Quantifiers.{position-Some}
use Rattle.std.proofs.lemmas.List.Sums.{position_or_len_is}
use Rattle.std.proofs.lemmas.Option.{slice_get-get_or, slice_get_within, get_or_from_slice_get}
use Rattle.stp_tables.specs.FirstSight.{place_of, is_one_of, with_thing, AreEachOnce}

-- ---- the first that passes a test

-- a test and its place in the list with one more before
within_next : (b : Bool) (n m : ℕ) (rest : Bool) → (rest ≡ true → n < m) → (b || rest) ≡ true → cond (not b) (1 + n) 0 < suc m
within_next true n m rest h e = omega arith
within_next false n m rest h e = let k = h e in omega (arith, k)

past_next : (b : Bool) (n m : ℕ) (rest : Bool) → (rest ≡ false → n ≡ m) → (b || rest) ≡ false → cond (not b) (1 + n) 0 ≡ suc m
past_next true n m rest h e = cc
past_next false n m rest h e = let k = h e in omega (arith, k)

below : (n m : ℕ) (b : Bool) → nat_lt n m ≡ b → n < m → cond b (Some n) None ≡ Some n
below n m true e h = refl
below n m false e h = absurd (grind (arith, nat_tests, e, h))

same_length : (n : ℕ) → cond (eqb n n) (n + 0) n ≡ n
same_length n = grind (arith, nat_tests)

module _ {X : Type 0} (p : X → Bool) where
  -- where one passes, the first that does is within
  within : (xs : List X) → list_any p xs ≡ true → position_or_len p xs < length xs
  within [] e = cc
  within (x ∷ xs) e = within_next (p x) (position_or_len p xs) (length xs) (list_any p xs) (within xs) e

  -- where none passes, it is the length
  past : (xs : List X) → list_any p xs ≡ false → position_or_len p xs ≡ length xs
  past [] e = refl
  past (x ∷ xs) e = past_next (p x) (position_or_len p xs) (length xs) (list_any p xs) (past xs) e

  some_place : (xs : List X) (n : ℕ) → position_or_len p xs ≡ n → n < length xs → position p xs ≡ Some n
  some_place xs n e h = rw e (below n (length xs) (nat_lt n (length xs)) refl h)

  pushed : (xs : List X) (x : X) → list_any p xs ≡ false → p x ≡ true → position_or_len p (xs ++ x ∷ []) ≡ length xs
  pushed xs x e h = position_or_len_push p xs x ∙ rw (past xs e, h) (same_length (length xs))

  -- the first that passes stays it where more come behind
  pub first_stays : (xs ys : List X) (n : ℕ) (d : X) → position p xs ≡ Some n → position p (xs ++ ys) ≡ Some n
  first_stays xs ys n d e =
      let first = position-Some p xs n d e in
      let l = length-append xs ys in
      let within = first.0 in
      some_place (xs ++ ys) n (position_or_len_is p (xs ++ ys) n d (omega (arith, l, within)) (λ k h. ap p (get_or_append_left xs ys d k (omega (arith, h, within))) ∙ first.2 k h) (λ _. ap p (get_or_append_left xs ys d n within) ∙ first.1)) (omega (arith, l, within))

shorter : {X : Type 0} (xs : List X) (x : X) → length xs < length (xs ++ x ∷ [])
shorter xs x = let h = length-append xs (x ∷ []) in omega (arith, h)

-- ---- the numbers of things

module _ {X : Type 0} (is_same : X → X → Bool) (alike : (x : X) → is_same x x ≡ true) where
  -- the number of a thing once it is put in
  pub number_in : (thing : X) (things : List X) (b : Bool) → is_one_of is_same things thing ≡ b → place_of is_same (if b then things else things ++ thing ∷ []) thing ≡ Some (position_or_len (is_same thing) things)
  number_in thing things true e = some_place (is_same thing) things _ refl (within (is_same thing) things e)
  number_in thing things false e =
      some_place (is_same thing) (things ++ thing ∷ []) (length things) (pushed (is_same thing) things thing e (alike thing)) (shorter things thing)
      ∙ ap Some (sym (past (is_same thing) things e))

  -- the number once it is put in, where that adds a thing
  last_number : (thing : X) (things : List X) → is_one_of is_same things thing ≡ false → place_of is_same (things ++ thing ∷ []) thing ≡ Some (length things)
  last_number thing things e = number_in thing things false e ∙ ap Some (past (is_same thing) things e)

  one_more : (thing : X) (things : List X) → is_one_of is_same things thing ≡ false → AreEachOnce is_same things → (place : ℕ) (other : X) (inside : Bool) → nat_lt place (length things) ≡ inside → slice_get (things ++ thing ∷ []) place ≡ Some other → place_of is_same (things ++ thing ∷ []) other ≡ Some place
  one_more thing things e once place other true i at =
      let h : place < length things = grind (arith, nat_tests, i) in
      let here : slice_get things place ≡ Some other = slice_get-get_or things place other h ∙ ap Some (sym (get_or_append_left things (thing ∷ []) other place h) ∙ get_or_from_slice_get (things ++ thing ∷ []) place other other at) in
      first_stays (is_same other) things (thing ∷ []) place other (once place other here)
  one_more thing things e once place other false i at =
      let h : length things ≤ place = grind (arith, nat_tests, i) in
      let l = length-append things (thing ∷ []) in
      let w = slice_get_within (things ++ thing ∷ []) place other at in
      let last : length things ≡ place = omega (arith, h, l, w) in
      let is : thing ≡ other = sym (get_or_push things thing other place last) ∙ get_or_from_slice_get (things ++ thing ∷ []) place other other at in
      ap (place_of is_same (things ++ thing ∷ [])) (sym is) ∙ last_number thing things e ∙ ap Some last

  once_in : (thing : X) (things : List X) (b : Bool) → is_one_of is_same things thing ≡ b → AreEachOnce is_same things → AreEachOnce is_same (if b then things else things ++ thing ∷ [])
  once_in thing things true e once = once
  once_in thing things false e once = λ place other at. one_more thing things e once place other (nat_lt place (length things)) refl at

  -- each stays there once where one is put in
  pub once_with : (thing : X) (things : List X) → AreEachOnce is_same things → AreEachOnce is_same (with_thing is_same things thing)
  once_with thing things once = once_in thing things (is_one_of is_same things thing) refl once

-- what has a number stands there
pub found_at : {X : Type 0} (is_same : X → X → Bool) → ((x y : X) → is_same x y ≡ true → x ≡ y) → (things : List X) (thing : X) (n : ℕ) → place_of is_same things thing ≡ Some n → slice_get things n ≡ Some thing
found_at is_same same things thing n e =
    let first = position-Some (is_same thing) things n thing e in
    slice_get-get_or things n thing first.0 ∙ ap Some (sym (same thing (get_or things n thing) first.1))

-- ---- keys that stand for things

module _ {K X : Type 0} (view : K → X) (is_same : X → X → Bool) (test : K → Bool) (thing : X) (agrees : (key : K) → test key ≡ is_same thing (view key)) where
  place_keys : (keys : List K) → position_or_len test keys ≡ position_or_len (is_same thing) (map view keys)
  place_keys [] = refl
  place_keys (k ∷ keys) =
      ap (λ b. cond (not b) (1 + position_or_len test keys) 0) (agrees k)
      ∙ ap (λ n. cond (not (is_same thing (view k))) (1 + n) 0) (place_keys keys)

  -- a look-up among the keys is one among the things
  pub position_keys : (keys : List K) → position test keys ≡ place_of is_same (map view keys) thing
  position_keys keys = rw (place_keys keys, sym (length-map keys view)) refl

  pub one_of_keys : (keys : List K) → list_any test keys ≡ is_one_of is_same (map view keys) thing
  one_of_keys [] = refl
  one_of_keys (k ∷ keys) =
      ap (λ b. b || list_any test keys) (agrees k)
      ∙ ap (λ b. is_same thing (view k) || b) (one_of_keys keys)

  either_keys : (b : Bool) (keys : List K) (key : K) → map view (if b then keys else keys ++ key ∷ []) ≡ (if b then map view keys else map view keys ++ view key ∷ [])
  either_keys true keys key = refl
  either_keys false keys key = map-append view keys (key ∷ [])

  -- the things behind the keys once a key is put in
  pub with_key : (keys new : List K) (key : K) → view key ≡ thing → new ≡ (if list_any test keys then keys else keys ++ key ∷ []) → map view new ≡ with_thing is_same (map view keys) thing
  with_key keys new key e h =
      ap (map view) h
      ∙ either_keys (list_any test keys) keys key
      ∙ ap (λ b. if b then map view keys else map view keys ++ view key ∷ []) (one_of_keys keys)
      ∙ ap (λ t. if is_one_of is_same (map view keys) thing then map view keys else map view keys ++ t ∷ []) e

  -- the number of the thing then
  pub number_with : ((x : X) → is_same x x ≡ true) → (keys : List K) → place_of is_same (with_thing is_same (map view keys) thing) thing ≡ Some (position_or_len test keys)
  number_with alike keys = number_in is_same alike thing (map view keys) (is_one_of is_same (map view keys) thing) refl ∙ ap Some (sym (place_keys keys))
