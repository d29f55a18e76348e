-- The value of a function at the place of a number.
use Rattle.std.proofs.Common.{◌≡◌, ℕ, suc, arith, ◌+◌, Bool, true, false, not, if◌then◌else◌, List, [], ◌∷◌, ◌++◌, map, Option, Some, None, is_some, refl, ap, sym, ◌∙◌}
use Rattle.std.specs.Prelude.{cond, ◌||◌, slice_get, option_map}
use Rattle.std.specs.List.{list_any, position_or_len}
use Rattle.std.proofs.lemmas.List.{map-append}
use Rattle.std.proofs.lemmas.Option.{slice_get-map}
use Rattle.stp_frac.specs.Fractions.{Fraction}
use Rattle.stp_schema.specs.declared.problem.Given.{Given}
use Rattle.stp_schema.specs.Views.{PlainGiven, given_of}
use Rattle.stp_tables.specs.Atoms.{Atom, is_atom, number_of, with_atom}
use Rattle.stp_tables.proofs.AtomKeys.{same_atom}
use Rattle.stp_tables.proofs.FirstSight.{number_in}
use Rattle.stp_problem.specs.Facts.{place_of, value_in}

-- the number of the first value at a place, which is how many values there are where there is none
abbrev first_at : Atom → List PlainGiven → ℕ
first_at atom gs = position_or_len (is_atom atom) (map place_of gs)

after_one : (n : ℕ) → 1 + n ≡ suc n
after_one n = omega arith

placed_next : (b : Bool) (g : PlainGiven) (gs : List PlainGiven) (n : ℕ) (rest : Option Fraction) → option_map (λ h. h.value) (slice_get gs n) ≡ rest → option_map (λ h. h.value) (slice_get (g ∷ gs) (cond (not b) (1 + n) 0)) ≡ (if b then Some g.value else rest)
placed_next true g gs n rest h = refl
placed_next false g gs n rest h = ap (λ k. option_map (λ u. u.value) (slice_get (g ∷ gs) k)) (after_one n) ∙ h

value_placed : (atom : Atom) (gs : List PlainGiven) → option_map (λ h. h.value) (slice_get gs (first_at atom gs)) ≡ value_in atom gs
value_placed atom [] = refl
value_placed atom (g ∷ gs) = placed_next (is_atom atom (place_of g)) g gs (first_at atom gs) (value_in atom gs) (value_placed atom gs)

any_next : (b : Bool) (g : PlainGiven) (gs : List PlainGiven) (n : ℕ) (rest : Bool) → is_some (slice_get gs n) ≡ rest → is_some (slice_get (g ∷ gs) (cond (not b) (1 + n) 0)) ≡ (b || rest)
any_next true g gs n rest h = refl
any_next false g gs n rest h = ap (λ k. is_some (slice_get (g ∷ gs) k)) (after_one n) ∙ h

any_placed : (atom : Atom) (gs : List PlainGiven) → is_some (slice_get gs (first_at atom gs)) ≡ list_any (is_atom atom) (map place_of gs)
any_placed atom [] = refl
any_placed atom (g ∷ gs) = any_next (is_atom atom (place_of g)) g gs (first_at atom gs) (list_any (is_atom atom) (map place_of gs)) (any_placed atom gs)

some_same : (m n : ℕ) → Some m ≡ Some n → m ≡ n
some_same m n e = cc

module _ (vs : List Given) (atom : Atom) (places : List Atom) (number : ℕ) (found : Option Given)
    (new : places ≡ with_atom (map place_of (map given_of vs)) atom) (numbered : number_of places atom ≡ Some number) (is : found ≡ slice_get vs number) where
  number_is : number ≡ first_at atom (map given_of vs)
  number_is = some_same number (first_at atom (map given_of vs)) (sym numbered ∙ ap (λ ps. number_of ps atom) new ∙ number_in is_atom same_atom atom (map place_of (map given_of vs)) (list_any (is_atom atom) (map place_of (map given_of vs))) refl)

  given_is : option_map given_of found ≡ slice_get (map given_of vs) (first_at atom (map given_of vs))
  given_is = ap (option_map given_of) is ∙ sym (slice_get-map given_of vs number) ∙ ap (slice_get (map given_of vs)) number_is

  any_is : is_some (option_map given_of found) ≡ list_any (is_atom atom) (map place_of (map given_of vs))
  any_is = ap is_some given_is ∙ any_placed atom (map given_of vs)

  pub value_is : option_map (λ h. h.value) (option_map given_of found) ≡ value_in atom (map given_of vs)
  value_is = ap (option_map (λ h. h.value)) given_is ∙ value_placed atom (map given_of vs)

  places_are : (b : Bool) → is_some (option_map given_of found) ≡ b → places ≡ (if b then map place_of (map given_of vs) else map place_of (map given_of vs) ++ atom ∷ [])
  places_are b e = new ∙ ap (λ c. if c then map place_of (map given_of vs) else map place_of (map given_of vs) ++ atom ∷ []) (sym any_is ∙ e)

  pub places_same : (g : Given) → found ≡ Some g → places ≡ map place_of (map given_of vs)
  places_same g e = places_are true (ap (λ f. is_some (option_map given_of f)) e)

  pub places_more : (g : Given) → found ≡ None → place_of (given_of g) ≡ atom → places ≡ map place_of (map given_of (vs ++ g ∷ []))
  places_more g e h =
      places_are false (ap (λ f. is_some (option_map given_of f)) e)
      ∙ ap (λ a. map place_of (map given_of vs) ++ a ∷ []) (sym h)
      ∙ sym (ap (map place_of) (map-append given_of vs (g ∷ [])) ∙ map-append place_of (map given_of vs) (given_of g ∷ []))
