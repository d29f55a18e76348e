-- Wheels that turn through all bindings of the variables of a quantifier, the last one fastest.
use Rattle.std.specs.Prelude.{◌≡◌, ℕ, Bool, true, false, nat_lt, List, [], ◌∷◌, ◌++◌, map, drop, length, slice_index}
use Rattle.std.specs.List.{flat_map}
use Rattle.stp_instance.specs.Bindings.{numbers_of}
use Rattle.stp_instance.specs.declared.wheel.Wheel.{Wheel}
use Rattle.stp_instance.specs.Expanded.{bindings_of}

-- the objects that a variable may stand for
abbrev pub choices_of : Wheel → List ℕ
choices_of wheel = numbers_of wheel.choices.now

-- those of them that are left, the one that it stands for first
abbrev pub rest_of : Wheel → List ℕ
rest_of wheel = numbers_of wheel.rest.now

abbrev pub shown : Wheel → ℕ
shown wheel = slice_index (rest_of wheel) 0

abbrev pub has_choice : Wheel → Bool
has_choice wheel = nat_lt 0 (length wheel.choices.now)

-- the bindings from the one that is shown on
abbrev pub left : List Wheel → List (List ℕ)
left [] = [] ∷ []
left (wheel ∷ wheels) = map (λ others. shown wheel ∷ others) (left wheels) ++ flat_map (λ object. map (λ others. object ∷ others) (bindings_of choices_of wheels)) (drop 1 (rest_of wheel))

-- the next of these bindings is taken, and put at the end of a binding; or there is none
abbrev pub Takes : Bool → List (List ℕ) → List (List ℕ) → List ℕ → List ℕ → Type 0
Takes true old new binding bound = (first : List ℕ) × (old ≡ first ∷ new) × (bound ≡ binding ++ first)
Takes false old new binding bound = (old ≡ []) × (new ≡ []) × (bound ≡ binding)
