-- Things in order of first sight, each once. The number of a thing is its place, from 0.
use Rattle.std.specs.Prelude.{◌≡◌, ℕ, Bool, if◌then◌else◌, List, [], ◌∷◌, ◌++◌, Option, Some, position, slice_get}
use Rattle.std.specs.List.{list_any}

module _ {X : Type 0} (is_same : X → X → Bool) (things : List X) where
  -- the number of a thing, if it has one
  abbrev pub place_of : X → Option ℕ
  place_of thing = position (is_same thing) things

  -- whether a thing is one of these
  abbrev pub is_one_of : X → Bool
  is_one_of thing = list_any (is_same thing) things

  -- the things once this one is among them
  abbrev pub with_thing : X → List X
  with_thing thing = if is_one_of thing then things else things ++ thing ∷ []

  -- each once: the thing at a place has the place as its number
  abbrev pub AreEachOnce : Type 0
  AreEachOnce = (place : ℕ) (thing : X) → slice_get things place ≡ Some thing → place_of thing ≡ Some place
