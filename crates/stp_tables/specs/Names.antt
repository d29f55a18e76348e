-- Names in the order in which they came.
use Rattle.std.specs.Prelude.{ℕ, Bool, not, List, Option, map, bytes_eq, Vec}
use Rattle.stp_tables.specs.FirstSight.{place_of, is_one_of, with_thing, AreEachOnce}

-- the lists behind the vectors
abbrev pub lists_of : {A : Type 0} → List (Vec ℕ A) → List (List ℕ)
lists_of vs = map (λ v. v.items) vs

-- the number of a name, if it has one
abbrev pub number_of : List (List ℕ) → List ℕ → Option ℕ
number_of names name = place_of bytes_eq names name

-- whether a name is none of these
abbrev pub is_new_in : List (List ℕ) → List ℕ → Bool
is_new_in names name = not (is_one_of bytes_eq names name)

-- the names once this one is among them
abbrev pub with_name : List (List ℕ) → List ℕ → List (List ℕ)
with_name names name = with_thing bytes_eq names name

-- each name once
abbrev pub AreNamedOnce : List (List ℕ) → Type 0
AreNamedOnce names = AreEachOnce bytes_eq names
