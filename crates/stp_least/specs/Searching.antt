-- Looking for the least failure of a box by narrowing one end after the other.
use Rattle.std.specs.Prelude.{◌≡◌, ℕ, List, length, filter, All}
use Rattle.stp_happen.specs.Boxes.{PlainOwner, PlainBox}
use Rattle.stp_happen.specs.LeastFailure.{IsLeastFailure}

-- how many of these owners are uncertain
abbrev pub uncertain_among : List PlainOwner → ℕ
uncertain_among owners = length (filter (λ o. o.uncertain) owners)

-- each of these owners has only one end
abbrev pub AreFixed : List PlainOwner → Type 0
AreFixed owners = All (λ o. o.low ≡ o.high) owners

-- the least failure of the narrow box is that of the wide one
abbrev pub KeepsLeastFailure : PlainBox → PlainBox → Type 0
KeepsLeastFailure wide narrow = (durations : List ℕ) → IsLeastFailure narrow durations → IsLeastFailure wide durations
