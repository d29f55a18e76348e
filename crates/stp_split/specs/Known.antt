-- What is known of atoms whichever ends have come.
use Rattle.std.specs.Prelude.{◌≡◌, ℕ, ◌<◌, Bool, false, ◌⊎◌, List, Contains}
use Rattle.stp_cond.specs.declared.known.Three.{Three}
use Rattle.stp_cond.specs.declared.known.Three.TheVariants.{Unknown}
use Rattle.stp_cond.specs.Decided.{three_of}
use Rattle.stp_cond.specs.Folded.{known_of}
use Rattle.stp_window.specs.Certain.{sets}
use Rattle.stp_window.specs.Windows.{Point}

-- an atom is unknown, or has its value and is written by none of the ends
abbrev pub IsKnownRow : List Three → List Point → (ℕ → Bool) → Type 0
IsKnownRow known ends state = (a : ℕ) → (known_of known a ≡ Unknown) ⊎ ((known_of known a ≡ three_of (state a)) × ((p : Point) → Contains ends p → sets p a ≡ false))

-- of so many atoms, each that none of the ends writes has its value
abbrev pub IsKeptRow : List Three → List Point → ℕ → (ℕ → Bool) → Type 0
IsKeptRow known ends n state = (a : ℕ) → a < n → ((p : Point) → Contains ends p → sets p a ≡ false) → known_of known a ≡ three_of (state a)
