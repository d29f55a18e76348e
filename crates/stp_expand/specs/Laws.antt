-- What an expanded condition means.
use Rattle.std.specs.Prelude.{◌≡◌, ℕ, ◌↔◌, Bool, true, ◌&&◌, if◌then◌else◌, List, All}
use Rattle.std.specs.List.{list_any}
use Rattle.stp_cond.specs.Atoms.{has}
use Rattle.stp_cond.specs.Formulas.{Formula, holds_in}
use Rattle.stp_expand.specs.Footprints.{PlainFootprint, writes}
use Rattle.stp_expand.specs.Expanded.{expanded}

-- whether some action of a footprint is opened
abbrev pub is_opened : (ℕ → Bool) → PlainFootprint → Bool
is_opened state p = list_any state p.opened

-- two opened ends do not write an atom both ways
abbrev pub AgreeIfOpened : (ℕ → Bool) → PlainFootprint → PlainFootprint → Type 0
AgreeIfOpened state p q = is_opened state p ≡ true → is_opened state q ≡ true → (a : ℕ) → has p.adds a ≡ true → has q.dels a ≡ true → ⊥

-- the state once the chosen ones of the opened ends have come: what they write is as its shadow
abbrev pub once_come : (ℕ → ℕ) → List PlainFootprint → (ℕ → Bool) → (PlainFootprint → Bool) → ℕ → Bool
once_come shadow ends state chosen a = if list_any (λ p. (chosen p && is_opened state p) && writes p a) ends then state (shadow a) else state a

-- an expanded condition holds in a state exactly where the condition holds whichever of the opened ends have come
abbrev pub ExpansionMeansWhicheverCame : Type 0
ExpansionMeansWhicheverCame = (shadow : ℕ → ℕ) (ends : List PlainFootprint) (state : ℕ → Bool) (f : Formula) → All (λ p. All (AgreeIfOpened state p) ends) ends →
    holds_in state (expanded shadow ends f) ≡ true ↔ ((chosen : PlainFootprint → Bool) → holds_in (once_come shadow ends state chosen) f ≡ true)
