-- Events interfere exactly where an atom shows it.
use Rattle.std.specs.Prelude.{◌≡◌, ℕ, ◌↔◌, true, ◌||◌, ◌⊎◌}
use Rattle.stp_cond.specs.Atoms.{PlainEvent, has, interfere}

-- an atom that the one reads and the other writes, or that the one adds and the other deletes
abbrev pub Disturbs : PlainEvent → PlainEvent → Type 0
Disturbs e o = (a : ℕ) × (((has e.reads a ≡ true) × ((has o.adds a || has o.dels a) ≡ true)) ⊎ ((has e.adds a ≡ true) × (has o.dels a ≡ true)))

abbrev pub AtomsShowInterference : Type 0
AtomsShowInterference = (e o : PlainEvent) → interfere e o ≡ true ↔ (Disturbs e o ⊎ Disturbs o e)
