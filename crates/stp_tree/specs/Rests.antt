-- Nodes at rest with equal states, of which one is enough.
use Rattle.std.specs.Prelude.{◌≡◌, ◌⊎◌, ℕ, Bool, true, false, List, Option, Some, Contains}
use Rattle.stp_tree.specs.Trees.{GoesOn}

-- Of two nodes with equal states at rest, something no longer goes on from the one where something goes on from the other.
abbrev pub AreRests : {M : Type 0} → (List M → Type 0) → (List M → Type 0) → (List M → Option (List Bool)) → Type 0
AreRests nodes valid state = (s t : List _) (r : List Bool) → state s ≡ Some r → state t ≡ Some r → nodes t → GoesOn valid s t

-- Each state that was met is that of one of these nodes.
abbrev pub AreMet : {M : Type 0} → (List M → Option (List Bool)) → List (List M) → List (List Bool) → Type 0
AreMet state ss met = (r : List Bool) → Contains met r → (q : List _) × Contains ss q × (state q ≡ Some r)

-- A look at a node: its state at rest was met before and nothing changes, or its state alone may be new among those met.
pub data IsLookedUp {M : Type 0} (state : List M → Option (List Bool)) (c : List M) (old new : List (List Bool)) (is_new : Bool) : Type 0 where
  Met : (r : List Bool) → is_new ≡ false → state c ≡ Some r → Contains old r → new ≡ old → IsLookedUp state c old new is_new
  Unmet : is_new ≡ true → ((r : List Bool) → Contains new r → Contains old r ⊎ (state c ≡ Some r)) → IsLookedUp state c old new is_new
