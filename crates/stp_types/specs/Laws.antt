-- The tests are the relations.
use Rattle.std.specs.Prelude.{◌≡◌, ℕ, ◌<◌, true, List, length, ◌↔◌}
use Rattle.stp_types.specs.Forest.{IsTable, IsForest, IsBelow, IsOwnAncestor, is_below, is_own_ancestor}

pub record TestsAreRelations : Type 0 where
  pub below : (parents : List ℕ) (kind other : ℕ) → IsTable parents → kind < length parents → (is_below parents kind other ≡ true) ↔ IsBelow parents kind other
  pub own_ancestor : (parents : List ℕ) (kind : ℕ) → IsTable parents → kind < length parents → (is_own_ancestor parents kind ≡ true) ↔ IsOwnAncestor parents kind

pub record RootIsAboveAll : Type 0 where
  pub root : (parents : List ℕ) (kind : ℕ) → IsTable parents → IsForest parents → kind < length parents → is_below parents kind 0 ≡ true
