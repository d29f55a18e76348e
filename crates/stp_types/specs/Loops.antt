-- Marks of the types that are ancestors of themselves, and what a walk that finds them keeps.
use Rattle.std.specs.Prelude.{◌≡◌, ◌≢◌, ℕ, ◌<◌, ◌⊎◌, Bool, true, false, List, length, slice_index, slice_index_or}
use Rattle.stp_types.specs.Forest.{parent_of, IsBelow, IsOwnAncestor, is_own_ancestor}

-- a mark for each type: whether it is an ancestor of itself
pub record MarksLoops (parents : List ℕ) (looped : List Bool) : Type 0 where
  pub len : length looped ≡ length parents
  pub each : (kind : ℕ) → kind < length parents → slice_index_or looped kind false ≡ is_own_ancestor parents kind

-- the parent of each marked type is marked
abbrev pub IsClosed : List ℕ → List Bool → Type 0
IsClosed parents looped = (k : ℕ) → k < length parents → slice_index_or looped k false ≡ true → slice_index_or looped (parent_of parents k) false ≡ true

-- Each type below `start` is visited. The loops of the visited types are known.
pub record IsVisited (parents : List ℕ) (start : ℕ) (marks : List ℕ) (looped : List Bool) : Type 0 where
  pub positive : 0 < start
  pub marks_len : length marks ≡ length parents
  pub len : length looped ≡ length parents
  pub below : (k : ℕ) → k < length parents → slice_index marks k < start
  pub done : (k : ℕ) → 0 < k → k < start → 0 < slice_index marks k
  pub upwards : (k : ℕ) → k < length parents → 0 < slice_index marks k → (parent_of parents k ≡ 0) ⊎ (0 < slice_index marks (parent_of parents k))
  pub closed : IsClosed parents looped
  pub sound : (k : ℕ) → k < length parents → slice_index_or looped k false ≡ true → IsOwnAncestor parents k
  pub complete : (k : ℕ) → k < length parents → 0 < slice_index marks k → IsOwnAncestor parents k → slice_index_or looped k false ≡ true

-- What a climb from `start` to `end` marks.
pub record Climbed (parents : List ℕ) (start : ℕ) (old new : List ℕ) (end : ℕ) : Type 0 where
  pub len : length new ≡ length parents
  pub within : end < length parents
  pub marked : (k : ℕ) → k < length parents → (slice_index new k ≡ slice_index old k) ⊎ ((slice_index old k ≡ 0) × (slice_index new k ≡ start) × (k ≢ 0))
  pub leads : (k : ℕ) → k < length parents → slice_index old k ≡ 0 → slice_index new k ≡ start → IsBelow parents (parent_of parents k) end
  pub upwards : (k : ℕ) → k < length parents → slice_index old k ≡ 0 → slice_index new k ≡ start → (parent_of parents k ≡ end) ⊎ (0 < slice_index new (parent_of parents k))
  pub begun : (start ≡ end) ⊎ (0 < slice_index new start)
  pub ended : (end ≡ 0) ⊎ (0 < slice_index new end)

-- What a walk round from `start` marks.
pub record Circled (parents : List ℕ) (start : ℕ) (old new : List Bool) : Type 0 where
  pub len : length new ≡ length parents
  pub closed : IsClosed parents new
  pub begun : slice_index_or new start false ≡ true
  pub kept : (k : ℕ) → k < length parents → slice_index_or old k false ≡ true → slice_index_or new k false ≡ true
  pub marked : (k : ℕ) → k < length parents → slice_index_or new k false ≡ true → (slice_index_or old k false ≡ true) ⊎ IsBelow parents start k
