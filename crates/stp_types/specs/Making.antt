-- Rows while they are made: a type has its row where its depth is not 0, and the root has one from the start.
use Rattle.std.specs.Prelude.{◌≡◌, ◌≢◌, ℕ, ◌<◌, ◌≤◌, ◌⊎◌, List, length, slice_index}
use Rattle.stp_types.specs.declared.row.Ancestry.{Ancestry}
use Rattle.stp_types.specs.Forest.{parent_of, above}
use Rattle.stp_types.specs.Rows.{row_at, depth_of}

-- the least number of steps to the root
pub record IsDepth (parents : List ℕ) (kind depth : ℕ) : Type 0 where
  pub root : above parents depth kind ≡ 0
  pub least : (n : ℕ) → n < depth → above parents n kind ≢ 0

-- a row is right
pub record IsRow (parents : List ℕ) (kind : ℕ) (row : Ancestry) : Type 0 where
  pub parent : row.parent ≡ parent_of parents kind
  pub depth : IsDepth parents kind row.depth
  pub steps : ℕ
  pub up : kind ≢ 0 → 0 < steps
  pub within : steps ≤ row.depth
  pub jump : above parents steps kind ≡ row.jump

abbrev pub IsDone : List Ancestry → ℕ → Type 0
IsDone rows kind = (kind ≡ 0) ⊎ (0 < depth_of rows kind)

-- each row that is made is right, and so are those above it
pub record AreRight (parents : List ℕ) (rows : List Ancestry) : Type 0 where
  pub len : length rows ≡ length parents
  pub row : (kind : ℕ) → kind < length parents → IsDone rows kind → IsRow parents kind (row_at rows kind)
  pub upwards : (kind : ℕ) → kind < length parents → IsDone rows kind → IsDone rows (parent_of parents kind)

-- the types above a type, itself first, up to one that has its row
pub record IsPath (parents : List ℕ) (start : ℕ) (rows : List Ancestry) (path : List ℕ) : Type 0 where
  pub steps : (n : ℕ) → n < length path → slice_index path n ≡ above parents n start
  pub children : (n : ℕ) → n < length path → above parents n start ≢ 0
  pub ended : IsDone rows (above parents (length path) start)
