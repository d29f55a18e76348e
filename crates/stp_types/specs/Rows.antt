-- Rows of ancestry.
use Rattle.std.specs.Prelude.{◌≡◌, ◌≢◌, ℕ, ◌+◌, ◌-◌, ◌<◌, List, length, map, slice_index_or}
use Rattle.stp_types.specs.declared.row.Ancestry.{Ancestry}
use Rattle.stp_types.specs.Forest.{above}

abbrev pub row_at : List Ancestry → ℕ → Ancestry
row_at rows kind = slice_index_or rows kind (record { parent = 0; depth = 0; jump = 0 })

abbrev pub parents_of : List Ancestry → List ℕ
parents_of rows = map (λ r. r.parent) rows

abbrev pub depth_of : List Ancestry → ℕ → ℕ
depth_of rows kind = (row_at rows kind).depth

-- A row for each type. Its depth is the number of steps to the root, and its jump an ancestor of smaller depth.
pub record AreAncestries (rows : List Ancestry) : Type 0 where
  pub some : 0 < length rows
  pub root : (row_at rows 0).parent ≡ 0
  pub top : depth_of rows 0 ≡ 0
  pub parent_within : (kind : ℕ) → kind < length rows → (row_at rows kind).parent < length rows
  pub jump_within : (kind : ℕ) → kind < length rows → (row_at rows kind).jump < length rows
  pub depth_within : (kind : ℕ) → kind < length rows → depth_of rows kind < length rows
  pub depth : (kind : ℕ) → kind < length rows → kind ≢ 0 → depth_of rows kind ≡ depth_of rows (row_at rows kind).parent + 1
  pub jump_above : (kind : ℕ) → kind < length rows → kind ≢ 0 → depth_of rows (row_at rows kind).jump < depth_of rows kind
  pub jump : (kind : ℕ) → kind < length rows → above (parents_of rows) (depth_of rows kind - depth_of rows (row_at rows kind).jump) kind ≡ (row_at rows kind).jump
