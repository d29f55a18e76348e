-- The rows of a network, with an entry for each point, and its edges.
use Rattle.std.specs.Prelude.{◌≡◌, ℕ, ◌≤◌, List, [], ◌∷◌, length, slice_index, vec_capacity}
use Rattle.stp_network.specs.declared.edge.Edge.{Edge}
use Rattle.stp_network.specs.declared.rows.Rows.{Rows}
use Rattle.stp_base.specs.declared.limits.TheConstants.{MAX_CONSTRAINTS, MAX_POINTS}
use Rattle.stp_network.specs.Raising.{AreLinked, IsPotential}

-- all rows are as long as that of the times
pub record AreEven (rows : Rows) : Type 0 where
  pub heads : length rows.heads.items ≡ length rows.times.items
  pub work : length rows.work.items ≡ length rows.times.items
  pub marks : length rows.marks.items ≡ length rows.times.items

-- all rows can grow to so many points without further memory
pub record HasRoom (points : ℕ) (rows : Rows) : Type 0 where
  pub times : points ≤ vec_capacity rows.times
  pub heads : points ≤ vec_capacity rows.heads
  pub work : points ≤ vec_capacity rows.work
  pub marks : points ≤ vec_capacity rows.marks

-- times that meet all edges, none above a limit, and the edges' links
pub record IsKept (limit : ℕ) (times heads : List ℕ) (edges : List Edge) : Type 0 where
  pub linked : AreLinked (length times) edges heads
  pub potential : IsPotential (length times) edges (slice_index times)
  pub low : (p : ℕ) → slice_index times p ≤ limit
  pub few : length times ≤ MAX_POINTS
  pub count : length edges ≤ MAX_CONSTRAINTS

abbrev pub AreKept : ℕ → Rows → List Edge → Type 0
AreKept limit rows edges = IsKept limit rows.times.items rows.heads.items edges

-- a row that has at least the origin
abbrev pub rooted : List ℕ → List ℕ
rooted [] = 0 ∷ []
rooted (x ∷ xs) = x ∷ xs
