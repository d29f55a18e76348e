-- Constraints on points in time, and the times that meet them. A point is a number, and point 0 is the origin.
use Rattle.std.specs.Prelude.{◌≡◌, ℕ, ◌<◌, ◌≤◌, ℤ, pos, ◌-ℤ◌, ◌*ℤ◌, ◌≤ℤ◌, ◌<ℤ◌, Bool, MatchBool, List, length, slice_index, All}

-- that the second point is at most the bound after the first, or less than that where strict
pub record Constraint : Type 0 where
  pub from : ℕ
  pub to : ℕ
  pub bound : ℤ
  pub strict : Bool

-- how far the second point of a constraint is after the first
abbrev pub distance : (ℕ → ℕ) → Constraint → ℤ
distance time c = pos (time c.to) -ℤ pos (time c.from)

-- whether times meet a constraint, on the grid that has so many moments in a unit
abbrev pub Meets : ℕ → (ℕ → ℕ) → Constraint → Type 0
Meets grid time c = MatchBool c.strict
    (distance time c <ℤ (pos grid *ℤ c.bound))
    (distance time c ≤ℤ (pos grid *ℤ c.bound))

-- times that begin at the origin and meet all constraints
pub record Solves (grid : ℕ) (constraints : List Constraint) (time : ℕ → ℕ) : Type 0 where
  pub origin : time 0 ≡ 0
  pub meets : All (Meets grid time) constraints

-- some times on some grid meet all constraints, so some fractions do
abbrev pub IsSatisfiable : List Constraint → Type 0
IsSatisfiable constraints = (grid : ℕ) × (time : ℕ → ℕ) × (0 < grid) × Solves grid constraints time

-- a constraint is between two of the first so many points
abbrev pub IsOverPoints : ℕ → Constraint → Type 0
IsOverPoints points c = (c.from < points) × (c.to < points)

-- a time for each point: they meet all constraints, and no times that do are earlier anywhere
pub record IsEarliest (grid points : ℕ) (constraints : List Constraint) (times : List ℕ) : Type 0 where
  pub count : length times ≡ points
  pub solves : Solves grid constraints (slice_index times)
  pub least : (time : ℕ → ℕ) → Solves grid constraints time → (p : ℕ) → slice_index times p ≤ time p

-- what a network is: its points, its constraints in the order in which they came, and for how many more it has memory
pub record PlainNetwork : Type 0 where
  pub points : ℕ
  pub constraints : List Constraint
  pub spare_points : ℕ
  pub spare_edges : ℕ
