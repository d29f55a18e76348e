-- The least times on a grid that meet all edges.
use Rattle.std.specs.Prelude.{◌≡◌, ℕ, ◌≤◌, Bool, true, false, List, slice_index, All}
use Rattle.stp_network.specs.declared.edge.Edge.{Edge}
use Rattle.stp_network.specs.Demands.{IsMet}
use Rattle.stp_network.specs.Edges.{constraint_of}

-- whether times meet an edge on a grid
abbrev pub IsMetOn : ℕ → (ℕ → ℕ) → Edge → Type 0
IsMetOn grid time e = IsMet grid time (constraint_of e)

-- times that begin at the origin and meet all edges
pub record SolvesEdges (grid : ℕ) (edges : List Edge) (time : ℕ → ℕ) : Type 0 where
  pub origin : time 0 ≡ 0
  pub met : All (IsMetOn grid time) edges

-- no times that do are earlier at any point
pub record IsBelowAll (grid : ℕ) (edges : List Edge) (row : List ℕ) : Type 0 where
  pub least : (time : ℕ → ℕ) → SolvesEdges grid edges time → (p : ℕ) → slice_index row p ≤ time p

-- there are such times, none of them above a limit
abbrev pub HasTimes : ℕ → List Edge → ℕ → Type 0
HasTimes grid edges limit = (time : ℕ → ℕ) × SolvesEdges grid edges time × ((p : ℕ) → time p ≤ limit)

-- by how much the sum of the times grows at least
abbrev pub growth_of : Bool → ℕ
growth_of true = 1
growth_of false = 0
