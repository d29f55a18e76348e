-- What a network stands for, and what always holds of it.
use Rattle.std.specs.Prelude.{◌≡◌, ℕ, ◌-◌, ◌≤◌, List, length, map, max}
use Rattle.stp_network.specs.declared.edge.Edge.{Edge}
use Rattle.stp_network.specs.declared.rows.Rows.{Rows}
use Rattle.stp_network.specs.declared.limits.TheConstants.{LATEST_KEPT}
use Rattle.stp_network.specs.Edges.{constraint_of}
use Rattle.stp_network.specs.Network.{PlainNetwork}
use Rattle.stp_network.specs.Rows.{AreEven, AreKept, HasRoom}

-- a network has its origin before it has memory for it
abbrev pub points_of : Rows → ℕ
points_of rows = max 1 (length rows.times.items)

abbrev pub plain_network : Rows → List Edge → ℕ → ℕ → PlainNetwork
plain_network rows edges most_points most_edges = record {
  points = points_of rows;
  constraints = map constraint_of edges;
  spare_points = most_points - points_of rows;
  spare_edges = most_edges - length edges;
}

pub record IsHeld (rows : Rows) (edges : List Edge) (most_points most_edges capacity : ℕ) : Type 0 where
  pub even : AreEven rows
  pub kept : AreKept LATEST_KEPT rows edges
  pub room : HasRoom most_points rows
  pub edges_room : most_edges ≤ capacity
  pub points_fit : length rows.times.items ≤ most_points
  pub edges_fit : length edges ≤ most_edges
  -- where there is no point yet, nothing is spare
  pub points_rooted : length rows.times.items ≡ 0 → most_points ≡ 0
  pub edges_rooted : length rows.times.items ≡ 0 → most_edges ≡ 0
