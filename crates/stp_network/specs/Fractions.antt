-- One grid decides whether constraints can be met in fractions.
use Rattle.std.specs.Prelude.{ℕ, ◌<◌, ◌≤◌, ◌↔◌, List, All}
use Rattle.stp_network.specs.Network.{Constraint, IsSatisfiable, IsOverPoints, Solves}

abbrev pub OneGridDecides : Type 0
OneGridDecides = (points grid : ℕ) (constraints : List Constraint) →
    0 < points → points ≤ grid → All (IsOverPoints points) constraints →
    IsSatisfiable constraints ↔ ((time : ℕ → ℕ) × Solves grid constraints time)
