-- Constraints as a network keeps them, on the grid of its kept times.
use Rattle.std.specs.Prelude.{ℕ, ◌+◌, ◌≤◌}
use Rattle.stp_network.specs.declared.edge.Edge.{Edge}
use Rattle.stp_base.specs.declared.limits.TheConstants.{MAX_BOUND}
use Rattle.stp_network.specs.declared.limits.TheConstants.{KEPT_GRID}
use Rattle.stp_network.specs.Network.{Constraint}
use Rattle.stp_network.specs.Demands.{positive_part, negative_part, lag, lead}

abbrev pub constraint_of : Edge → Constraint
constraint_of e = record { from = e.from; to = e.to; bound = e.bound; strict = e.strict }

abbrev pub lag_of : Edge → ℕ
lag_of e = lag KEPT_GRID (constraint_of e)

abbrev pub lead_of : Edge → ℕ
lead_of e = lead KEPT_GRID (constraint_of e)

-- its bound is within the limits
abbrev pub IsSmall : Edge → Type 0
IsSmall e = (positive_part e.bound ≤ positive_part MAX_BOUND) × (negative_part e.bound ≤ positive_part MAX_BOUND)

-- whether times meet it on the grid of the kept times
abbrev pub IsMetBy : (ℕ → ℕ) → Edge → Type 0
IsMetBy time e = time e.to + lag_of e ≤ time e.from + lead_of e
