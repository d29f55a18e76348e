-- How far an edge can ask a point to move.
use Rattle.std.proofs.Common.{ℕ, ◌*◌, ◌^◌, ◌≤◌, Bool, true, false, arith}
use Rattle.std.proofs.Math.Nat.{mul-le-mul_left}
use Rattle.stp_network.specs.declared.edge.Edge.{Edge}
use Rattle.stp_network.specs.declared.limits.TheConstants.{KEPT_GRID}
use Rattle.stp_network.specs.Demands.{lag, lead, negative_part, positive_part, strict_part}
use Rattle.stp_network.specs.Edges.{IsSmall, constraint_of}

strict_part_small : (strict : Bool) → strict_part strict ≤ 1
strict_part_small true = omega arith
strict_part_small false = omega arith

pub lag_bounded : (grid : ℕ) (e : Edge) → grid ≤ KEPT_GRID → IsSmall e → lag grid (constraint_of e) ≤ 2 ^ 72
lag_bounded grid e few small =
    let a : grid * negative_part e.bound ≤ grid * 1000000000000000000 = mul-le-mul_left grid small.1 in
    omega (arith, strict_part_small e.strict)

pub lead_bounded : (grid : ℕ) (e : Edge) → grid ≤ KEPT_GRID → IsSmall e → lead grid (constraint_of e) ≤ 2 ^ 72
lead_bounded grid e few small =
    let a : grid * positive_part e.bound ≤ grid * 1000000000000000000 = mul-le-mul_left grid small.0 in
    omega arith
