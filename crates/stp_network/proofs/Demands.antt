-- A constraint over integers and the same in natural numbers.
use Rattle.std.proofs.Common.{ℕ, ◌+◌, ◌*◌, ◌≤◌, ℤ, pos, negsuc, ◌-ℤ◌, ◌*ℤ◌, ◌≤ℤ◌, ◌<ℤ◌, Bool, true, false, MatchBool, List, All, arith}
use Rattle.std.proofs.lemmas.Int.{ints}
use Rattle.std.proofs.lemmas.List.Elements.{All-weaker}
use Rattle.stp_network.specs.Network.{Constraint, Meets}
use Rattle.stp_network.specs.Demands.{positive_part, negative_part, strict_part, IsMet}

-- over the parts of a constraint
abbrev MeetsParts : ℕ → ℕ → ℕ → ℤ → Bool → Type 0
MeetsParts grid from to bound strict = MatchBool strict ((pos to -ℤ pos from) <ℤ (pos grid *ℤ bound)) ((pos to -ℤ pos from) ≤ℤ (pos grid *ℤ bound))

abbrev IsMetParts : ℕ → ℕ → ℕ → ℤ → Bool → Type 0
IsMetParts grid from to bound strict = to + (grid * negative_part bound + strict_part strict) ≤ from + grid * positive_part bound

met_parts : (grid from to : ℕ) (bound : ℤ) (strict : Bool) → MeetsParts grid from to bound strict → IsMetParts grid from to bound strict
met_parts grid from to (pos n) true h = omega (arith, ints)
met_parts grid from to (pos n) false h = omega (arith, ints)
met_parts grid from to (negsuc n) true h = omega (arith, ints)
met_parts grid from to (negsuc n) false h = omega (arith, ints)

meets_parts : (grid from to : ℕ) (bound : ℤ) (strict : Bool) → IsMetParts grid from to bound strict → MeetsParts grid from to bound strict
meets_parts grid from to (pos n) true h = omega (arith, ints)
meets_parts grid from to (pos n) false h = omega (arith, ints)
meets_parts grid from to (negsuc n) true h = omega (arith, ints)
meets_parts grid from to (negsuc n) false h = omega (arith, ints)

pub met_of : (grid : ℕ) (time : ℕ → ℕ) (c : Constraint) → Meets grid time c → IsMet grid time c
met_of grid time c h = met_parts grid (time c.from) (time c.to) c.bound c.strict h

pub meets_of : (grid : ℕ) (time : ℕ → ℕ) (c : Constraint) → IsMet grid time c → Meets grid time c
meets_of grid time c h = meets_parts grid (time c.from) (time c.to) c.bound c.strict h

pub all_met : (grid : ℕ) (time : ℕ → ℕ) (cs : List Constraint) → All (Meets grid time) cs → All (IsMet grid time) cs
all_met grid time cs h = All-weaker (Meets grid time) (IsMet grid time) (met_of grid time) cs h

pub all_meet : (grid : ℕ) (time : ℕ → ℕ) (cs : List Constraint) → All (IsMet grid time) cs → All (Meets grid time) cs
all_meet grid time cs h = All-weaker (IsMet grid time) (Meets grid time) (meets_of grid time) cs h
