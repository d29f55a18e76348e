-- The same of a propagation, and of its steps.
use Rattle.std.specs.Prelude.{ℕ, List, length, Bool}
use Rattle.stp_network.specs.declared.propagation.Propagation.{Propagation}
use Rattle.stp_network.specs.declared.propagation.Step.{Step}
use Rattle.stp_network.specs.declared.propagation.Step.TheVariants.{Cycle, Met, Raised}
use Rattle.stp_network.specs.Raising.{HasNoPotential, IsRaised, IsSetting}

abbrev pub IsSet : Propagation → Type 0
IsSet p = IsSetting p.edges.now p.heads.now p.times.now p.fresh.now

abbrev pub IsUnderway : Propagation → List ℕ → List Bool → Type 0
IsUnderway p work marks = IsRaised p.edges.now p.times.now p.fresh.now work marks

abbrev pub IsHopeless : Propagation → Type 0
IsHopeless p = HasNoPotential (length p.times.now) p.edges.now p.fresh.now

-- by how much the sum of the times grows at least
abbrev pub rise_of : Step → ℕ
rise_of Cycle = 0
rise_of Met = 0
rise_of Raised = 1
