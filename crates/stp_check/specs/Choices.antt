-- When the uncertain owners of a box end.
use Rattle.std.specs.Prelude.{ℕ, ◌+◌, ◌≤◌, if◌then◌else◌, List}
use Rattle.stp_happen.specs.declared.owners.Owner.{Owner}
use Rattle.stp_window.specs.Windows.{Point}
use Rattle.stp_strength.specs.Choices.{nearest}
use Rattle.stp_strength.specs.Failures.{of_steps}
use Rattle.stp_check.specs.Late.{numbers_of}
use Rattle.stp_check.specs.declared.choices.Choice.{Choice}
use Rattle.stp_check.specs.declared.choices.Choice.TheVariants.{After, Near}

-- the points of these steps as near to a moment as they can come, the others as soon
abbrev pub near_to : List ℕ → ℕ → Point → ℕ
near_to steps t p = if of_steps steps p then nearest t p else p.low

-- the moment that is chosen for a point
abbrev pub moment_of : Choice → Point → ℕ
moment_of (After steps t) = near_to (numbers_of steps.now) (t + 1)
moment_of (Near steps t) = near_to (numbers_of steps.now) t

-- an owner has its start and its bounds in order
abbrev pub GoesUp : Owner → Type 0
GoesUp o = (o.start ≤ o.low) × (o.low ≤ o.high)
