use Rattle.std.proofs.Common.{◌≡◌, ℕ, List, ◌++◌, drop}
use Rattle.stp_happen.specs.Owners.{timed_owners}
use Rattle.stp_happen.specs.StepViews.{timed_of}
use Rattle.stp_window.specs.Windows.{Point}
use Rattle.stp_window.specs.OwnerWindows.{points_of_owners}
use Rattle.stp_window.specs.LastWrites.{IsLastWrite}
use Rattle.stp_window.proofs.certain.with_timed.Given as goal

-- whatever was seen before, and whichever number the first event has
abbrev pub invariant-loop-event : goal.invariant-loop-event
invariant-loop-event l =
    (seen : List Point) (number : ℕ) → IsLastWrite seen l.atom.0 l.time l.fn.first →
    (more : List Point) × (next : ℕ)
    × (more ++ points_of_owners (timed_owners next (timed_of (drop l.event-index l.timed))) ≡ seen ++ points_of_owners (timed_owners number (timed_of l.timed)))
    × IsLastWrite more l.atom.0 l.time l.last
