-- The mentions so far, and those of the windows that are left.
use Rattle.std.proofs.Common.{◌≡◌, ◌++◌, drop}
use Rattle.stp_window.specs.Sweep.{mentions_from}
use Rattle.stp_window.proofs.sweeping.mentions_of.Given as goal

abbrev pub invariant-loop-place : goal.invariant-loop-place
invariant-loop-place l = l.mentions.items ++ mentions_from l.place (drop l.place l.windows) ≡ mentions_from 0 l.windows
