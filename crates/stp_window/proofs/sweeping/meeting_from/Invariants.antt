-- The windows of the mentions so far do not clash with that of the first.
use Rattle.stp_window.proofs.Swept.{HasPassed}
use Rattle.stp_window.proofs.sweeping.meeting_from.Given as goal

abbrev pub invariant-loop-place : goal.invariant-loop-place
invariant-loop-place l = HasPassed l.ordered l.mentions l.start l.one l.place
