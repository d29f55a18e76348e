-- The durations so far are appended, and those that are left will be.
use Rattle.std.proofs.Common.{◌≡◌, ◌++◌, drop}
use Rattle.stp_report.specs.Texts.{further_text}
use Rattle.stp_report.proofs.print.push_further.Given as goal

abbrev pub invariant-loop-duration : goal.invariant-loop-duration
invariant-loop-duration l = l.out ++ further_text l.grid (drop l.duration-index l.durations) ≡ l.fn.out ++ further_text l.grid l.durations
