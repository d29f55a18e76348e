-- The entries so far are appended, and those that are left will be.
use Rattle.std.proofs.Common.{◌≡◌, ◌++◌, drop}
use Rattle.stp_report.specs.Texts.{entry_lines}
use Rattle.stp_report.proofs.replay.push_entries.Given as goal

abbrev pub invariant-loop-entry : goal.invariant-loop-entry
invariant-loop-entry l = l.out ++ entry_lines l.grid l.spans (drop l.entry-index l.entries) ≡ l.fn.out ++ entry_lines l.grid l.spans l.entries
