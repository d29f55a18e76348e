-- What is in front of this place is of a run.
use Rattle.std.proofs.Common.{◌≡◌, ◌+◌, drop}
use Rattle.std.specs.List.{prefix_len}
use Rattle.stp_plan.specs.Parts.{is_run_byte}
use Rattle.stp_plan.proofs.parts.run_length.Given as goal

abbrev pub invariant-loop-place : goal.invariant-loop-place
invariant-loop-place l = l.place + prefix_len is_run_byte (drop l.place l.text) ≡ prefix_len is_run_byte l.text
