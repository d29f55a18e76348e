-- What is in front of this place is white.
use Rattle.std.proofs.Common.{◌≡◌, ◌+◌, drop}
use Rattle.std.specs.List.{prefix_len}
use Rattle.stp_text.specs.Bytes.{is_white}
use Rattle.stp_plan.proofs.line.white_length.Given as goal

abbrev pub invariant-loop-place : goal.invariant-loop-place
invariant-loop-place l = l.place + prefix_len is_white (drop l.place l.text) ≡ prefix_len is_white l.text
