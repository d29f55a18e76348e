-- What is behind this place is white.
use Rattle.std.proofs.Common.{◌≡◌, ◌≤◌, ◌-◌, length, take}
use Rattle.std.specs.List.{suffix_len}
use Rattle.stp_text.specs.Bytes.{is_white}
use Rattle.stp_plan.proofs.line.black_length.Given as goal

abbrev pub invariant-loop-end : goal.invariant-loop-end
invariant-loop-end l = record {
  within : l.end ≤ length l.text;
  same : l.end - suffix_len is_white (take l.end l.text) ≡ length l.text - suffix_len is_white l.text;
}

abbrev pub decreases-loop-end : goal.decreases-loop-end
decreases-loop-end l = l.end
