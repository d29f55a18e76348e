-- The lines so far, and those from this place on, are all lines.
use Rattle.std.proofs.Common.{◌≡◌, ◌≤◌, ◌-◌, ◌++◌, length, map, drop, All}
use Rattle.stp_plan.specs.Lines.{lines_of, texts_of, places_of, text_at}
use Rattle.stp_plan.proofs.line.lines.Given as goal

abbrev pub invariant-loop-at : goal.invariant-loop-at
invariant-loop-at l = record {
  value : l.found ++ places_of l.at (lines_of (drop l.at l.bytes)) ≡ places_of 0 (lines_of l.bytes);
  texts : map (text_at l.bytes) l.found ++ texts_of (drop l.at l.bytes) ≡ texts_of l.bytes;
  within : All (λ line. (line.from ≤ line.to) × (line.to ≤ length l.bytes)) l.found;
  few : length l.found ≤ length l.bytes;
  reached : length l.found ≤ l.at;
}

abbrev pub decreases-loop-at : goal.decreases-loop-at
decreases-loop-at l = length l.bytes - l.at
