-- All entries so far are of the moment.
use Rattle.std.proofs.Common.{◌≡◌, ℕ, ◌<◌, ◌≤◌, ◌-◌, length, get_or}
use Rattle.stp_happen.specs.declared.run.Entry.{Entry}
use Rattle.stp_happen.proofs.moments.moment_end.Given as goal

abbrev pub invariant-loop-end : goal.invariant-loop-end
invariant-loop-end l = record {
  after : l.start < l.end;
  within : l.end ≤ length l.entries;
  same : (k : ℕ) (d : Entry) → l.start ≤ k → k < l.end → (get_or l.entries k d).time ≡ l.time;
}

abbrev pub decreases-loop-end : goal.decreases-loop-end
decreases-loop-end l = length l.entries - l.end
