-- The locks so far, and those among the ends that are left, are all.
use Rattle.std.proofs.Common.{◌≡◌, ◌+◌, ◌≤◌, length, filter, drop}
use Rattle.stp_cond.specs.Events.{event_of}
use Rattle.stp_rewrite.specs.Ends.{end_views, is_lock}
use Rattle.stp_rewrite.proofs.locking.count_among.Given as goal

abbrev pub invariant-loop-end : goal.invariant-loop-end
invariant-loop-end l = record {
  few : l.count ≤ l.end-index;
  so_far : l.count + length (filter (is_lock l.action.0 (event_of l.event)) (end_views (drop l.end-index l.ends))) ≡ length (filter (is_lock l.action.0 (event_of l.event)) (end_views l.ends));
}
