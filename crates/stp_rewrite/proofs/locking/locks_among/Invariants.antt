-- The locks so far, and those among the ends that are left, are all.
use Rattle.std.proofs.Common.{◌≡◌, ◌++◌, map, filter, drop}
use Rattle.stp_cond.specs.Events.{event_of}
use Rattle.stp_cond.specs.Views.{atoms_of}
use Rattle.stp_rewrite.specs.Ends.{end_views, is_lock}
use Rattle.stp_rewrite.proofs.locking.locks_among.Given as goal

abbrev pub invariant-loop-end : goal.invariant-loop-end
invariant-loop-end l = atoms_of l.locks.items ++ map (λ o. o.opened) (filter (is_lock l.action.0 (event_of l.event)) (end_views (drop l.end-index l.ends))) ≡ map (λ o. o.opened) (filter (is_lock l.action.0 (event_of l.event)) (end_views l.ends))
