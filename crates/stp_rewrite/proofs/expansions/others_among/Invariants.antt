-- The footprints so far, and those of the ends that are left, are all.
use Rattle.std.proofs.Common.{◌≡◌, ◌++◌, map, filter, drop}
use Rattle.stp_expand.specs.Views.{footprints_of}
use Rattle.stp_rewrite.specs.Ends.{end_views, is_other}
use Rattle.stp_rewrite.proofs.expansions.others_among.Given as goal

abbrev pub invariant-loop-end : goal.invariant-loop-end
invariant-loop-end l = footprints_of l.others.items ++ map (λ o. o.footprint) (filter (is_other l.action.0) (end_views (drop l.end-index l.ends))) ≡ map (λ o. o.footprint) (filter (is_other l.action.0) (end_views l.ends))
