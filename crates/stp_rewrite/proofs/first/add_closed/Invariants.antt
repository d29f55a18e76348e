-- There is a value for each end so far.
use Rattle.std.proofs.Common.{◌≡◌, ◌++◌, false, map, take}
use Rattle.stp_rewrite.specs.Ends.{end_views}
use Rattle.stp_rewrite.proofs.first.add_closed.Given as goal

abbrev pub invariant-loop-end : goal.invariant-loop-end
invariant-loop-end l = l.values.items ≡ l.fn.values.items ++ map (λ e. false) (end_views (take l.end-index l.ends))
