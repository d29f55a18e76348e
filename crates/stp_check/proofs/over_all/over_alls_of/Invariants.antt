-- The steps so far.
use Rattle.std.proofs.Common.{◌≡◌, map, take}
use Rattle.stp_check.proofs.over_all.over_alls_of.Given as goal

abbrev pub invariant-loop-span : goal.invariant-loop-span
invariant-loop-span l = map (λ o. o.lasting) l.found.items ≡ take l.span-index l.spans
