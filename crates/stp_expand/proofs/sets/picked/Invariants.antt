-- What is picked so far, and of the items that are left by the bits that are left, is all.
use Rattle.std.proofs.Common.{◌≡◌, ◌++◌, drop}
use Rattle.stp_expand.specs.Expanded.{picked}
use Rattle.stp_expand.proofs.sets.picked.Given as goal

abbrev pub invariant-loop-footprint : goal.invariant-loop-footprint
invariant-loop-footprint l = l.set.items ++ picked (drop l.footprint-index l.footprints) l.bits ≡ picked l.footprints l.number
