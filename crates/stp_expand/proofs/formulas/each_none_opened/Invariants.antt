-- The new formulas so far, and those of the footprints that are left, are all.
use Rattle.std.proofs.Common.{◌≡◌, ◌++◌, map, drop}
use Rattle.stp_cond.specs.Formulas.{view}
use Rattle.stp_expand.specs.Expanded.{none_opened}
use Rattle.stp_expand.specs.Views.{footprints_of}
use Rattle.stp_expand.proofs.formulas.each_none_opened.Given as goal

abbrev pub invariant-loop-footprint : goal.invariant-loop-footprint
invariant-loop-footprint l = map view l.parts.items ++ map (λ p. none_opened p.opened) (footprints_of (drop l.footprint-index l.set)) ≡ map (λ p. none_opened p.opened) (footprints_of l.set)
