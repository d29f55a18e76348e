-- The formulas so far, and those of the numbers that are left, are all.
use Rattle.std.proofs.Common.{◌≡◌, ◌-◌, ◌^◌, ◌∷◌, ◌++◌, map, length}
use Rattle.stp_cond.specs.Formulas.{view}
use Rattle.stp_expand.specs.Views.{footprints_of, shadow_in}
use Rattle.stp_expand.proofs.Numbered.{made_from}
use Rattle.stp_expand.proofs.expanding.with_sets.Given as goal

abbrev pub invariant-loop-number : goal.invariant-loop-number
invariant-loop-number l = map view l.parts.items ++ made_from (shadow_in l.shadow_of) (view l.cond) (footprints_of l.footprints) l.number (2 ^ length l.footprints - l.number) ≡ view l.cond ∷ made_from (shadow_in l.shadow_of) (view l.cond) (footprints_of l.footprints) 1 (2 ^ length l.footprints - 1)
