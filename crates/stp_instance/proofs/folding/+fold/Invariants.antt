-- The folded conditions so far, and those of the conditions that are left, are all.
use Rattle.std.proofs.Common.{◌≡◌, ◌++◌, map, drop}
use Rattle.stp_cond.specs.Formulas.{view}
use Rattle.stp_instance.specs.Numbered.{folded_ground, is_fluent, is_in}
use Rattle.stp_instance.specs.Views.{claim}
use Rattle.stp_instance.proofs.folding.+fold.Given as goal

abbrev pub invariant-fold_all-loop-ground : goal.invariant-fold_all-loop-ground
invariant-fold_all-loop-ground l = map view l.out.items ++ map (λ g. folded_ground (is_fluent l.fluent) (is_in l.facts) l.table (claim g)) (drop l.ground-index l.grounds) ≡ map (λ g. folded_ground (is_fluent l.fluent) (is_in l.facts) l.table (claim g)) l.grounds
