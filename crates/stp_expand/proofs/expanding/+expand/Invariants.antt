-- The members so far, and those of the parts that are left, are all; too many footprints are at a part that is left.
use Rattle.std.proofs.Common.{◌≡◌, ◌++◌, map, drop}
use Rattle.std.specs.List.{list_any}
use Rattle.stp_cond.specs.Formulas.{view}
use Rattle.stp_expand.specs.Expanded.{expanded}
use Rattle.stp_expand.specs.Footprints.{has_too_many}
use Rattle.stp_expand.specs.Views.{footprints_of, shadow_in}
use Rattle.stp_expand.proofs.expanding.+expand.Given as goal

abbrev pub invariant-expand_all-loop-part : goal.invariant-expand_all-loop-part
invariant-expand_all-loop-part l = record {
  same : map view l.members.items ++ map (λ c. expanded (shadow_in l.shadow_of) (footprints_of l.ends) (view c)) (drop l.part-index l.parts) ≡ map (λ c. expanded (shadow_in l.shadow_of) (footprints_of l.ends) (view c)) l.parts;
  few : list_any (λ c. has_too_many (footprints_of l.ends) (view c)) (drop l.part-index l.parts) ≡ list_any (λ c. has_too_many (footprints_of l.ends) (view c)) l.parts;
}
