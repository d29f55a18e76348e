-- Whether one of the parts that are left has too many is whether one of all has.
use Rattle.std.proofs.Common.{◌≡◌, drop}
use Rattle.std.specs.List.{list_any}
use Rattle.stp_cond.specs.Formulas.{view}
use Rattle.stp_expand.specs.Footprints.{has_too_many}
use Rattle.stp_expand.specs.Views.{footprints_of}
use Rattle.stp_rewrite.proofs.counting.+has_too_many.Given as goal

abbrev pub invariant-loop-part : goal.invariant-loop-part
invariant-loop-part l = list_any (λ c. has_too_many (footprints_of l.ends) (view c)) (drop l.part-index l.part-items) ≡ has_too_many (footprints_of l.ends) (view l.cond)
