-- What is left of the parts answers as all do.
use Rattle.std.proofs.Common.{◌≡◌, drop, map}
use Rattle.stp_cond.specs.Formulas.{formulas_of, view}
use Rattle.stp_relax.specs.Literals.{members_may_be, pair_by}
use Rattle.stp_relax.proofs.literals.+may_be.Given as goal

abbrev pub invariant-members_may_be-loop-part : goal.invariant-members_may_be-loop-part
invariant-members_may_be-loop-part l = members_may_be (pair_by l.literals) l.value l.all (formulas_of (map view (drop l.part-index l.parts))) ≡ members_may_be (pair_by l.literals) l.value l.all (formulas_of (map view l.parts))
