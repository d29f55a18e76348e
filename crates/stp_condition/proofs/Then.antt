-- What is read with the help of what was read before.
use Rattle.std.proofs.Common.{◌≡◌, ℕ, Bool, List, Option, ◌++◌, ap, ◌∙◌}
use Rattle.stp_refusal.specs.declared.offence.Offence.{Offence}
use Rattle.stp_refusal.specs.First.{first_from}
use Rattle.stp_refusal.specs.Read.{Read, IsRead, map_read}
use Rattle.stp_refusal.proofs.Reading.{finds_after}
use Rattle.stp_schema.specs.Formula.{Formula}
use Rattle.stp_condition.specs.Scope.{Var, kinds_of}
use Rattle.stp_condition.specs.Variables.{then_read}
use Rattle.stp_condition.specs.Conditions.{Part, quantifier, body_read}

pub then_mapped : {A B C : Type 0} (f : A → Read B) (g : B → C) (old middle new : Option Offence) (a : A) (c : C) (r : Read A) → IsRead old middle a r → IsRead middle new c (map_read g (f a)) → IsRead old new c (map_read g (then_read r f))
then_mapped f g old middle new a c r h k = record {
  first = finds_after old middle new r.offences (f r.value).offences h.first (k.first ∙ ap (λ x. first_from middle (f x).offences) h.same);
  same = k.same ∙ ap (λ x. g (f x).value) h.same;
}

-- a body in the scope of variables that were read
pub quantified_is : (every : Bool) (old middle new : Option Offence) (kinds : List ℕ) (body result : Formula) (vs : Read (List Var)) (says : Part) (scope inner : List Var) → result ≡ quantifier every kinds body → IsRead old middle kinds (map_read kinds_of vs) → inner ≡ scope ++ vs.value → IsRead middle new body (says inner) → IsRead old new result (then_read vs (body_read every says scope))
quantified_is every old middle new kinds body result vs says scope inner e h in_scope k =
    let b = rw in_scope at k in
    record {
      first = finds_after old middle new vs.offences (says (scope ++ vs.value)).offences h.first b.first;
      same = e ∙ ap (λ ks. quantifier every ks body) h.same ∙ ap (quantifier every (kinds_of vs.value)) b.same;
    }
