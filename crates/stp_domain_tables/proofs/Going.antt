-- Loops that read into what they have.
use Rattle.std.proofs.Common.{Option, ap, sym, ◌∙◌, subst, refl}
use Rattle.stp_refusal.specs.declared.offence.Offence.{Offence}
use Rattle.stp_refusal.specs.First.{first_from}
use Rattle.stp_refusal.specs.Read.{Read, IsRead, fine}
use Rattle.stp_refusal.proofs.Reading.{first_from-append, finds_after}
use Rattle.stp_domain_parts.specs.Then.{then_read, Goes}

pub goes_next : {A : Type 0} {old found new : Option Offence} {value : A} (one : Read A) (rest : A → Read A) (whole : Read A) → Goes old found (then_read one rest) whole → IsRead found new value one → Goes old new (rest value) whole
goes_next {old = old} {found = found} {new = new} one rest whole so_far step = record {
  first = ap (λ v. first_from new (rest v).offences) step.same ∙ ap (λ f. first_from f (rest one.value).offences) step.first ∙ sym (first_from-append found one.offences (rest one.value).offences) ∙ so_far.first;
  same = ap (λ v. (rest v).value) step.same ∙ so_far.same;
}

-- what is read once the value before it is there
pub then_is : {A B : Type 0} {old middle new : Option Offence} {a : A} {b : B} (one : Read A) (rest : A → Read B) → IsRead old middle a one → IsRead middle new b (rest a) → IsRead old new b (then_read one rest)
then_is {A = A} {old = old} {middle = middle} {new = new} {a = a} {b = b} one rest h k =
    let r = subst (λ (x : A). IsRead middle new b (rest x)) h.same k in
    record { first = finds_after old middle new one.offences (rest one.value).offences h.first r.first; same = r.same }

-- five readers, one after the other, and what is made of what they give
module _ {A B C D E F : Type 0} (make : A → B → C → D → E → F) (ra : Read A) (rb : Read B) (rc : Read C) (rd : Read D) (re : Read E) where
  abbrev last : A → B → C → D → Read F
  last x y z u = then_read re (λ v. fine (make x y z u v))

  abbrev last_two : A → B → C → Read F
  last_two x y z = then_read rd (last x y z)

  abbrev last_three : A → B → Read F
  last_three x y = then_read rc (last_two x y)

  abbrev last_four : A → Read F
  last_four x = then_read rb (last_three x)

  pub five_are : (old o p q r new : Option Offence) (a : A) (b : B) (c : C) (d : D) (e : E) → IsRead old o a ra → IsRead o p b rb → IsRead p q c rc → IsRead q r d rd → IsRead r new e re → IsRead old new (make a b c d e) (then_read ra last_four)
  five_are old o p q r new a b c d e ha hb hc hd he =
      then_is ra last_four ha
      (then_is rb (last_three a) hb
      (then_is rc (last_two a b) hc
      (then_is rd (last a b c) hd
      (then_is re (λ v. fine (make a b c d v)) he (record { first = refl; same = refl })))))
