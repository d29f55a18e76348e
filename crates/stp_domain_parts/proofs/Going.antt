-- Loops that read into what they have.
use Rattle.std.proofs.Common.{Option, ap, sym, ◌∙◌}
use Rattle.stp_refusal.specs.declared.offence.Offence.{Offence}
use Rattle.stp_refusal.specs.First.{first_from}
use Rattle.stp_refusal.specs.Read.{Read, IsRead, fine}
use Rattle.stp_refusal.proofs.Reading.{first_from-append}
use Rattle.stp_domain_parts.specs.Then.{then_read, Goes}

pub goes_next : {A : Type 0} {old found new : Option Offence} {value : A} (one : Read A) (rest : A → Read A) (whole : Read A) → Goes old found (then_read one rest) whole → IsRead found new value one → Goes old new (rest value) whole
goes_next {old = old} {found = found} {new = new} one rest whole so_far step = record {
  first = ap (λ v. first_from new (rest v).offences) step.same ∙ ap (λ f. first_from f (rest one.value).offences) step.first ∙ sym (first_from-append found one.offences (rest one.value).offences) ∙ so_far.first;
  same = ap (λ v. (rest v).value) step.same ∙ so_far.same;
}

pub goes_done : {A : Type 0} {old found : Option Offence} {value : A} {whole : Read A} → Goes old found (fine value) whole → IsRead old found value whole
goes_done so_far = record { first = so_far.first; same = so_far.same }
