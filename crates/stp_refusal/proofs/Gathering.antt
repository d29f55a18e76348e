-- Readers that gather values from several items, one after the other.
use Rattle.std.proofs.Common.{◌≡◌, ℕ, Option, refl, ap, sym, ◌∙◌}
use Rattle.stp_refusal.specs.declared.code.Code.{Code}
use Rattle.stp_refusal.specs.declared.offence.Offence.{Offence}
use Rattle.stp_refusal.specs.First.{first_from, earlier}
use Rattle.stp_refusal.specs.Read.{Read, IsRead, fine, bad, map_read, pair_read}
use Rattle.stp_refusal.proofs.Reading.{first_from-append}
use Rattle.stp_refusal.specs.Gathering.{Gathers}

module _ {A : Type 0} (join : A → A → A) (none : A) (right : (a : A) → join a none ≡ a) where
  -- where nothing is said
  pub nothing_said : (first : Option Offence) (now : A) → IsRead first first now (map_read (join now) (fine none))
  nothing_said first now = record { first = refl; same = sym (right now) }

  -- where something is refused
  pub refused_said : (old new : Option Offence) (at : ℕ) (code : Code) (now : A) → new ≡ earlier old (record { at = at; code = code }) → IsRead old new now (map_read (join now) (bad at code none))
  refused_said old new at code now e = record { first = e; same = sym (right now) }

  -- at the end of a loop
  pub gathers_done : {old found : Option Offence} {before now : A} {whole : Read A} → Gathers join old found before now (fine none) whole → IsRead old found now (map_read (join before) whole)
  gathers_done {now = now} so_far = record { first = so_far.first; same = sym (right now) ∙ so_far.same }

-- one more item
pub gathers_next : {A : Type 0} (join : A → A → A) (assoc : (a b c : A) → join (join a b) c ≡ join a (join b c)) {old found new : Option Offence} {before now then : A} {one rest whole : Read A} → Gathers join old found before now (pair_read join one rest) whole → IsRead found new then (map_read (join now) one) → Gathers join old new before then rest whole
gathers_next join assoc {old = old} {found = found} {new = new} {before = before} {now = now} {then = then} {one = one} {rest = rest} {whole = whole} so_far step = record {
  first = ap (λ f. first_from f rest.offences) step.first ∙ sym (first_from-append found one.offences rest.offences) ∙ so_far.first;
  same = ap (λ a. join a rest.value) step.same ∙ assoc now one.value rest.value ∙ so_far.same;
}
