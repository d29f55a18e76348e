-- Readers that go on with what was read.
use Rattle.std.specs.Prelude.{◌≡◌, List, ◌++◌, Option}
use Rattle.stp_refusal.specs.declared.offence.Offence.{Offence}
use Rattle.stp_refusal.specs.First.{first_from}
use Rattle.stp_refusal.specs.Read.{Read}

-- what is read once the value before it is there
abbrev pub then_read : {A B : Type 0} → Read A → (A → Read B) → Read B
then_read r read = record { offences = r.offences ++ (read r.value).offences; value = (read r.value).value }

-- A loop that reads into what it has: what the rest says is what the whole says.
pub record Goes {A : Type 0} (old found : Option Offence) (rest whole : Read A) : Type 0 where
  pub first : first_from found rest.offences ≡ first_from old whole.offences
  pub same : rest.value ≡ whole.value

-- what is read after these offences
abbrev pub after_offences : {A : Type 0} → List Offence → Read A → Read A
after_offences offences r = record { offences = offences ++ r.offences; value = r.value }
