-- What a piece of text says, with all of its offences.
use Rattle.std.specs.Prelude.{◌≡◌, ℕ, Bool, if◌then◌else◌, List, [], ◌∷◌, ◌++◌, Option, Some, None}
use Rattle.stp_refusal.specs.declared.code.Code.{Code}
use Rattle.stp_refusal.specs.declared.offence.Offence.{Offence}
use Rattle.stp_refusal.specs.First.{first_from}

-- A value, and all offences of the text that says it. Where something does not match, a value stands in the place of what is missing.
pub record Read (A : Type 0) : Type 0 where
  pub offences : List Offence
  pub value : A

-- nothing is wrong
abbrev pub fine : {A : Type 0} → A → Read A
fine value = record { offences = []; value = value }

-- one offence
abbrev pub offence_at : ℕ → Code → List Offence
offence_at at code = record { at = at; code = code } ∷ []

-- this is wrong, and this stands in its place
abbrev pub bad : {A : Type 0} → ℕ → Code → A → Read A
bad at code value = record { offences = offence_at at code; value = value }

-- offences unless all is well
abbrev pub unless : Bool → List Offence → List Offence
unless good offences = if good then [] else offences

-- what is said by one before others
abbrev pub cons_read : {A : Type 0} → Read A → Read (List A) → Read (List A)
cons_read one rest = record { offences = one.offences ++ rest.offences; value = one.value ∷ rest.value }

-- a value that is made of one
abbrev pub map_read : {A B : Type 0} → (A → B) → Read A → Read B
map_read f r = record { offences = r.offences; value = f r.value }

-- a value that is made of two, the first of which is read first
abbrev pub pair_read : {A B C : Type 0} → (A → B → C) → Read A → Read B → Read C
pair_read f r s = record { offences = r.offences ++ s.offences; value = f r.value s.value }

-- what is read, with the offences that show once it is there
abbrev pub also : {A : Type 0} → (A → List Offence) → Read A → Read A
also wrong r = record { offences = r.offences ++ wrong r.value; value = r.value }

-- what depends on something that may be missing
abbrev pub given : {A B : Type 0} → B → (A → B) → Option A → B
given otherwise f None = otherwise
given otherwise f (Some x) = f x

-- What a reader gives: the value, and the first of what was found before and of the offences here.
pub record IsRead {A : Type 0} (old new : Option Offence) (value : A) (read : Read A) : Type 0 where
  pub first : new ≡ first_from old read.offences
  pub same : value ≡ read.value

-- A loop that reads a list: what it has, with what the rest says, is what the whole says.
pub record Continues {A : Type 0} (old found : Option Offence) (out : List A) (rest whole : Read (List A)) : Type 0 where
  pub first : first_from found rest.offences ≡ first_from old whole.offences
  pub same : out ++ rest.value ≡ whole.value

-- What a function finds that looks for offences alone.
abbrev pub Finds : Option Offence → Option Offence → List Offence → Type 0
Finds old new offences = new ≡ first_from old offences
