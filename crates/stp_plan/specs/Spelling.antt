-- Texts that spell parts and steps, with any white bytes between.
use Rattle.std.specs.Prelude.{◌≡◌, ℕ, ◌<◌, Bool, true, false, List, [], ◌∷◌, ◌++◌, length, map, Some}
use Rattle.std.specs.List.{list_all}
use Rattle.stp_text.specs.Bytes.{is_white}
use Rattle.stp_plan.specs.declared.atoms.Named.{Named}
use Rattle.stp_plan.specs.Parts.{Part, Colon, Open, Close, OpenBracket, CloseBracket, Run, byte_of, is_run_byte}
use Rattle.stp_plan.specs.Names.{named_by}
use Rattle.stp_plan.specs.Numbers.{plain_number}
use Rattle.stp_plan.specs.Steps.{PlainStep, bracket_of}

-- the bytes of a part
abbrev pub bytes_of : Part → List ℕ
bytes_of Colon = byte_of Colon ∷ []
bytes_of Open = byte_of Open ∷ []
bytes_of Close = byte_of Close ∷ []
bytes_of OpenBracket = byte_of OpenBracket ∷ []
bytes_of CloseBracket = byte_of CloseBracket ∷ []
bytes_of (Run bytes) = bytes

-- no byte of a run comes next
abbrev pub EndsRun : List ℕ → Type 0
EndsRun [] = Unit {0}
EndsRun (b ∷ bs) = is_run_byte b ≡ false

-- a run has a byte, and only bytes of runs, and ends before what follows
pub record IsRun (word rest : List ℕ) : Type 0 where
  pub some : 0 < length word
  pub bytes : list_all is_run_byte word ≡ true
  pub ends : EndsRun rest

-- a part may stand before these bytes
abbrev pub StandsBefore : Part → List ℕ → Type 0
StandsBefore Colon rest = Unit {0}
StandsBefore Open rest = Unit {0}
StandsBefore Close rest = Unit {0}
StandsBefore OpenBracket rest = Unit {0}
StandsBefore CloseBracket rest = Unit {0}
StandsBefore (Run word) rest = IsRun word rest

-- white bytes, and perhaps none
abbrev pub IsBlank : List ℕ → Type 0
IsBlank gap = list_all is_white gap ≡ true

-- a text is a gap, a part, and what is left
pub record BeginsWith (p : Part) (text gap rest : List ℕ) : Type 0 where
  pub same : text ≡ gap ++ (bytes_of p ++ rest)
  pub blank : IsBlank gap
  pub stands : StandsBefore p rest

-- a text spells these parts, with any white bytes before, between and after them
abbrev pub Spells : List Part → List ℕ → Type 0
Spells [] text = IsBlank text
Spells (p ∷ ps) text = (gap : List ℕ) × (rest : List ℕ) × BeginsWith p text gap rest × Spells ps rest

-- NUMBER : (NAME NAME ..) and what stands as the bracket
abbrev pub step_parts : List ℕ → List (List ℕ) → List Part → List Part
step_parts time words bracket = Run time ∷ Colon ∷ Open ∷ (map (λ w. Run w) words ++ Close ∷ bracket)

-- a text is a spelling of a step
pub record IsSpelling (s : PlainStep) (text : List ℕ) : Type 0 where
  pub time : List ℕ
  pub words : List (List ℕ)
  pub bracket : List Part
  pub at : plain_number time ≡ Some s.at
  pub names : named_by words ≡ Some (record { name = s.name; args = s.args })
  pub ends : bracket_of bracket ≡ Some s.bracket
  pub spelled : Spells (step_parts time words bracket) text
