-- What is true of the reading.
use Rattle.std.specs.Prelude.{◌≡◌, ◌≢◌, ℕ, ◌<◌, ◌≤◌, ◌⊎◌, true, List, [], Result, Err, Contains, All}
use Rattle.stp_text.specs.declared.fault.TextFault.{TextFault}
use Rattle.stp_text.specs.Tree.{Tree}
use Rattle.stp_text.specs.Signs.{signs_of}
use Rattle.stp_text.specs.Offences.{offences, wrongs, place_of}
use Rattle.stp_text.specs.Reading.{tree_of, tokens_of}
use Rattle.stp_text.specs.Items.{is_list}
use Rattle.stp_text.specs.Spelling.{spell, marks_of, nesting, longest}

-- a text spells a list, which is not nested too deeply and has no overlong word
pub record Spelled (bytes : List ℕ) (t : Tree) : Type 0 where
  pub a_list : is_list t ≡ true
  pub same : marks_of bytes ≡ spell t
  pub shallow : nesting t ≤ 100
  pub short : longest t ≤ 100

-- of these offences it is the one of the least place
pub record IsLeast (found : List TextFault) (fault : TextFault) : Type 0 where
  pub among : Contains found fault
  pub least : All (λ o. (o ≡ fault) ⊎ (place_of fault < place_of o)) found

-- where the table has an offence of a text, the one of the least place is given
abbrev pub GivesLeast : {A : Type 0} → List TextFault → Result A TextFault → Type 0
GivesLeast found given = found ≢ [] → (fault : TextFault) × (given ≡ Err fault) × IsLeast found fault

-- the offence that a tree is refused for
abbrev pub TreeGivesLeast : Type 0
TreeGivesLeast = (bytes : List ℕ) → GivesLeast (offences [] (signs_of bytes)) (tree_of bytes)

-- the offence that the tokens are refused for
abbrev pub TokensGiveLeast : Type 0
TokensGiveLeast = (bytes : List ℕ) → GivesLeast (wrongs (signs_of bytes)) (tokens_of bytes)
