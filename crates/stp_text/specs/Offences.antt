-- The table of offences, and the rule that chooses one.
use Rattle.std.specs.Prelude.{ℕ, ◌==◌, nat_lt, List, [], ◌∷◌, ◌++◌, length, drop, if◌then◌else◌}
use Rattle.stp_text.specs.declared.fault.TextFault.{TextFault}
use Rattle.stp_text.specs.declared.fault.TextFault.TheVariants.{BadByte, StrayClose, TooDeep, Unclosed, WordTooLong, NotOneList, Memory}
use Rattle.stp_text.specs.Signs.{Sign, Opens, Closes, Spells, Strange}

-- what is wrong with a sign by itself: it is strange, or a word of more than 100 bytes
abbrev pub wrong : Sign → List TextFault
wrong (Opens at) = []
wrong (Closes at) = []
wrong (Spells at text) = if nat_lt 100 (length text) then WordTooLong at ∷ [] else []
wrong (Strange at) = BadByte at ∷ []

-- what is wrong with a sign before which these `(` have no `)`: it closes none, or is the 101st
abbrev pub misplaced : List ℕ → Sign → List TextFault
misplaced outer (Opens at) = if length outer == 100 then TooDeep at ∷ [] else []
misplaced [] (Closes at) = StrayClose at ∷ []
misplaced (last ∷ outer) (Closes at) = []
misplaced outer (Spells at text) = []
misplaced outer (Strange at) = []

-- the places of the `(` that have no `)` after a sign, the last one first
abbrev pub open_after : List ℕ → Sign → List ℕ
open_after outer (Opens at) = at ∷ outer
open_after outer (Closes at) = drop 1 outer
open_after outer (Spells at text) = outer
open_after outer (Strange at) = outer

-- those after several signs
unfoldable pub unclosed : List ℕ → List Sign → List ℕ
unclosed outer [] = outer
unclosed outer (s ∷ ss) = unclosed (open_after outer s) ss

-- all that is wrong with the words of a text
unfoldable pub wrongs : List Sign → List TextFault
wrongs [] = []
wrongs (s ∷ ss) = wrong s ++ wrongs ss

-- all that is wrong with the signs of a text, in the order of the text
unfoldable pub offences : List ℕ → List Sign → List TextFault
offences outer [] = []
offences outer (s ∷ ss) = wrong s ++ misplaced outer s ++ offences (open_after outer s) ss

-- the place of an offence
abbrev pub place_of : TextFault → ℕ
place_of (BadByte at) = at
place_of (StrayClose at) = at
place_of (TooDeep at) = at
place_of (Unclosed at) = at
place_of (WordTooLong at) = at
place_of (NotOneList at) = at
place_of Memory = 0
