-- The parts of a text.
use Rattle.std.specs.Prelude.{ℕ, ◌==◌, Bool, ◌||◌, not, if◌then◌else◌, List, [], ◌∷◌, Option, Some, None, is_some}
use Rattle.stp_text.specs.Bytes.{is_white}

-- What a text is made of: the bytes `:`, `(`, `)`, `[` and `]`, each alone, and the longest runs of other bytes that
-- are not white.
pub data Part : Type 0 where
  Colon : Part
  Open : Part
  Close : Part
  OpenBracket : Part
  CloseBracket : Part
  Run : (bytes : List ℕ) → Part

-- the part that a byte is alone
abbrev pub mark_of : ℕ → Option Part
mark_of b =
    if b == 58 then Some Colon else
    (if b == 40 then Some Open else
    (if b == 41 then Some Close else
    (if b == 91 then Some OpenBracket else
    (if b == 93 then Some CloseBracket else None))))

abbrev pub is_mark : ℕ → Bool
is_mark b = is_some (mark_of b)

-- any other byte stands in a run
abbrev pub is_run_byte : ℕ → Bool
is_run_byte b = not (is_white b || is_mark b)

-- the parts, with the run that stands before them, if it has a byte
abbrev pub ended : List ℕ × List Part → List Part
ended ([], parts) = parts
ended (b ∷ run, parts) = Run (b ∷ run) ∷ parts

-- a mark, or a byte of a run, before what follows it
abbrev pub with_mark : Option Part → ℕ → List ℕ × List Part → List ℕ × List Part
with_mark (Some mark) b after = ([], mark ∷ ended after)
with_mark None b after = (b ∷ after.0, after.1)

-- the run that the bytes begin with, and the parts after it
unfoldable pub cut : List ℕ → List ℕ × List Part
cut [] = ([], [])
cut (b ∷ bs) = if is_white b then ([], ended (cut bs)) else with_mark (mark_of b) b (cut bs)

-- the parts of a text
unfoldable pub parts : List ℕ → List Part
parts text = ended (cut text)

-- ---- the parts one by one

-- the byte that a part is alone; 0 for a run
abbrev pub byte_of : Part → ℕ
byte_of Colon = 58
byte_of Open = 40
byte_of Close = 41
byte_of OpenBracket = 91
byte_of CloseBracket = 93
byte_of (Run bytes) = 0

-- what follows the byte, where the parts begin with it
abbrev pub after : ℕ → List Part → Option (List Part)
after b [] = None
after b (part ∷ parts) = if byte_of part == b then Some parts else None

-- the run that the parts begin with, and what follows it
abbrev pub first_run : List Part → Option (List ℕ × List Part)
first_run (Run bytes ∷ parts) = Some (bytes, parts)
first_run _ = None
