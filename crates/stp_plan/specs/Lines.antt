-- The lines of a text, and what they say.
use Rattle.std.specs.Prelude.{ℕ, ◌+◌, ◌-◌, ◌==◌, if◌then◌else◌, List, [], ◌∷◌, length, map, take, drop}
use Rattle.std.specs.List.{onto_first, before_first, prefix_len, suffix_len}
use Rattle.stp_text.specs.Bytes.{is_white}
use Rattle.stp_plan.specs.declared.line.Line.{Line}

-- the lines of the bytes: each ends by a line feed, 10, or by the end; after a last line feed there is none
unfoldable pub lines_of : List ℕ → List (List ℕ)
lines_of [] = []
lines_of (b ∷ bs) = if b == 10 then [] ∷ lines_of bs else onto_first b (lines_of bs)

-- a line up to its `;`
abbrev pub before_comment : List ℕ → List ℕ
before_comment line = before_first (λ b. b == 59) line

-- a text from its first byte on that is not white
abbrev pub trim_start : List ℕ → List ℕ
trim_start text = drop (prefix_len is_white text) text

-- a text up to its last byte that is not white
abbrev pub trim_end : List ℕ → List ℕ
trim_end text = take (length text - suffix_len is_white text) text

-- a line without its comment and without white bytes at its ends
abbrev pub line_text : List ℕ → List ℕ
line_text line = trim_end (trim_start (before_comment line))

-- what the lines of the bytes say
abbrev pub texts_of : List ℕ → List (List ℕ)
texts_of bytes = map line_text (lines_of bytes)

-- where that stands, of a line that begins at a place
abbrev pub place_of : ℕ → List ℕ → Line
place_of at line =
    let from = at + prefix_len is_white (before_comment line) in
    record { from = from; to = from + length (line_text line) }

-- and of the lines that follow one another from a place on
abbrev pub places_of : ℕ → List (List ℕ) → List Line
places_of at [] = []
places_of at (line ∷ lines) = place_of at line ∷ places_of (at + length line + 1) lines

-- the bytes of a place
abbrev pub text_at : List ℕ → Line → List ℕ
text_at bytes line = take (line.to - line.from) (drop line.from bytes)
