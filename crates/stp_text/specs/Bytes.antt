-- What the bytes of a text are.
use Rattle.std.specs.Prelude.{ℕ, Bool, true, false, not, ◌==◌, ◌&&◌, ◌||◌, nat_le, if◌then◌else◌, List, map}
use Rattle.std.specs.Char.{to_ascii_lowercase}
use Rattle.std.specs.List.{take_while}
use Rattle.stp_text.specs.declared.bytes.ByteKind.{ByteKind}
use Rattle.stp_text.specs.declared.bytes.ByteKind.TheVariants.{White, Semicolon, Open, Close, Word, Other}

-- space, tab, carriage return and line feed
abbrev pub is_white : ℕ → Bool
is_white b = (b == 32) || (b == 9) || (b == 13) || (b == 10)

-- what a byte outside comments is
unfoldable pub kind : ℕ → ByteKind
kind b =
    if is_white b then White
    else if b == 59 then Semicolon
    else if b == 40 then Open
    else if b == 41 then Close
    else if nat_le 33 b && nat_le b 126 then Word
    else Other

-- whether a kind is that of a byte of a word
abbrev pub is_word : ByteKind → Bool
is_word Word = true
is_word _ = false

-- whether a byte may stand in a word
abbrev pub is_word_byte : ℕ → Bool
is_word_byte b = is_word (kind b)

-- whether a byte may stand in a comment that has begun
abbrev pub is_comment_byte : ℕ → Bool
is_comment_byte b = not (b == 10)

-- the longest front of bytes that may stand in a word
abbrev pub run : List ℕ → List ℕ
run bytes = take_while is_word_byte bytes

-- a word's text with its capital letters folded
abbrev pub folded : List ℕ → List ℕ
folded text = map to_ascii_lowercase text
