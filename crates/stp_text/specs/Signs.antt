-- The words, parentheses and strange bytes of a text, with their places.
use Rattle.std.specs.Prelude.{ℕ, ◌+◌, ◌==◌, List, [], ◌∷◌, ◌++◌, if◌then◌else◌}
use Rattle.stp_text.specs.declared.bytes.ByteKind.{ByteKind}
use Rattle.stp_text.specs.declared.bytes.ByteKind.TheVariants.{White, Semicolon, Open, Close, Word, Other}
use Rattle.stp_text.specs.Bytes.{kind, run}

-- a word with its bytes as they are written, a parenthesis, or a byte that is none of a text's
pub data Sign : Type 0 where
  Opens : (at : ℕ) → Sign
  Closes : (at : ℕ) → Sign
  Spells : (at : ℕ) → (text : List ℕ) → Sign
  Strange : (at : ℕ) → Sign

-- what a byte may be inside of
pub data Inside : Type 0 where
  Nothing : Inside
  AWord : Inside
  AComment : Inside

-- what the place after a byte of this kind is inside of, where no comment has begun
abbrev pub within_kind : ByteKind → Inside
within_kind White = Nothing
within_kind Semicolon = AComment
within_kind Open = Nothing
within_kind Close = Nothing
within_kind Word = AWord
within_kind Other = Nothing

-- what the place after this byte is inside of
abbrev pub within : Inside → ℕ → Inside
within AComment b = if b == 10 then Nothing else AComment
within AWord b = within_kind (kind b)
within Nothing b = within_kind (kind b)

-- what begins outside of words and comments with a byte of this kind, at this place, before these bytes
abbrev pub begins_here : ByteKind → ℕ → List ℕ → List Sign
begins_here White at bytes = []
begins_here Semicolon at bytes = []
begins_here Open at bytes = Opens at ∷ []
begins_here Close at bytes = Closes at ∷ []
begins_here Word at bytes = Spells at (run bytes) ∷ []
begins_here Other at bytes = Strange at ∷ []

-- what follows a word directly: a byte of a word goes on with it
abbrev pub begins_after_word : ByteKind → ℕ → List ℕ → List Sign
begins_after_word Word at bytes = []
begins_after_word White at bytes = []
begins_after_word Semicolon at bytes = []
begins_after_word Open at bytes = Opens at ∷ []
begins_after_word Close at bytes = Closes at ∷ []
begins_after_word Other at bytes = Strange at ∷ []

-- what begins with the first of the bytes
abbrev pub begins : Inside → ℕ → ℕ → List ℕ → List Sign
begins Nothing at b bytes = begins_here (kind b) at (b ∷ bytes)
begins AWord at b bytes = begins_after_word (kind b) at (b ∷ bytes)
begins AComment at b bytes = []

-- the signs of these bytes, of which the first stands at the place
unfoldable pub signs : Inside → ℕ → List ℕ → List Sign
signs inside at [] = []
signs inside at (b ∷ bytes) = begins inside at b bytes ++ signs (within inside b) (at + 1) bytes

-- the signs of a text
abbrev pub signs_of : List ℕ → List Sign
signs_of bytes = signs Nothing 0 bytes
