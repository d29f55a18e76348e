-- Texts without comments, made of white bytes, parentheses and words.
use Rattle.std.specs.Prelude.{◌≡◌, ℕ, ◌+◌, ◌<◌, true, false, List, [], ◌∷◌, ◌++◌, length}
use Rattle.std.specs.List.{list_all}
use Rattle.stp_text.specs.Bytes.{is_white, is_word_byte}
use Rattle.stp_text.specs.Signs.{Sign, Opens, Closes, Spells, Strange, signs_of}

-- the bytes of a parenthesis or a word
abbrev pub bytes_of : Sign → List ℕ
bytes_of (Opens at) = 40 ∷ []
bytes_of (Closes at) = 41 ∷ []
bytes_of (Spells at text) = text
bytes_of (Strange at) = []

-- no byte of a word comes next
abbrev pub EndsWord : List ℕ → Type 0
EndsWord [] = Unit {0}
EndsWord (b ∷ bs) = is_word_byte b ≡ false

-- A longest run at a place: it has a byte, only bytes of words, and ends before what follows.
pub record IsLongestRun (place at : ℕ) (text rest : List ℕ) : Type 0 where
  pub there : at ≡ place
  pub some : 0 < length text
  pub bytes : list_all is_word_byte text ≡ true
  pub ends : EndsWord rest

-- a parenthesis or a word may stand at this place before these bytes
abbrev pub StandsAt : ℕ → Sign → List ℕ → Type 0
StandsAt place (Opens at) rest = at ≡ place
StandsAt place (Closes at) rest = at ≡ place
StandsAt place (Spells at text) rest = IsLongestRun place at text rest
StandsAt place (Strange at) rest = ⊥

-- a text from a place on is white bytes, a parenthesis or a word, and what is left
pub record BeginsWith (place : ℕ) (s : Sign) (text gap rest : List ℕ) : Type 0 where
  pub same : text ≡ gap ++ (bytes_of s ++ rest)
  pub blank : list_all is_white gap ≡ true
  pub stands : StandsAt (place + length gap) s rest

-- a text from a place on is made of these, with white bytes before, between and after them
abbrev pub IsMadeOf : ℕ → List Sign → List ℕ → Type 0
IsMadeOf place [] text = list_all is_white text ≡ true
IsMadeOf place (s ∷ ss) text = (gap : List ℕ) × (rest : List ℕ) × BeginsWith place s text gap rest × IsMadeOf (place + length gap + length (bytes_of s)) ss rest

-- the signs of such a text are those
abbrev pub WordsAreLongestRuns : Type 0
WordsAreLongestRuns = (bytes : List ℕ) (ss : List Sign) → IsMadeOf 0 ss bytes → signs_of bytes ≡ ss
