-- What a tree spells.
use Rattle.std.specs.Prelude.{ℕ, ◌+◌, max, List, [], ◌∷◌, ◌++◌, length, map}
use Rattle.stp_text.specs.Tree.{Tree, Trees, Word, Node, NoMore, More}
use Rattle.stp_text.specs.Bytes.{folded}
use Rattle.stp_text.specs.Signs.{Sign, Opens, Closes, Spells, Strange, signs_of}

-- a sign as a tree knows it: a word is folded, and a `)` has no place
pub data Mark : Type 0 where
  Opening : (at : ℕ) → Mark
  Closing : Mark
  Text : (at : ℕ) → (text : List ℕ) → Mark
  Blot : (at : ℕ) → Mark

-- the mark of a sign
abbrev pub mark : Sign → Mark
mark (Opens at) = Opening at
mark (Closes at) = Closing
mark (Spells at text) = Text at (folded text)
mark (Strange at) = Blot at

-- the marks of a text
abbrev pub marks_of : List ℕ → List Mark
marks_of bytes = map mark (signs_of bytes)

-- the marks of a tree
abbrev mutual
  pub spell : Tree → List Mark
  spell (Word at text) = Text at text ∷ []
  spell (Node at items) = Opening at ∷ (spell_all items ++ Closing ∷ [])

  pub spell_all : Trees → List Mark
  spell_all NoMore = []
  spell_all (More t ts) = spell t ++ spell_all ts

-- how many lists stand inside of one another
abbrev mutual
  pub nesting : Tree → ℕ
  nesting (Word at text) = 0
  nesting (Node at items) = 1 + nesting_of_all items

  pub nesting_of_all : Trees → ℕ
  nesting_of_all NoMore = 0
  nesting_of_all (More t ts) = max (nesting t) (nesting_of_all ts)

-- the bytes of the longest word
abbrev mutual
  pub longest : Tree → ℕ
  longest (Word at text) = length text
  longest (Node at items) = longest_of_all items

  pub longest_of_all : Trees → ℕ
  longest_of_all NoMore = 0
  longest_of_all (More t ts) = max (longest t) (longest_of_all ts)
