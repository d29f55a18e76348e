-- Words, lists, and the items of lists.
use Rattle.std.specs.Prelude.{ℕ, ◌+◌, Bool, true, false, ◌||◌, if◌then◌else◌, List, [], ◌∷◌, Option, Some, None, is_none}
use Rattle.stp_base.specs.Options.{◌>>=◌}
use Rattle.stp_text.specs.Tree.{Tree, Trees, Word, Node, NoMore, More}

-- a value, where a test holds
abbrev pub when : {A : Type 0} → Bool → A → Option A
when test x = if test then Some x else None

-- ---- a tree

-- the place of a word or a list
abbrev pub place : Tree → ℕ
place (Word at text) = at
place (Node at items) = at

-- whether it is a list
abbrev pub is_list : Tree → Bool
is_list (Word at text) = false
is_list (Node at items) = true

-- the text of a word
abbrev pub word_of : Tree → Option (List ℕ)
word_of (Word at text) = Some text
word_of (Node at items) = None

-- the items of a list
abbrev pub items_of : Tree → Option Trees
items_of (Word at text) = None
items_of (Node at items) = Some items

-- ---- items

-- how many there are
abbrev pub count : Trees → ℕ
count NoMore = 0
count (More t ts) = 1 + count ts

-- whether one of them is a list
abbrev pub has_list : Trees → Bool
has_list NoMore = false
has_list (More t ts) = is_list t || has_list ts

-- the items as a list
abbrev pub list_of : Trees → List Tree
list_of NoMore = []
list_of (More t ts) = t ∷ list_of ts

-- the first item, and those after it
abbrev pub first_of : Trees → Option (Tree × Trees)
first_of NoMore = None
first_of (More t ts) = Some (t, ts)

-- the item of a list of exactly one
abbrev pub only : Trees → Option Tree
only items = do
  first ← first_of items
  when (is_none (first_of first.1)) first.0

-- the first word of a list, and the items after it
abbrev pub keyed : Tree → Option (List ℕ × Trees)
keyed tree = do
  items ← items_of tree
  first ← first_of items
  word ← word_of first.0
  Some (word, first.1)

-- ---- few of anything

-- the one of a list of one
abbrev pub one_of : {A : Type 0} → List A → Option A
one_of [] = None
one_of (x ∷ []) = Some x
one_of (x ∷ y ∷ xs) = None

-- the two of a list of two
abbrev pub two_of : {A : Type 0} → List A → Option (A × A)
two_of [] = None
two_of (x ∷ []) = None
two_of (x ∷ y ∷ []) = Some (x, y)
two_of (x ∷ y ∷ z ∷ xs) = None
