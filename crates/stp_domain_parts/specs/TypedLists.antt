-- Typed lists as they are written: groups of words with their types, and words without a type.
use Rattle.std.specs.Prelude.{◌≡◌, ℕ, false, List, [], ◌∷◌, ◌++◌, map, All, Option, Some, None, codes}
use Rattle.stp_text.specs.Tree.{Tree, Trees, Word, NoMore, More}
use Rattle.stp_refusal.specs.declared.code.Code.{Code}
use Rattle.stp_refusal.specs.Read.{fine}
use Rattle.stp_domain_parts.specs.Entries.{Plain, is_dash, entries_of}

-- a word at a place
pub record Placed : Type 0 where
  pub at : ℕ
  pub name : List ℕ

-- one word or more, the place of a `-`, and the type behind it
pub record Group : Type 0 where
  pub first : Placed
  pub more : List Placed
  pub dash : ℕ
  pub kind : Tree

abbrev pub words_in : Group → List Placed
words_in g = g.first ∷ g.more

-- words before further items
abbrev pub words_then : List Placed → Trees → Trees
words_then [] ts = ts
words_then (w ∷ ws) ts = More (Word w.at w.name) (words_then ws ts)

-- the items `g1 - t1 g2 - t2 ..`, and then words without a type
abbrev pub written : List Group → List Placed → Trees
written [] last = words_then last NoMore
written (g ∷ gs) last = words_then (words_in g) (More (Word g.dash (codes "-")) (More g.kind (written gs last)))

-- the entry of a word, whose group begins at a place
abbrev pub entry : Option Tree → ℕ → Placed → Plain
entry kind place w = record { at = w.at; name = w.name; group = place; kind = kind }

-- the entries of a group's words
abbrev pub group_entries : Option Tree → List Placed → List Plain
group_entries kind [] = []
group_entries kind (w ∷ ws) = map (entry kind w.at) (w ∷ ws)

-- the entries of groups and of words without a type
abbrev pub entries_in : List Group → List Placed → List Plain
entries_in [] last = group_entries None last
entries_in (g ∷ gs) last = group_entries (Some g.kind) (words_in g) ++ entries_in gs last

-- none of these words is a `-`
abbrev pub AreNames : List Placed → Type 0
AreNames [] = Unit {0}
AreNames (w ∷ ws) = (is_dash w.name ≡ false) × AreNames ws

abbrev pub HaveNames : List Group → Type 0
HaveNames [] = Unit {0}
HaveNames (g ∷ gs) = AreNames (words_in g) × HaveNames gs

-- what is written is read, without an offence
abbrev pub WrittenListsAreRead : Type 0
WrittenListsAreRead = (code : Code) (groups : List Group) (last : List Placed) → HaveNames groups → AreNames last → entries_of code [] None (written groups last) ≡ fine (entries_in groups last)
