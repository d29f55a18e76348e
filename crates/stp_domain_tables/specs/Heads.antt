-- The words with which declarations begin.
use Rattle.std.specs.Prelude.{ℕ, Bool, ◌||◌, List, Option, Some, None, bytes_eq, codes}
use Rattle.stp_text.specs.Tree.{Tree, Trees, Word, Node, NoMore, More}

-- The place of a declaration, its name with its place, and the items of its list of parameters.
pub record Head : Type 0 where
  pub at : ℕ
  pub name_at : ℕ
  pub name : List ℕ
  pub parameters : Trees

-- the head of a list that begins with a word
abbrev pub head_of : Tree → Option Head
head_of (Word at text) = None
head_of (Node at NoMore) = None
head_of (Node at (More (Word name_at name) ts)) = Some (record { at = at; name_at = name_at; name = name; parameters = ts })
head_of (Node at (More (Node place items) ts)) = None

-- whether a word has another meaning where a predicate or a function stands
abbrev pub is_reserved : List ℕ → Bool
is_reserved name =
    bytes_eq name (codes "and") || bytes_eq name (codes "or") || bytes_eq name (codes "not") || bytes_eq name (codes "imply")
    || bytes_eq name (codes "forall") || bytes_eq name (codes "exists") || bytes_eq name (codes "when") || bytes_eq name (codes "preference")
