-- The entries of a typed list.
use Rattle.std.specs.Prelude.{ℕ, Bool, true, false, if◌then◌else◌, List, [], ◌∷◌, ◌++◌, map, Option, Some, None, option_map, bytes_eq, codes}
use Rattle.std.specs.Borrow.{Bor}
use Rattle.stp_text.specs.declared.sexpr.Sexpr.{Sexpr}
use Rattle.stp_text.specs.Tree.{Tree, Trees, Word, Node, NoMore, More, view}
use Rattle.stp_refusal.specs.declared.code.Code.{Code}
use Rattle.stp_refusal.specs.declared.offence.Offence.{Offence}
use Rattle.stp_refusal.specs.Read.{Read, offence_at}
use Rattle.stp_domain_parts.specs.declared.entry.Entry.{Entry}

-- An entry, the place of the first entry of its group, and the item that stands as the group's type.
pub record Plain : Type 0 where
  pub at : ℕ
  pub name : List ℕ
  pub group : ℕ
  pub kind : Option Tree

abbrev pub kind_view : Option (Bor Sexpr) → Option Tree
kind_view kind = option_map (λ t. view t.now) kind

abbrev pub plain : Entry → Plain
plain e = record { at = e.at; name = e.name.now; group = e.group; kind = kind_view e.kind }

abbrev pub plains : List Entry → List Plain
plains es = map plain es

-- the word between a group and its type
abbrev pub is_dash : List ℕ → Bool
is_dash text = bytes_eq text (codes "-")

abbrev pub of_kind : Option Tree → Plain → Plain
of_kind kind e = record { at = e.at; name = e.name; group = e.group; kind = kind }

-- a group once its type is known
abbrev pub with_kind : Option Tree → List Plain → List Plain
with_kind kind group = map (of_kind kind) group

abbrev pub is_empty : List Plain → Bool
is_empty [] = true
is_empty (e ∷ es) = false

-- the place of a group's first entry, which is this one where there is none yet
abbrev pub group_place : List Plain → ℕ → ℕ
group_place [] at = at
group_place (e ∷ es) at = e.group

-- an entry of a group, and whose type is not known yet
abbrev pub named : List Plain → ℕ → List ℕ → Plain
named group at text = record { at = at; name = text; group = group_place group at; kind = None }

-- a group, and then others
abbrev pub group_then : List Plain → Read (List Plain) → Read (List Plain)
group_then group rest = record { offences = rest.offences; value = group ++ rest.value }

-- an offence, and then others
abbrev pub offence_then : ℕ → Code → Read (List Plain) → Read (List Plain)
offence_then at code rest = record { offences = record { at = at; code = code } ∷ rest.offences; value = rest.value }

-- a `-` that has no item behind it
abbrev pub dash_left : Code → Option ℕ → List Offence
dash_left code None = []
dash_left code (Some at) = offence_at at code

-- The entries of these items, after a group that has no type so far, and after the place of a `-` that has no type yet.
unfoldable pub entries_of : Code → List Plain → Option ℕ → Trees → Read (List Plain)
entries_of code group dash NoMore = record { offences = dash_left code dash; value = with_kind None group }
entries_of code group (Some dash) (More t ts) = group_then (with_kind (Some t) group) (entries_of code [] None ts)
entries_of code group None (More (Node at items) ts) = offence_then at code (entries_of code group None ts)
entries_of code group None (More (Word at text) ts) =
    if is_dash text
    then (if is_empty group then offence_then at code (entries_of code group None ts) else entries_of code group (Some at) ts)
    else entries_of code (group ++ named group at text ∷ []) None ts
