-- Types: their names in order of first sight, their parents, and those that are ancestors of themselves.
use Rattle.std.specs.Prelude.{ℕ, zero, suc, Bool, false, not, ◌==◌, ◌||◌, if◌then◌else◌, List, [], ◌∷◌, length, replicate, slice_set, unwrap_or, codes}
use Rattle.stp_text.specs.Tree.{Tree, Trees, Word, Node, NoMore, More}
use Rattle.stp_refusal.specs.declared.code.Code.TheVariants.{D14}
use Rattle.stp_refusal.specs.declared.offence.Offence.{Offence}
use Rattle.stp_refusal.specs.Read.{unless, offence_at}
use Rattle.stp_tables.specs.Names.{number_of, with_name}
use Rattle.stp_domain_parts.specs.Entries.{Plain, is_dash}
use Rattle.stp_domain_parts.specs.Judged.{each_wrong, kind_number}
use Rattle.stp_types.specs.Forest.{is_own_ancestor}

-- the names of types once an item is seen
abbrev pub with_type : List (List ℕ) → Tree → List (List ℕ)
with_type seen (Word at text) = if is_dash text then seen else with_name seen text
with_type seen (Node at items) = seen

abbrev pub with_types : List (List ℕ) → Trees → List (List ℕ)
with_types seen NoMore = seen
with_types seen (More t ts) = with_types (with_type seen t) ts

-- `object`, and then each word of the items of `:types`, entries and parents alike
abbrev pub types_in : Trees → List (List ℕ)
types_in items = with_types (codes "object" ∷ []) items

-- the number of a type; 0 is that of `object`
abbrev pub type_number : List (List ℕ) → List ℕ → ℕ
type_number types name = unwrap_or (number_of types name) 0

-- the parents once that of an entry is known; `object` keeps its own
abbrev pub with_parent : List (List ℕ) → List ℕ → Plain → List ℕ
with_parent types parents e = if type_number types e.name == 0 then parents else slice_set parents (type_number types e.name) (kind_number types e)

abbrev pub with_parents : List (List ℕ) → List ℕ → List Plain → List ℕ
with_parents types parents [] = parents
with_parents types parents (e ∷ es) = with_parents types (with_parent types parents e) es

-- the parent of each type, which is `object` for those that are no entries
abbrev pub parents_in : List (List ℕ) → List Plain → List ℕ
parents_in types es = with_parents types (replicate (length types) 0) es

-- entries whose types are ancestors of themselves
abbrev pub loop_wrong : List (List ℕ) → List ℕ → Plain → List Offence
loop_wrong types parents e = unless (not (is_own_ancestor parents (type_number types e.name))) (offence_at e.at D14)

abbrev pub loops_wrong : List (List ℕ) → List ℕ → List Plain → List Offence
loops_wrong types parents es = each_wrong (loop_wrong types parents) es

-- whether one of the first types is an ancestor of itself
abbrev pub has_loop_below : List ℕ → ℕ → Bool
has_loop_below parents zero = false
has_loop_below parents (suc n) = is_own_ancestor parents n || has_loop_below parents n

abbrev pub has_loop : List ℕ → Bool
has_loop parents = has_loop_below parents (length parents)

-- the parents; where a type is an ancestor of itself, `object` stands in the place of each
abbrev pub forest_of : List ℕ → List ℕ
forest_of parents = if has_loop parents then replicate (length parents) 0 else parents
