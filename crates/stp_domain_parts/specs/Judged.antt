-- What is wrong with the entries of a typed list.
use Rattle.std.specs.Prelude.{ℕ, Bool, false, if◌then◌else◌, List, [], ◌∷◌, ◌++◌, Option, Some, None, is_some, bytes_eq, codes, unwrap_or}
use Rattle.stp_text.specs.Tree.{Tree, Trees, Word, Node, NoMore, More}
use Rattle.stp_refusal.specs.declared.code.Code.{Code}
use Rattle.stp_refusal.specs.declared.code.Code.TheVariants.{D10, D11}
use Rattle.stp_refusal.specs.declared.offence.Offence.{Offence}
use Rattle.stp_refusal.specs.Read.{offence_at, unless}
use Rattle.stp_tables.specs.Names.{number_of, is_new_in, with_name}
use Rattle.stp_text.specs.Names.{is_name, is_variable}
use Rattle.stp_domain_parts.specs.declared.judged.WordKind.{WordKind}
use Rattle.stp_domain_parts.specs.declared.judged.WordKind.TheVariants.{Name, Variable}
use Rattle.stp_domain_parts.specs.Entries.{Plain}

-- whether a word is spelled as the entries of a list have to be
abbrev pub is_spelled : WordKind → List ℕ → Bool
is_spelled Name text = is_name text
is_spelled Variable text = is_variable text

-- the names that were seen once these are declared
abbrev pub names_after : List (List ℕ) → List Plain → List (List ℕ)
names_after seen [] = seen
names_after seen (e ∷ es) = names_after (with_name seen e.name) es

-- words that are spelled otherwise, and words that repeat one that was seen
abbrev pub names_wrong : WordKind → Code → Code → List (List ℕ) → List Plain → List Offence
names_wrong kind misspelled repeated seen [] = []
names_wrong kind misspelled repeated seen (e ∷ es) =
    unless (is_spelled kind e.name) (offence_at e.at misspelled)
    ++ (unless (is_new_in seen e.name) (offence_at e.at repeated) ++ names_wrong kind misspelled repeated (with_name seen e.name) es)

abbrev pub begins_either : Trees → Bool
begins_either NoMore = false
begins_either (More (Word at text) ts) = bytes_eq text (codes "either")
begins_either (More (Node at items) ts) = false

-- what is wrong with what stands as a type, where something does
abbrev pub of_kind_wrong : (Tree → List Offence) → Option Tree → List Offence
of_kind_wrong wrong None = []
of_kind_wrong wrong (Some t) = wrong t

abbrev pub each_wrong : (Plain → List Offence) → List Plain → List Offence
each_wrong wrong [] = []
each_wrong wrong (e ∷ es) = wrong e ++ each_wrong wrong es

-- a type that is a list
abbrev pub shape_wrong : Tree → List Offence
shape_wrong (Word at text) = []
shape_wrong (Node at items) = if begins_either items then offence_at at D11 else offence_at at D10

abbrev pub shapes_wrong : List Plain → List Offence
shapes_wrong es = each_wrong (λ e. of_kind_wrong shape_wrong e.kind) es

-- a type that is not declared, at its word
abbrev pub kind_unknown : Code → List (List ℕ) → Tree → List Offence
kind_unknown code types (Word at text) = unless (is_some (number_of types text)) (offence_at at code)
kind_unknown code types (Node at items) = []

abbrev pub kinds_unknown : Code → List (List ℕ) → List Plain → List Offence
kinds_unknown code types es = each_wrong (λ e. of_kind_wrong (kind_unknown code types) e.kind) es

-- the number of what stands as a type; 0 is that of `object`
abbrev pub tree_number : List (List ℕ) → Option Tree → ℕ
tree_number types None = 0
tree_number types (Some (Word at text)) = unwrap_or (number_of types text) 0
tree_number types (Some (Node at items)) = 0

-- the number of an entry's type
abbrev pub kind_number : List (List ℕ) → Plain → ℕ
kind_number types e = tree_number types e.kind
