-- What a domain declares, as it is written: the second phase of reading.
use Rattle.std.specs.Prelude.{ℕ, List, [], ◌∷◌, None, codes}
use Rattle.stp_text.specs.Tree.{Tree, Trees, Word, Node}
use Rattle.stp_refusal.specs.declared.code.Code.TheVariants.{D07, D08, D10}
use Rattle.stp_refusal.specs.declared.offence.Offence.{Offence}
use Rattle.stp_refusal.specs.Read.{Read, fine, also, unless, offence_at}
use Rattle.stp_text.specs.Names.{is_name}
use Rattle.stp_domain_parts.specs.declared.judged.WordKind.TheVariants.{Name}
use Rattle.stp_domain_parts.specs.Entries.{Plain, entries_of}
use Rattle.stp_domain_parts.specs.Judged.{names_wrong, shapes_wrong, each_wrong, of_kind_wrong}
use Rattle.stp_domain_parts.specs.Domain.{Domain}
use Rattle.stp_domain_parts.specs.Then.{then_read}
use Rattle.stp_domain_tables.specs.Symbols.{Symbols, no_symbols, symbols_read}
use Rattle.stp_domain_tables.specs.Functions.{Functions, functions_read}
use Rattle.stp_domain_tables.specs.Actions.{Actions, no_actions, actions_read}

-- a typed list of names, where these names are declared
abbrev pub names_read : List (List ℕ) → Trees → Read (List Plain)
names_read seen items = also shapes_wrong (also (names_wrong Name D07 D08 seen) (entries_of D10 [] None items))

-- a type that stands behind others and is no name
abbrev pub parent_wrong : Tree → List Offence
parent_wrong (Word at text) = unless (is_name text) (offence_at at D07)
parent_wrong (Node at items) = []

abbrev pub parents_wrong : List Plain → List Offence
parents_wrong es = each_wrong (λ e. of_kind_wrong parent_wrong e.kind) es

-- `object` is declared from the start
abbrev pub types_read : Trees → Read (List Plain)
types_read items = also parents_wrong (names_read (codes "object" ∷ []) items)

-- The items of `:types` and its entries, the constants, and the predicates, functions and actions with their parameters.
pub record Declarations : Type 0 where
  pub type_items : Trees
  pub types : List Plain
  pub constants : List Plain
  pub predicates : Symbols
  pub functions : Functions
  pub actions : Actions

abbrev pub declarations_with : Trees → List Plain → List Plain → Symbols → Functions → Actions → Declarations
declarations_with type_items types constants predicates functions actions = record { type_items = type_items; types = types; constants = constants; predicates = predicates; functions = functions; actions = actions }

-- what the parts of a domain declare
abbrev pub declarations_read : Domain → Read Declarations
declarations_read d =
    then_read (types_read d.types) (λ types.
    then_read (names_read [] d.constants) (λ constants.
    then_read (symbols_read no_symbols d.predicates) (λ predicates.
    then_read (functions_read d.functions) (λ functions.
    then_read (actions_read no_actions d.actions) (λ actions.
    fine (declarations_with d.types types constants predicates functions actions))))))
