-- The tables of a domain: the third phase of reading.
use Rattle.std.specs.Prelude.{ℕ, List, [], ◌∷◌, ◌++◌, map, bytes_eq, codes}
use Rattle.stp_text.specs.Tree.{Tree, Word, Node}
use Rattle.stp_refusal.specs.declared.code.Code.TheVariants.{D13, D15}
use Rattle.stp_refusal.specs.declared.offence.Offence.{Offence}
use Rattle.stp_refusal.specs.Read.{Read, unless, offence_at}
use Rattle.stp_tables.specs.Names.{with_name}
use Rattle.stp_domain_parts.specs.Entries.{Plain}
use Rattle.stp_domain_parts.specs.Judged.{kinds_unknown, kind_number}
use Rattle.stp_domain_parts.specs.Actions.{Action}
use Rattle.stp_schema.specs.Rows.{Shape, Thing}
use Rattle.stp_schema.specs.Known.{Known}
use Rattle.stp_domain_tables.specs.Symbols.{Signature, with_row}
use Rattle.stp_domain_tables.specs.Actions.{ActionSignature}
use Rattle.stp_domain_tables.specs.Declarations.{Declarations}
use Rattle.stp_domain_tables.specs.Types.{types_in, parents_in, loops_wrong, forest_of}

-- ---- offences

-- types of parameters that are not declared
abbrev pub symbols_unknown : List (List ℕ) → List Signature → List Offence
symbols_unknown types [] = []
symbols_unknown types (s ∷ ss) = kinds_unknown D13 types s.parameters ++ symbols_unknown types ss

abbrev pub actions_unknown : List (List ℕ) → List ActionSignature → List Offence
actions_unknown types [] = []
actions_unknown types (a ∷ as_) = kinds_unknown D13 types a.parameters ++ actions_unknown types as_

-- a type of functions other than `number`
abbrev pub number_wrong : Tree → List Offence
number_wrong (Word at text) = unless (bytes_eq text (codes "number")) (offence_at at D15)
number_wrong (Node at items) = []

abbrev pub numbers_wrong : List Tree → List Offence
numbers_wrong [] = []
numbers_wrong (t ∷ ts) = number_wrong t ++ numbers_wrong ts

-- ---- values

abbrev pub kinds_of : List (List ℕ) → List Plain → List ℕ
kinds_of types es = map (kind_number types) es

abbrev pub words_of : List Plain → List (List ℕ)
words_of es = map (λ e. e.name) es

abbrev pub shape : List (List ℕ) → Signature → Shape
shape types s = record { name = s.name; parameters = kinds_of types s.parameters }

abbrev pub thing : List (List ℕ) → Plain → Thing
thing types e = record { name = e.name; kind = kind_number types e }

-- objects so far, each name once
pub record Things : Type 0 where
  pub names : List (List ℕ)
  pub rows : List Thing

abbrev pub no_things : Things
no_things = record { names = []; rows = [] }

abbrev pub with_thing : List (List ℕ) → Things → Plain → Things
with_thing types found e = record { names = with_name found.names e.name; rows = with_row found.names e.name found.rows (thing types e) }

abbrev pub with_things : List (List ℕ) → Things → List Plain → Things
with_things types found [] = found
with_things types found (e ∷ es) = with_things types (with_thing types found e) es

-- an action as it is written, with the names and the types of its parameters
pub record ActionShape : Type 0 where
  pub action : Action
  pub names : List (List ℕ)
  pub kinds : List ℕ

abbrev pub action_shape : List (List ℕ) → ActionSignature → ActionShape
action_shape types a = record { action = a.action; names = words_of a.parameters; kinds = kinds_of types a.parameters }

-- what a domain declares, with its constants as the objects that are known, and its actions
pub record Tables : Type 0 where
  pub known : Known
  pub actions : List ActionShape

-- types that are not declared, and types of functions other than `number`
abbrev pub kinds_wrong : List (List ℕ) → Declarations → List Offence
kinds_wrong types d =
    kinds_unknown D13 types d.constants
    ++ (symbols_unknown types d.predicates.rows
    ++ (symbols_unknown types d.functions.symbols.rows
    ++ (numbers_wrong d.functions.kinds
    ++ actions_unknown types d.actions.rows)))

abbrev pub tables_with : Declarations → List (List ℕ) → Tables
tables_with d types = record {
  known = record {
    types = types;
    parents = forest_of (parents_in types d.types);
    predicates = map (shape types) d.predicates.rows;
    functions = map (shape types) d.functions.symbols.rows;
    objects = (with_things types no_things d.constants).rows;
  };
  actions = map (action_shape types) d.actions.rows;
}

-- the tables of what is declared
abbrev pub tables_read : Declarations → Read Tables
tables_read d = record {
  offences = loops_wrong (types_in d.type_items) (parents_in (types_in d.type_items) d.types) d.types ++ kinds_wrong (types_in d.type_items) d;
  value = tables_with d (types_in d.type_items);
}
