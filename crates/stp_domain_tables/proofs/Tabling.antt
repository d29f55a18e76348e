-- Tables made of their parts.
use Rattle.std.proofs.Common.{◌≡◌, ℕ, List, map, ap, ◌∙◌}
use Rattle.stp_schema.specs.Rows.{Shape, Thing}
use Rattle.stp_domain_tables.specs.Declarations.{Declarations}
use Rattle.stp_domain_tables.specs.Types.{parents_in, forest_of}
use Rattle.stp_domain_tables.specs.Tables.{ActionShape, Tables, shape, action_shape, with_things, no_things, tables_with}

abbrev pub tables_of_parts : List (List ℕ) → List ℕ → List Shape → List Shape → List Thing → List ActionShape → Tables
tables_of_parts names parents predicates functions objects actions = record { known = record { types = names; parents = parents; predicates = predicates; functions = functions; objects = objects }; actions = actions }

pub tables_are : (d : Declarations) (types names : List (List ℕ)) (parents : List ℕ) (predicates functions : List Shape) (objects : List Thing) (actions : List ActionShape) →
    names ≡ types →
    parents ≡ forest_of (parents_in types d.types) →
    predicates ≡ map (shape types) d.predicates.rows →
    functions ≡ map (shape types) d.functions.symbols.rows →
    objects ≡ (with_things types no_things d.constants).rows →
    actions ≡ map (action_shape types) d.actions.rows →
    tables_of_parts names parents predicates functions objects actions ≡ tables_with d types
tables_are d types names parents predicates functions objects actions a b c e f g =
    ap (λ x. tables_of_parts x parents predicates functions objects actions) a
    ∙ ap (λ x. tables_of_parts types x predicates functions objects actions) b
    ∙ ap (λ x. tables_of_parts types (forest_of (parents_in types d.types)) x functions objects actions) c
    ∙ ap (λ x. tables_of_parts types (forest_of (parents_in types d.types)) (map (shape types) d.predicates.rows) x objects actions) e
    ∙ ap (λ x. tables_of_parts types (forest_of (parents_in types d.types)) (map (shape types) d.predicates.rows) (map (shape types) d.functions.symbols.rows) x actions) f
    ∙ ap (λ x. tables_of_parts types (forest_of (parents_in types d.types)) (map (shape types) d.predicates.rows) (map (shape types) d.functions.symbols.rows) (with_things types no_things d.constants).rows x) g
