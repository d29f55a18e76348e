-- The instances of a problem's schemas, and those of them that are kept.
use Rattle.std.specs.Prelude.{ℕ, ◌+◌, Bool, not, ◌&&◌, if◌then◌else◌, List, [], ◌∷◌, ◌++◌, flat_map, Option, Some, None, option_map}
use Rattle.stp_schema.specs.Schemas.{PlainSchema}
use Rattle.stp_schema.specs.Views.{PlainGiven, PlainProblem}
use Rattle.stp_task.specs.Durations.{PlainDuration}
use Rattle.stp_instance.specs.Expanded.{bindings_of, expanded}
use Rattle.stp_instance.specs.Timings.{duration_of}
use Rattle.stp_ground.specs.Chosen.{PlainChosen, chosen_under}
use Rattle.stp_ground.specs.Problems.{below}
use Rattle.stp_kept.specs.Settled.{folds_to_false}

-- a schema, by its number from 0, with objects for its parameters, and how long it lasts
pub record PlainInstance : Type 0 where
  pub number : ℕ
  pub schema : PlainSchema
  pub args : List ℕ
  pub duration : PlainDuration

abbrev pub instance_with : ℕ → PlainSchema → List ℕ → PlainDuration → PlainInstance
instance_with number schema args duration = record { number = number; schema = schema; args = args; duration = duration }

-- there is one where the bounds of the duration are defined and lawful
abbrev pub instance_of : List PlainGiven → ℕ → PlainSchema → List ℕ → Option PlainInstance
instance_of values number schema args = option_map (instance_with number schema args) (duration_of values args schema.timing)

-- its conditions expanded, and the atoms of its effects
abbrev pub chosen_of : PlainProblem → PlainInstance → PlainChosen
chosen_of p i = chosen_under (below p) i.number i.schema i.args i.duration

-- whether what is static makes none of a schema's three conditions false under a binding
abbrev pub are_possible : PlainProblem → PlainSchema → List ℕ → Bool
are_possible p s args = not (folds_to_false p (expanded (below p) args s.start_cond)) && (not (folds_to_false p (expanded (below p) args s.over_all)) && not (folds_to_false p (expanded (below p) args s.end_cond)))

abbrev pub is_kept : PlainProblem → PlainInstance → Bool
is_kept p i = are_possible p i.schema i.args

abbrev pub if_kept : PlainProblem → Option PlainInstance → List PlainInstance
if_kept p None = []
if_kept p (Some i) = if is_kept p i then i ∷ [] else []

-- the kept instance of a schema with these objects, or none
abbrev pub kept_under : PlainProblem → ℕ → PlainSchema → List ℕ → List PlainInstance
kept_under p number schema args = if_kept p (instance_of p.values number schema args)

-- those whose objects begin with these and go on with objects of these types, in dictionary order
abbrev pub kept_with : PlainProblem → ℕ → PlainSchema → List ℕ → List ℕ → List PlainInstance
kept_with p number schema bound kinds = flat_map (λ others. kept_under p number schema (bound ++ others)) (bindings_of (below p) kinds)

abbrev pub kept_of_schema : PlainProblem → ℕ → PlainSchema → List PlainInstance
kept_of_schema p number schema = kept_with p number schema [] schema.parameters

-- those of these schemas, the first of which has this number
abbrev pub kept_from : PlainProblem → ℕ → List PlainSchema → List PlainInstance
kept_from p number [] = []
kept_from p number (schema ∷ schemas) = kept_of_schema p number schema ++ kept_from p (number + 1) schemas

-- all kept instances, in the order of schemas and bindings
abbrev pub kept : PlainProblem → List PlainInstance
kept p = kept_from p 0 p.domain.schemas
