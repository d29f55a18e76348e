-- What a name and arguments choose: a schema with objects for its parameters.
use Rattle.std.specs.Prelude.{ℕ, if◌then◌else◌, ◌==◌, List, [], ◌∷◌, length, map, slice_get, slice_index, Result, Ok, Err}
use Rattle.std.specs.Option.{ok_or}
use Rattle.stp_base.specs.Results.{◌>>=◌}
use Rattle.stp_types.specs.Forest.{is_below}
use Rattle.stp_tables.specs.Names.{number_of}
use Rattle.stp_schema.specs.Rows.{thing_names}
use Rattle.stp_schema.specs.Schemas.{PlainSchema}
use Rattle.stp_schema.specs.Views.{PlainProblem}
use Rattle.stp_tables.specs.Atoms.{Atom}
use Rattle.stp_task.specs.Durations.{PlainDuration}
use Rattle.stp_instance.specs.Timings.{duration_of}
use Rattle.stp_instance.specs.Expanded.{Claim, expanded}
use Rattle.stp_instance.specs.Effects.{ground_atoms}
use Rattle.stp_ground.specs.declared.fault.InstanceFault.{InstanceFault}
use Rattle.stp_ground.specs.declared.fault.InstanceFault.TheVariants.{UnknownAction, WrongCount, UnknownObject, WrongType, NoDuration}
use Rattle.stp_ground.specs.Problems.{below}

-- a schema under a binding: its conditions expanded, and the atoms of its effects
pub record PlainChosen : Type 0 where
  pub schema : ℕ
  pub args : List ℕ
  pub duration : PlainDuration
  pub start_cond : Claim
  pub over_all : Claim
  pub end_cond : Claim
  pub start_adds : List Atom
  pub start_dels : List Atom
  pub end_adds : List Atom
  pub end_dels : List Atom

-- the first schema of a name, with its number
abbrev pub named : PlainProblem → List ℕ → Result (ℕ × PlainSchema) InstanceFault
named p name = do
  number ← ok_or (number_of (map (λ s. s.name) p.domain.schemas) name) UnknownAction
  schema ← ok_or (slice_get p.domain.schemas number) UnknownAction
  Ok (number, schema)

-- an object, whose type has to be another or below it
abbrev pub fitting : PlainProblem → ℕ → ℕ → Result ℕ InstanceFault
fitting p kind object = if is_below p.domain.parents (slice_index (map (λ o. o.kind) p.objects) object) kind then Ok object else Err WrongType

-- the object of a name, for a parameter of a type
abbrev pub argument : PlainProblem → ℕ → List ℕ → Result ℕ InstanceFault
argument p kind name = ok_or (number_of (thing_names p.objects) name) UnknownObject >>= fitting p kind

-- the objects of these names, each for a parameter of its type; or what is wrong with the first that does not fit
abbrev pub arguments : PlainProblem → List ℕ → List (List ℕ) → Result (List ℕ) InstanceFault
arguments p [] names = Ok []
arguments p (kind ∷ kinds) [] = Ok []
arguments p (kind ∷ kinds) (name ∷ names) = do
  one ← argument p kind name
  others ← arguments p kinds names
  Ok (one ∷ others)

-- the objects of these names, where there are as many as parameters
abbrev pub bound : PlainProblem → List ℕ → List (List ℕ) → Result (List ℕ) InstanceFault
bound p kinds names = if length kinds == length names then arguments p kinds names else Err WrongCount

-- a schema under a binding
abbrev pub chosen_under : (ℕ → List ℕ) → ℕ → PlainSchema → List ℕ → PlainDuration → PlainChosen
chosen_under objects_of number s objects lasting = record {
  schema = number;
  args = objects;
  duration = lasting;
  start_cond = expanded objects_of objects s.start_cond;
  over_all = expanded objects_of objects s.over_all;
  end_cond = expanded objects_of objects s.end_cond;
  start_adds = ground_atoms objects s.start_adds;
  start_dels = ground_atoms objects s.start_dels;
  end_adds = ground_atoms objects s.end_adds;
  end_dels = ground_atoms objects s.end_dels;
}

-- what a name and the names of arguments choose, or the first reason why they choose nothing
abbrev pub chosen_by : PlainProblem → List ℕ → List (List ℕ) → Result PlainChosen InstanceFault
chosen_by p name names = do
  schema ← named p name
  objects ← bound p schema.1.parameters names
  lasting ← ok_or (duration_of p.values objects schema.1.timing) NoDuration
  Ok (chosen_under (below p) schema.0 schema.1 objects lasting)
