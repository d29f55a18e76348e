-- The problem of a tree, or its one refusal.
use Rattle.std.specs.Prelude.{ℕ, if◌then◌else◌, List, [], ◌∷◌, ◌++◌, Result}
use Rattle.stp_text.specs.Tree.{Tree, Trees}
use Rattle.stp_refusal.specs.declared.code.Code.TheVariants.{P13, P14}
use Rattle.stp_refusal.specs.declared.offence.Offence.{Offence}
use Rattle.stp_refusal.specs.declared.phase.ReadFault.{ReadFault}
use Rattle.stp_refusal.specs.Read.{Read, given, offence_at, pair_read}
use Rattle.stp_refusal.specs.Phases.{chosen}
use Rattle.stp_domain_parts.specs.Problem.{Problem, problem_read}
use Rattle.stp_schema.specs.Rows.{Thing}
use Rattle.stp_schema.specs.Known.{Known}
use Rattle.stp_schema.specs.Formula.{Formula}
use Rattle.stp_schema.specs.Schemas.{PlainSchema}
use Rattle.stp_schema.specs.Views.{PlainDomain, PlainProblem}
use Rattle.stp_condition.specs.Conditions.{condition_read}
use Rattle.stp_problem.specs.Objects.{objects_read}
use Rattle.stp_problem.specs.Facts.{State, facts_read}
use Rattle.stp_problem.specs.TimedItems.{PlainTimedItem, timed_read}
use Rattle.stp_problem.specs.Events.{events_of, events_wrong}
use Rattle.stp_problem.specs.Sizes.{size_of}
use Rattle.stp_problem.specs.Nodes.{nodes, are_too_many, first_too_large}
use Rattle.stp_refusal.specs.Phases.{unless_refused}

-- what the items of `:init` say: facts and values, and events of the environment
abbrev pub init_read : Known → Trees → Read (State × List PlainTimedItem)
init_read k items = pair_read (λ facts timed. (facts, timed)) (facts_read k items) (timed_read k items)

-- what a domain declares, and these objects
abbrev pub known_with : PlainDomain → List Thing → Known
known_with d objects = record { types = d.types; parents = d.parents; predicates = d.predicates; functions = d.functions; objects = objects }

-- a goal that has more expanded nodes than are accepted, at a place
abbrev pub goal_wrong : (ℕ → ℕ) → ℕ → Formula → List Offence
goal_wrong size at goal = if are_too_many (nodes size goal) then offence_at at P13 else []

-- the first action whose conditions have more expanded nodes than are accepted, at its number
abbrev pub actions_wrong : (ℕ → ℕ) → List PlainSchema → List Offence
actions_wrong size schemas = given [] (λ number. offence_at number P14) (first_too_large size schemas)

-- two phases: what is wrong with the goal of a section at a place, and then with actions
abbrev pub sizes_wrong : (ℕ → ℕ) → ℕ → Formula → List PlainSchema → List (List Offence)
sizes_wrong size at goal schemas = goal_wrong size at goal ∷ actions_wrong size schemas ∷ []

-- ---- what each phase reads, of what the phases before it have read

abbrev pub parts_phase : PlainDomain → Tree → Read Problem
parts_phase d t = problem_read d.name t

abbrev pub objects_phase : PlainDomain → Tree → Read (List Thing)
objects_phase d t = objects_read d.types d.constants (parts_phase d t).value.objects

abbrev pub known_in : PlainDomain → Tree → Known
known_in d t = known_with d (objects_phase d t).value

abbrev pub facts_phase : PlainDomain → Tree → Read (State × List PlainTimedItem)
facts_phase d t = init_read (known_in d t) (parts_phase d t).value.init

abbrev pub goal_phase : PlainDomain → Tree → Read Formula
goal_phase d t = condition_read (known_in d t) (parts_phase d t).value.goal []

-- how many objects a type has
abbrev pub size_in : PlainDomain → Tree → ℕ → ℕ
size_in d t = size_of d.parents (objects_phase d t).value

-- all offences, by phase
abbrev pub phases : PlainDomain → Tree → List (List Offence)
phases d t =
    (parts_phase d t).offences ∷ (objects_phase d t).offences ∷ (facts_phase d t).offences ∷ (goal_phase d t).offences
    ∷ (sizes_wrong (size_in d t) (parts_phase d t).value.goal_at (goal_phase d t).value d.schemas ++ events_wrong (facts_phase d t).value.1)

-- the problem, where there is no offence
abbrev pub problem_of_tree : PlainDomain → Tree → PlainProblem
problem_of_tree d t = record {
  domain = d;
  objects = (objects_phase d t).value;
  initial = (facts_phase d t).value.0.initial;
  values = (facts_phase d t).value.0.values;
  timed = events_of (facts_phase d t).value.1;
  goal = (goal_phase d t).value;
}

-- The problem of a tree, for a domain; or, of the earliest phase with an offence, the one of the least place, and there the one of the least code.
abbrev pub problem_or_refusal : PlainDomain → Tree → Result PlainProblem ReadFault
problem_or_refusal d t = unless_refused (problem_of_tree d t) (chosen (phases d t))
