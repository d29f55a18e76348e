-- What is read of a problem's tree.
use Rattle.std.proofs.Common.{◌≡◌, List, [], ◌∷◌, ◌++◌, Ok, None, length, take, refl, ap, ◌∙◌, subst}
use Rattle.stp_text.specs.Tree.{Tree}
use Rattle.stp_refusal.specs.declared.code.Code.TheVariants.{P06}
use Rattle.stp_refusal.specs.declared.offence.Offence.{Offence}
use Rattle.stp_refusal.specs.Phases.{chosen}
use Rattle.stp_domain_parts.specs.Entries.{entries_of}
use Rattle.stp_schema.specs.Views.{PlainDomain, PlainProblem}
use Rattle.stp_condition.proofs.TypedConditions.{condition_typed}
use Rattle.stp_domain_tables.specs.Objects.{HasLawfulConstants, with_objects}
use Rattle.stp_problem.specs.Objects.{declared_objects}
use Rattle.stp_problem.specs.Facts.{nothing, facts_read}
use Rattle.stp_problem.specs.TimedItems.{timed_read}
use Rattle.stp_problem.specs.Events.{events_wrong}
use Rattle.stp_refusal.proofs.Saying.{none_first, none_rest}
use Rattle.stp_problem.proofs.TypedEvents.{timed_typed}
use Rattle.stp_problem.proofs.Typed.{items_typed}
use Rattle.stp_problem.specs.Reading.{sizes_wrong, parts_phase, objects_phase, facts_phase, goal_phase, known_in, size_in, phases, problem_of_tree, problem_or_refusal}
use Rattle.stp_problem.specs.Laws.{IsTypedProblem}
use Rattle.stp_problem.proofs.Accepting.{accepted_value, accepted_none, first_none, rest_none}
use Rattle.stp_problem.proofs.Constants.{objects_begin}

-- ---- problems

module _ (d : PlainDomain) (u : Tree) (none : chosen (phases d u) ≡ None) where
  abbrev sizes_left : List (List Offence)
  sizes_left = sizes_wrong (size_in d u) (parts_phase d u).value.goal_at (goal_phase d u).value d.schemas ++ events_wrong (facts_phase d u).value.1

  abbrev from_goal : List (List Offence)
  from_goal = (goal_phase d u).offences ∷ sizes_left

  abbrev from_facts : List (List Offence)
  from_facts = (facts_phase d u).offences ∷ from_goal

  abbrev from_objects : List (List Offence)
  from_objects = (objects_phase d u).offences ∷ from_facts

  facts_left : chosen from_facts ≡ None
  facts_left = rest_none (objects_phase d u).offences from_facts (rest_none (parts_phase d u).offences from_objects none)

  init_none : (facts_phase d u).offences ≡ []
  init_none = first_none (facts_phase d u).offences from_goal facts_left

  facts_none : (facts_read (known_in d u) (parts_phase d u).value.init).offences ≡ []
  facts_none = none_first (facts_read (known_in d u) (parts_phase d u).value.init).offences (timed_read (known_in d u) (parts_phase d u).value.init).offences init_none

  timed_none : (timed_read (known_in d u) (parts_phase d u).value.init).offences ≡ []
  timed_none = none_rest (facts_read (known_in d u) (parts_phase d u).value.init).offences (timed_read (known_in d u) (parts_phase d u).value.init).offences init_none

  goal_none : (goal_phase d u).offences ≡ []
  goal_none = first_none (goal_phase d u).offences sizes_left (rest_none (facts_phase d u).offences from_goal facts_left)

  objects_lead : with_objects [] d.constants ≡ d.constants → take (length d.constants) (objects_phase d u).value ≡ d.constants
  objects_lead once =
      let more = declared_objects d.types (entries_of P06 [] None (parts_phase d u).value.objects).value in
      ap (λ constants. take (length d.constants) (with_objects constants more)) once ∙ objects_begin d.constants more

  tree_typed : HasLawfulConstants d → IsTypedProblem d (problem_of_tree d u)
  tree_typed h =
      let state = items_typed (known_in d u) nothing (parts_phase d u).value.init (record { facts = tt; values = tt }) facts_none in
      record {
        domain = refl;
        constants = objects_lead h.once;
        facts = state.facts;
        values = state.values;
        events = timed_typed (known_in d u) (parts_phase d u).value.init timed_none;
        goal = condition_typed (known_in d u) h.types (parts_phase d u).value.goal [] goal_none;
      }

pub problem_typed : (u : Tree) (d : PlainDomain) (p : PlainProblem) → HasLawfulConstants d → problem_or_refusal d u ≡ Ok p → IsTypedProblem d p
problem_typed u d p h i =
    subst (IsTypedProblem d) (accepted_value (problem_of_tree d u) (chosen (phases d u)) p i)
    (tree_typed d u (accepted_none (problem_of_tree d u) (chosen (phases d u)) p i) h)
