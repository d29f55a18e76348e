-- Phases of reading a problem, one after the other.
use Rattle.std.proofs.Common.{◌≡◌, ℕ, List, [], ◌∷◌, ◌++◌, Option, Some, None, Result, Ok, Err, map, sym, ap, ◌∙◌, refl, subst}
use Rattle.stp_text.specs.Tree.{Tree, Trees}
use Rattle.stp_refusal.specs.declared.offence.Offence.{Offence}
use Rattle.stp_refusal.specs.declared.code.Code.{Code}
use Rattle.stp_refusal.specs.declared.phase.ReadFault.{ReadFault}
use Rattle.stp_refusal.specs.declared.phase.ReadFault.TheVariants.{Refused}
use Rattle.stp_refusal.specs.First.{first_of}
use Rattle.stp_refusal.specs.Read.{Read, IsRead}
use Rattle.stp_refusal.specs.Phases.{chosen, ended, or_else, refusal_of}
use Rattle.stp_domain_parts.specs.Problem.{Problem, problem_read}
use Rattle.stp_schema.specs.declared.rows.ObjectRow.{ObjectRow}
use Rattle.stp_schema.specs.declared.domain.Domain.{Domain}
use Rattle.stp_schema.specs.Rows.{Thing, thing_of, type_names_of}
use Rattle.stp_schema.specs.Known.{known}
use Rattle.stp_schema.specs.Formula.{Formula}
use Rattle.stp_schema.specs.Timed.{PlainTimedFact}
use Rattle.stp_schema.specs.Views.{PlainDomain, PlainProblem, domain_of}
use Rattle.stp_condition.specs.Conditions.{condition_read}
use Rattle.stp_problem.specs.Objects.{objects_read}
use Rattle.stp_problem.specs.Facts.{State}
use Rattle.stp_problem.specs.TimedItems.{PlainTimedItem}
use Rattle.stp_problem.specs.Events.{events_of, events_wrong}
use Rattle.stp_problem.specs.Sizes.{size_of}
use Rattle.stp_refusal.specs.Phases.{unless_refused}
use Rattle.stp_problem.specs.Reading.{known_with, init_read, sizes_wrong, problem_or_refusal}

-- a phase that ended well found nothing
pub ended_well : (f : Option Offence) → ended f ≡ Ok tt → f ≡ None
ended_well None e = cc
ended_well (Some o) e = cc

-- the phases of two lists, one after the other
or_else_joined : (f g h : Option Offence) → or_else f (or_else g h) ≡ or_else (or_else f g) h
or_else_joined None g h = refl
or_else_joined (Some o) g h = refl

pub chosen_joined : (ps qs : List (List Offence)) → chosen (ps ++ qs) ≡ or_else (chosen ps) (chosen qs)
chosen_joined [] qs = refl
chosen_joined (os ∷ ps) qs = ap (or_else (first_of os)) (chosen_joined ps qs) ∙ or_else_joined (first_of os) (chosen ps) (chosen qs)

-- where a phase ends well, the others decide
module _ {A B : Type 0} (made : A → B) (rest : A → List (List Offence)) (r : Read A) (f : Option Offence) (a : A) (h : IsRead None f a r) where
  goes_on : ended f ≡ Ok tt → unless_refused (made r.value) (chosen (r.offences ∷ rest r.value)) ≡ unless_refused (made a) (chosen (rest a))
  goes_on e = ap (λ g. unless_refused (made r.value) (or_else g (chosen (rest r.value)))) (sym h.first ∙ ended_well f e) ∙ ap (λ x. unless_refused (made x) (chosen (rest x))) (sym h.same)

-- what the items of `:init` say
abbrev Said : Type 0
Said = State × List PlainTimedItem

-- what a phase refuses, whatever the others find
stop_by : {A : Type 0} (value : A) (f g : Option Offence) (code : Code) (at : ℕ) → ended f ≡ Err (Refused code at) → unless_refused value (or_else f g) ≡ Err (Refused code at)
stop_by value None g code at e = cc
stop_by value (Some o) g code at e = cc

module _ {A B : Type 0} (made : A → B) (rest : A → List (List Offence)) (r : Read A) (f : Option Offence) (a : A) (h : IsRead None f a r) where
  stops : (code : Code) (at : ℕ) → ended f ≡ Err (Refused code at) → unless_refused (made r.value) (chosen (r.offences ∷ rest r.value)) ≡ Err (Refused code at)
  stops code at e = ap (λ g. unless_refused (made r.value) (or_else g (chosen (rest r.value)))) (sym h.first) ∙ stop_by (made r.value) f (chosen (rest r.value)) code at e

-- ---- what is made of what some phases have read, from the last phase to the first

module _ (d : PlainDomain) where
  abbrev problem_with : List Thing → Said → Formula → PlainProblem
  problem_with objects said goal = record { domain = d; objects = objects; initial = said.0.initial; values = said.0.values; timed = events_of said.1; goal = goal }

  abbrev sizes_left : Problem → List Thing → Said → Formula → List (List Offence)
  sizes_left parts objects said goal = sizes_wrong (size_of d.parents objects) parts.goal_at goal d.schemas ++ events_wrong said.1

  abbrev goal_of : Problem → List Thing → Read Formula
  goal_of parts objects = condition_read (known_with d objects) parts.goal []

  abbrev goal_left : Problem → List Thing → Said → List (List Offence)
  goal_left parts objects said = (goal_of parts objects).offences ∷ sizes_left parts objects said (goal_of parts objects).value

  abbrev facts_of : Problem → List Thing → Read Said
  facts_of parts objects = init_read (known_with d objects) parts.init

  abbrev facts_left : Problem → List Thing → List (List Offence)
  facts_left parts objects = (facts_of parts objects).offences ∷ goal_left parts objects (facts_of parts objects).value

  abbrev objects_of : Problem → Read (List Thing)
  objects_of parts = objects_read d.types d.constants parts.objects

  abbrev objects_left : Problem → List (List Offence)
  objects_left parts = (objects_of parts).offences ∷ facts_left parts (objects_of parts).value

  abbrev with_facts : Problem → List Thing → Said → PlainProblem
  with_facts parts objects said = problem_with objects said (goal_of parts objects).value

  abbrev with_things : Problem → List Thing → PlainProblem
  with_things parts objects = with_facts parts objects (facts_of parts objects).value

  abbrev with_parts : Problem → PlainProblem
  with_parts parts = with_things parts (objects_of parts).value

  -- ---- what the phases from one on answer

  abbrev from_sizes : Problem → List Thing → Said → Formula → Result PlainProblem ReadFault
  from_sizes parts objects said goal = unless_refused (problem_with objects said goal) (chosen (sizes_left parts objects said goal))

  abbrev from_goal : Problem → List Thing → Said → Result PlainProblem ReadFault
  from_goal parts objects said = unless_refused (with_facts parts objects said) (chosen (goal_left parts objects said))

  abbrev from_facts : Problem → List Thing → Result PlainProblem ReadFault
  from_facts parts objects = unless_refused (with_things parts objects) (chosen (facts_left parts objects))

  abbrev from_objects : Problem → Result PlainProblem ReadFault
  from_objects parts = unless_refused (with_parts parts) (chosen (objects_left parts))

-- ---- the phases of reading for a domain

-- what the readers know is what the domain declares
same_known : (d : Domain) (rows : List ObjectRow) → known d.declared rows ≡ known_with (domain_of d) (map thing_of rows)
same_known d rows = rw (d.same_types, d.same_parents, d.same_predicates, d.same_functions) refl

-- the objects that are read for the types of a domain
pub objects_moved : (d : Domain) (f : Option Offence) (objects : List Thing) (items : Trees) → IsRead None f objects (objects_read d.declared.type_names (map thing_of d.constants.now) items) → IsRead None f objects (objects_read (type_names_of d.types.now) (map thing_of d.constants.now) items)
objects_moved d f objects items h = subst (λ types. IsRead None f objects (objects_read types (map thing_of d.constants.now) items)) (d.declared.same_types ∙ sym d.same_types) h

module _ (d : Domain) (t : Tree) (f1 : Option Offence) (parts : Problem) (h1 : IsRead None f1 parts (problem_read d.name.now t)) where
  abbrev plain : PlainDomain
  plain = domain_of d

  module _ (e1 : ended f1 ≡ Ok tt) (f2 : Option Offence) (rows : List ObjectRow) (h2 : IsRead None f2 (map thing_of rows) (objects_read d.declared.type_names (map thing_of d.constants.now) parts.objects)) where
    abbrev objects : List Thing
    objects = map thing_of rows

    second : IsRead None f2 objects (objects_of plain parts)
    second = objects_moved d f2 objects parts.objects h2

    to_objects : problem_or_refusal plain t ≡ from_objects plain parts
    to_objects = goes_on (with_parts plain) (objects_left plain) (problem_read d.name.now t) f1 parts h1 e1

    module _ (e2 : ended f2 ≡ Ok tt) (f3 : Option Offence) (said : Said) (h3 : IsRead None f3 said (init_read (known d.declared rows) parts.init)) where
      third : IsRead None f3 said (facts_of plain parts objects)
      third = subst (λ k. IsRead None f3 said (init_read k parts.init)) (same_known d rows) h3

      to_facts : problem_or_refusal plain t ≡ from_facts plain parts objects
      to_facts = to_objects ∙ goes_on (with_things plain parts) (facts_left plain parts) (objects_of plain parts) f2 objects second e2

      pub refused_init : (code : Code) (at : ℕ) → ended f3 ≡ Err (Refused code at) → problem_or_refusal plain t ≡ Err (Refused code at)
      refused_init code at e = to_facts ∙ stops (with_facts plain parts objects) (goal_left plain parts objects) (facts_of plain parts objects) f3 said third code at e

      module _ (e3 : ended f3 ≡ Ok tt) (f4 : Option Offence) (goal : Formula) (h4 : IsRead None f4 goal (condition_read (known d.declared rows) parts.goal [])) where
        fourth : IsRead None f4 goal (goal_of plain parts objects)
        fourth = subst (λ k. IsRead None f4 goal (condition_read k parts.goal [])) (same_known d rows) h4

        to_goal : problem_or_refusal plain t ≡ from_goal plain parts objects said
        to_goal = to_facts ∙ goes_on (with_facts plain parts objects) (goal_left plain parts objects) (facts_of plain parts objects) f3 said third e3

        pub refused_goal : (code : Code) (at : ℕ) → ended f4 ≡ Err (Refused code at) → problem_or_refusal plain t ≡ Err (Refused code at)
        refused_goal code at e = to_goal ∙ stops (problem_with plain objects said) (sizes_left plain parts objects said) (goal_of plain parts objects) f4 goal fourth code at e

        module _ (e4 : ended f4 ≡ Ok tt) where
          abbrev sizes : List (List Offence)
          sizes = sizes_wrong (size_of plain.parents objects) parts.goal_at goal plain.schemas

          to_sizes : problem_or_refusal plain t ≡ unless_refused (problem_with plain objects said goal) (or_else (chosen sizes) (chosen (events_wrong said.1)))
          to_sizes =
              to_goal
              ∙ goes_on (problem_with plain objects said) (sizes_left plain parts objects said) (goal_of plain parts objects) f4 goal fourth e4
              ∙ ap (unless_refused (problem_with plain objects said goal)) (chosen_joined sizes (events_wrong said.1))

          pub refused_sizes : (o : Offence) → chosen sizes ≡ Some o → problem_or_refusal plain t ≡ Err (refusal_of o)
          refused_sizes o e = to_sizes ∙ ap (λ f. unless_refused (problem_with plain objects said goal) (or_else f (chosen (events_wrong said.1)))) e

          module _ (none : chosen sizes ≡ None) where
            to_events : problem_or_refusal plain t ≡ unless_refused (problem_with plain objects said goal) (chosen (events_wrong said.1))
            to_events = to_sizes ∙ ap (λ f. unless_refused (problem_with plain objects said goal) (or_else f (chosen (events_wrong said.1)))) none

            pub refused_events : (o : Offence) → chosen (events_wrong said.1) ≡ Some o → problem_or_refusal plain t ≡ Err (refusal_of o)
            refused_events o e = to_events ∙ ap (unless_refused (problem_with plain objects said goal)) e

            pub accepted : (events : List PlainTimedFact) → events ≡ events_of said.1 → chosen (events_wrong said.1) ≡ None → problem_or_refusal plain t ≡ Ok (record { domain = plain; objects = objects; initial = said.0.initial; values = said.0.values; timed = events; goal = goal })
            accepted events same e = to_events ∙ ap (unless_refused (problem_with plain objects said goal)) e ∙ ap (λ es. (let r : Result PlainProblem ReadFault = Ok (record { domain = plain; objects = objects; initial = said.0.initial; values = said.0.values; timed = es; goal = goal }) in r)) (sym same)
