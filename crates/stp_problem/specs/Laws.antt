-- What is read of a problem's tree without a refusal.
use Rattle.std.specs.Prelude.{◌≡◌, [], Ok, length, take}
use Rattle.stp_text.specs.Tree.{Tree}
use Rattle.stp_schema.specs.Views.{PlainDomain, PlainProblem}
use Rattle.stp_condition.specs.TypedConditions.{IsTyped}
use Rattle.stp_domain_tables.specs.Objects.{HasLawfulConstants}
use Rattle.stp_problem.specs.Typed.{AreFactsTyped, AreValuesTyped, AreEventsTyped}
use Rattle.stp_problem.specs.Reading.{known_with, problem_or_refusal}

-- A problem of this domain, whose objects begin with the constants. Its facts, its values, its events and its goal are made of what is declared, and fit it.
pub record IsTypedProblem (d : PlainDomain) (p : PlainProblem) : Type 0 where
  pub domain : p.domain ≡ d
  pub constants : take (length d.constants) p.objects ≡ d.constants
  pub facts : AreFactsTyped (known_with d p.objects) p.initial
  pub values : AreValuesTyped (known_with d p.objects) p.values
  pub events : AreEventsTyped (known_with d p.objects) p.timed
  pub goal : IsTyped (known_with d p.objects) [] p.goal

-- for a domain whose constants are lawful, as those of each domain that is read are
abbrev pub ReadProblemsAreTyped : Type 0
ReadProblemsAreTyped = (u : Tree) (d : PlainDomain) (p : PlainProblem) → HasLawfulConstants d → problem_or_refusal d u ≡ Ok p → IsTypedProblem d p
