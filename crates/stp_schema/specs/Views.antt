-- Domains and problems without pointers.
use Rattle.std.specs.Prelude.{ℕ, List, map}
use Rattle.stp_frac.specs.Fractions.{Fraction, value_of}
use Rattle.stp_schema.specs.declared.domain.Domain.{Domain}
use Rattle.stp_schema.specs.declared.problem.Fact.{Fact}
use Rattle.stp_schema.specs.declared.problem.Given.{Given}
use Rattle.stp_schema.specs.declared.problem.Problem.{Problem}
use Rattle.stp_schema.specs.Rows.{Shape, Thing, type_names_of, parents_of, shape_of, thing_of}
use Rattle.stp_schema.specs.Formula.{Formula, formula}
use Rattle.stp_schema.specs.Schemas.{PlainSchema, schema_of}
use Rattle.stp_schema.specs.Timed.{PlainTimedFact, timed_facts_of}

pub record PlainDomain : Type 0 where
  pub name : List ℕ
  pub types : List (List ℕ)
  pub parents : List ℕ
  pub predicates : List Shape
  pub functions : List Shape
  pub constants : List Thing
  pub schemas : List PlainSchema

abbrev pub domain_of : Domain → PlainDomain
domain_of d = record {
  name = d.name.now;
  types = type_names_of d.types.now;
  parents = parents_of d.types.now;
  predicates = map shape_of d.predicates.now;
  functions = map shape_of d.functions.now;
  constants = map thing_of d.constants.now;
  schemas = map schema_of d.schemas.now;
}

-- an atom that is true at first
pub record PlainFact : Type 0 where
  pub predicate : ℕ
  pub args : List ℕ

-- a function's value at some objects
pub record PlainGiven : Type 0 where
  pub function : ℕ
  pub args : List ℕ
  pub value : Fraction

abbrev pub fact_of : Fact → PlainFact
fact_of f = record { predicate = f.predicate; args = map (λ o. o.0) f.args.now }

abbrev pub given_of : Given → PlainGiven
given_of g = record { function = g.function; args = map (λ o. o.0) g.args.now; value = value_of g.value }

pub record PlainProblem : Type 0 where
  pub domain : PlainDomain
  pub objects : List Thing
  pub initial : List PlainFact
  pub values : List PlainGiven
  pub timed : List PlainTimedFact
  pub goal : Formula

abbrev pub problem_of : Problem → PlainProblem
problem_of p = record {
  domain = domain_of p.domain;
  objects = map thing_of p.objects.now;
  initial = map fact_of p.initial.now;
  values = map given_of p.values.now;
  timed = timed_facts_of p.timed.now;
  goal = formula p.goal.now;
}
