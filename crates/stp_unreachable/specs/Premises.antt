-- What the law of certificates for plans asks of problems is so of those that are read.
use Rattle.std.specs.Prelude.{◌≡◌, Ok}
use Rattle.stp_text.specs.Tree.{Tree}
use Rattle.stp_schema.specs.declared.problem.Problem.{Problem as ArenaProblem}
use Rattle.stp_schema.specs.Views.{PlainDomain, PlainProblem, problem_of}
use Rattle.stp_domain.specs.Reading.{domain_or_refusal}
use Rattle.stp_problem.specs.Reading.{problem_or_refusal}
use Rattle.stp_unreachable.specs.PlansOf.{HasPlainSimpleActions, HasProperEvents}

-- in a problem that is read, of a domain that is read, what takes no time has a condition at its start alone
abbrev pub ReadActionsArePlain : Type 0
ReadActionsArePlain = (domain : Tree) (d : PlainDomain) (problem : Tree) (p : PlainProblem) → domain_or_refusal domain ≡ Ok d → problem_or_refusal d problem ≡ Ok p → HasPlainSimpleActions p

-- the times of the events of a problem in an arena have denominators from 1 on
abbrev pub EventsAreProper : Type 0
EventsAreProper = (p : ArenaProblem) → HasProperEvents (problem_of p)
