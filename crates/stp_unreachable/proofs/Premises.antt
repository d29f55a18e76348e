-- What the law of certificates for plans asks of problems is so of those that are read.
use Rattle.std.proofs.Common.{◌≡◌, nat_lt, true, List, [], ◌∷◌, ◌&&◌, Option, Some, None, Ok, refl, subst}
use Rattle.std.specs.Prelude.{All}
use Rattle.std.specs.List.{list_all}
use Rattle.std.proofs.lemmas.List.Elements.{All-cons, All-nil}
use Rattle.stp_refusal.specs.declared.offence.Offence.{Offence}
use Rattle.stp_refusal.specs.Phases.{chosen, unless_refused}
use Rattle.stp_frac.proofs.Divisors.{both_true}
use Rattle.stp_schema.specs.declared.timed.TimedFact.{TimedFact}
use Rattle.stp_schema.specs.Formula.{nothing}
use Rattle.stp_schema.specs.Known.{Known}
use Rattle.stp_schema.specs.Schemas.{Instant, Controlled, Uncertain}
use Rattle.stp_schema.specs.Timed.{timed_fact_of, timed_facts_of}
use Rattle.stp_schema.specs.Views.{PlainDomain, PlainProblem}
use Rattle.stp_schema.specs.Expression.{Expression}
use Rattle.stp_domain_parts.specs.Actions as parts
use Rattle.stp_domain_parts.specs.Actions.{Action}
use Rattle.stp_domain_tables.specs.Tables.{ActionShape}
use Rattle.stp_condition.specs.Scope.{Var}
use Rattle.stp_condition.specs.Whole.{scope_with}
use Rattle.stp_domain.specs.Bodies.{PlainBody, body_by}
use Rattle.stp_domain.specs.Schemas.{schema_read, schemas_read}
use Rattle.stp_domain.specs.Reading as domains
use Rattle.stp_problem.specs.Reading as problems
use Rattle.stp_exec.specs.GridLaws.{is_proper_event}
use Rattle.stp_exec.proofs.TimedSteps.{event_positive}
use Rattle.stp_unreachable.specs.PlansOf.{HasPlainEnd}
use Rattle.stp_unreachable.specs.Premises.{EventsAreProper, ReadActionsArePlain}
use Rattle.stp_unreachable.proofs.NoRuns.{above_test}

-- ---- simple actions

-- what takes no time has a condition at its start alone
abbrev IsPlainBody : PlainBody → Type 0
IsPlainBody b = b.timing ≡ Instant → (b.over_all ≡ nothing) × (b.end_cond ≡ nothing)

not_chosen : (low high : Expression) → Controlled low high ≡ Instant → ⊥
not_chosen low high e = cc

not_suffered : (low high : Expression) → Uncertain low high ≡ Instant → ⊥
not_suffered low high e = cc

body_plain : (timing : parts.Timing) (k : Known) (scope : List Var) (a : Action) → IsPlainBody (body_by timing k scope a).value
body_plain parts.Instant k scope a = λ e. (refl, refl)
body_plain (parts.Controlled duration) k scope a = λ e. absurd (not_chosen _ _ e)
body_plain (parts.Uncertain duration) k scope a = λ e. absurd (not_suffered _ _ e)

schemas_plain : (k : Known) (actions : List ActionShape) → All HasPlainEnd (schemas_read k actions).value
schemas_plain k [] = All-nil HasPlainEnd
schemas_plain k (a ∷ rest) = All-cons HasPlainEnd (schema_read k a).value (schemas_read k rest).value (body_plain a.action.timing k (scope_with a.names a.kinds) a.action) (schemas_plain k rest)

-- what is read without a refusal is what the text says
read_is : {A : Type 0} (value x : A) (o : Option Offence) → unless_refused value o ≡ Ok x → value ≡ x
read_is value x None e = cc
read_is value x (Some o) e = cc

pub read_actions_are_plain : ReadActionsArePlain
read_actions_are_plain domain d problem p e f =
    let of : problems.problem_of_tree d problem ≡ p = read_is (problems.problem_of_tree d problem) p (chosen (problems.phases d problem)) f in
    let is : domains.domain_of_tree domain ≡ d = read_is (domains.domain_of_tree domain) d (chosen (domains.phases domain)) e in
    let tables = (domains.tables_phase domain).value in
    subst (λ (p : PlainProblem). All HasPlainEnd p.domain.schemas) of
    (subst (λ (d : PlainDomain). All HasPlainEnd d.schemas) is (schemas_plain tables.known tables.actions))

-- ---- events

event_proper : (e : TimedFact) → is_proper_event (timed_fact_of e) ≡ true
event_proper e =
    let above = event_positive e in
    both_true (nat_lt 0 (timed_fact_of e).low.bottom) (nat_lt 0 (timed_fact_of e).high.bottom && true) (above_test (timed_fact_of e).low.bottom above.0)
    (both_true (nat_lt 0 (timed_fact_of e).high.bottom) true (above_test (timed_fact_of e).high.bottom above.1.0) refl)

all_proper : (es : List TimedFact) → list_all is_proper_event (timed_facts_of es) ≡ true
all_proper [] = refl
all_proper (e ∷ es) = both_true (is_proper_event (timed_fact_of e)) (list_all is_proper_event (timed_facts_of es)) (event_proper e) (all_proper es)

pub events_are_proper : EventsAreProper
events_are_proper p = all_proper p.timed.now
