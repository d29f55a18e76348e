-- Events of the environment without pointers, and what each problem keeps of them.
use Rattle.std.specs.Prelude.{◌≡◌, ℕ, ◌*◌, ◌≤◌, unsigned_abs, Bool, true, false, not, ◌&&◌, ◌||◌, List, [], ◌∷◌, map, filter, length, All}
use Rattle.std.specs.List.{list_all}
use Rattle.stp_base.specs.declared.limits.TheConstants.{MAX_TIMED, MAX_EVENTS, MAX_MOMENT}
use Rattle.stp_frac.specs.Fractions.{Fraction, value_of, is_below_zero, is_less, is_at_most}
use Rattle.stp_schema.specs.declared.timed.TimedLiteral.{TimedLiteral}
use Rattle.stp_schema.specs.declared.timed.TimedFact.{TimedFact}

-- an atom that an event adds or deletes
pub record PlainLiteral : Type 0 where
  pub adds : Bool
  pub predicate : ℕ
  pub args : List ℕ

-- an event, and the least and the greatest time at which it comes
pub record PlainTimedFact : Type 0 where
  pub low : Fraction
  pub high : Fraction
  pub literals : List PlainLiteral

abbrev pub literal_of : TimedLiteral → PlainLiteral
literal_of l = record { adds = l.adds; predicate = l.predicate; args = map (λ o. o.0) l.args.now }

abbrev pub timed_fact_of : TimedFact → PlainTimedFact
timed_fact_of e = record { low = value_of e.low; high = value_of e.high; literals = map literal_of e.literals.now }

abbrev pub timed_facts_of : List TimedFact → List PlainTimedFact
timed_facts_of es = map timed_fact_of es

-- whether the environment chooses the time of an event
abbrev pub is_chosen : PlainTimedFact → Bool
is_chosen e = is_less e.low e.high

abbrev pub is_fixed : PlainTimedFact → Bool
is_fixed e = not (is_chosen e)

-- events at fixed times come first, each later than those before it
abbrev pub comes_before : PlainTimedFact → PlainTimedFact → Bool
comes_before e f = is_chosen f || (is_fixed e && is_less e.high f.high)

-- whether each event may stand before all that stand after it
abbrev pub are_in_order : List PlainTimedFact → Bool
are_in_order [] = true
are_in_order (e ∷ es) = list_all (comes_before e) es && are_in_order es

-- from a time that is not below 0 up to one that is not too late
pub record IsTimedFact (e : PlainTimedFact) : Type 0 where
  pub early : is_below_zero e.low.top ≡ false
  pub up : is_at_most e.low e.high ≡ true
  pub late : unsigned_abs e.high.top ≤ MAX_MOMENT * e.high.bottom

-- The events of a problem: those at fixed times by time, no two at one time, and then the others. There are few of each.
pub record AreTimedFacts (es : List PlainTimedFact) : Type 0 where
  pub each : All IsTimedFact es
  pub in_order : are_in_order es ≡ true
  pub few_fixed : length (filter is_fixed es) ≤ MAX_TIMED
  pub few_chosen : length (filter is_chosen es) ≤ MAX_EVENTS
