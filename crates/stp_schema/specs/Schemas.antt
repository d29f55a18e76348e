-- Actions over their parameters without pointers.
use Rattle.std.specs.Prelude.{ℕ, Bool, List, map}
use Rattle.stp_schema.specs.declared.domain.Timing.{Timing}
use Rattle.stp_schema.specs.declared.domain.Timing.TheVariants as timings
use Rattle.stp_schema.specs.declared.domain.Schema.{Schema}
use Rattle.stp_schema.specs.Formula.{Formula, formula, PlainAtom, atoms_of}
use Rattle.stp_schema.specs.Expression.{Expression, expression}

-- how long an action lasts: at once, or between two bounds
pub data PlainTiming : Type 0 where
  Instant : PlainTiming
  Controlled : (low high : Expression) → PlainTiming
  Uncertain : (low high : Expression) → PlainTiming

abbrev pub timing_of : Timing → PlainTiming
timing_of timings.Instant = Instant
timing_of (timings.Controlled low high) = Controlled (expression low.now) (expression high.now)
timing_of (timings.Uncertain low high) = Uncertain (expression low.now) (expression high.now)

pub record PlainSchema : Type 0 where
  pub name : List ℕ
  pub parameters : List ℕ
  pub timing : PlainTiming
  -- whether a condition stands in the text
  pub has_condition : Bool
  pub start_cond : Formula
  pub over_all : Formula
  pub end_cond : Formula
  pub start_adds : List PlainAtom
  pub start_dels : List PlainAtom
  pub end_adds : List PlainAtom
  pub end_dels : List PlainAtom

abbrev pub schema_of : Schema → PlainSchema
schema_of s = record {
  name = s.name.now;
  parameters = s.parameters.now;
  timing = timing_of s.timing;
  has_condition = s.has_condition;
  start_cond = formula s.start_cond.now;
  over_all = formula s.over_all.now;
  end_cond = formula s.end_cond.now;
  start_adds = atoms_of s.start_adds.now;
  start_dels = atoms_of s.start_dels.now;
  end_adds = atoms_of s.end_adds.now;
  end_dels = atoms_of s.end_dels.now;
}

abbrev pub schema_names_of : List Schema → List (List ℕ)
schema_names_of schemas = map (λ s. s.name.now) schemas
