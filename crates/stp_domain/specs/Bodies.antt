-- What an action says besides its name and its parameters.
use Rattle.std.specs.Prelude.{List, Option, Some, None}
use Rattle.stp_text.specs.Tree.{Tree}
use Rattle.stp_refusal.specs.Read.{Read, fine, map_read, pair_read}
use Rattle.stp_domain_parts.specs.Actions.{Action, Timing, Instant, Controlled, Uncertain}
use Rattle.stp_schema.specs.Known.{Known}
use Rattle.stp_schema.specs.Formula.{Formula, nothing}
use Rattle.stp_schema.specs.Schemas.{PlainTiming, Instant as AtOnce, Controlled as Chosen, Uncertain as Suffered}
use Rattle.stp_condition.specs.Scope.{Var}
use Rattle.stp_condition.specs.Conditions.{condition_read}
use Rattle.stp_condition.specs.TimedConditions.{TimedFormulas, no_parts, conjunctions, timed_condition_read}
use Rattle.stp_body.specs.Effects.{PlainEffects, no_effects, effect_read}
use Rattle.stp_body.specs.TimedEffects.{PlainTimedEffects, no_timed_effects, timed_effect_read}
use Rattle.stp_body.specs.Durations.{PlainBounds, duration_read}

-- how long it lasts, what it needs, and what it changes; a simple action has all of it at its start
pub record PlainBody : Type 0 where
  pub timing : PlainTiming
  pub start_cond : Formula
  pub over_all : Formula
  pub end_cond : Formula
  pub start : PlainEffects
  pub end : PlainEffects

-- what is read where it is there
abbrev pub optional : {A : Type 0} → A → (Tree → Read A) → Option Tree → Read A
optional missing read None = fine missing
optional missing read (Some t) = read t

abbrev pub simple_body : Formula → PlainEffects → PlainBody
simple_body condition effects = record { timing = AtOnce; start_cond = condition; over_all = nothing; end_cond = nothing; start = effects; end = no_effects }

abbrev pub needs : Known → List Var → Option Tree → Read Formula
needs k scope condition = optional nothing (λ t. condition_read k t scope) condition

abbrev pub simple_read : Known → List Var → Action → Read PlainBody
simple_read k scope a = pair_read simple_body (needs k scope a.condition) (optional no_effects (effect_read k scope) a.effect)

-- the conditions and the effects of a durative action
pub record PlainParts : Type 0 where
  pub conditions : TimedFormulas
  pub effects : PlainTimedEffects

abbrev pub parts_with : TimedFormulas → PlainTimedEffects → PlainParts
parts_with conditions effects = record { conditions = conditions; effects = effects }

abbrev pub parts_read : Known → List Var → Action → Read PlainParts
parts_read k scope a =
    pair_read parts_with
    (optional (conjunctions no_parts) (timed_condition_read k scope) a.condition)
    (optional no_timed_effects (timed_effect_read k scope) a.effect)

abbrev pub chosen_timing : PlainBounds → PlainTiming
chosen_timing b = Chosen b.low b.high

abbrev pub suffered_timing : PlainBounds → PlainTiming
suffered_timing b = Suffered b.low b.high

abbrev pub durative_body : PlainTiming → PlainParts → PlainBody
durative_body timing parts = record {
  timing = timing;
  start_cond = parts.conditions.start;
  over_all = parts.conditions.over_all;
  end_cond = parts.conditions.end;
  start = parts.effects.start;
  end = parts.effects.end;
}

abbrev pub durative_read : Known → List Var → (PlainBounds → PlainTiming) → Tree → Action → Read PlainBody
durative_read k scope timing duration a = pair_read durative_body (map_read timing (duration_read k scope duration)) (parts_read k scope a)

abbrev pub body_by : Timing → Known → List Var → Action → Read PlainBody
body_by Instant k scope a = simple_read k scope a
body_by (Controlled duration) k scope a = durative_read k scope chosen_timing duration a
body_by (Uncertain duration) k scope a = durative_read k scope suffered_timing duration a

abbrev pub body_read : Known → List Var → Action → Read PlainBody
body_read k scope a = body_by a.timing k scope a
