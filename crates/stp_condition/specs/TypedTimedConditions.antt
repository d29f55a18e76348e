-- Timed conditions that fit what is declared.
use Rattle.std.specs.Prelude.{◌≡◌, ℕ, ◌<◌, List, [], length}
use Rattle.stp_text.specs.Tree.{Tree}
use Rattle.stp_schema.specs.Known.{Known}
use Rattle.stp_condition.specs.Scope.{Var, kinds_of}
use Rattle.stp_condition.specs.TypedConditions.{IsTyped}
use Rattle.stp_condition.specs.TimedConditions.{TimedFormulas, timed_condition_read}

-- in the scope of variables of these types, the condition of each span is typed
pub record AreConditionsTyped (k : Known) (kinds : List ℕ) (conditions : TimedFormulas) : Type 0 where
  pub start : IsTyped k kinds conditions.start
  pub over_all : IsTyped k kinds conditions.over_all
  pub end : IsTyped k kinds conditions.end

-- where there is a type, what is read without an offence is typed
abbrev pub ReadTimedConditionsAreTyped : Type 0
ReadTimedConditionsAreTyped = (k : Known) (scope : List Var) (tree : Tree) → 0 < length k.types → (timed_condition_read k scope tree).offences ≡ [] → AreConditionsTyped k (kinds_of scope) (timed_condition_read k scope tree).value
