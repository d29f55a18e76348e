-- The parts of an action.
use Rattle.std.specs.Prelude.{ℕ, Bool, if◌then◌else◌, List, [], Option, Some, None, option_map, is_some}
use Rattle.stp_text.specs.Tree.{Tree, Trees, Word, Node, NoMore, More}
use Rattle.stp_refusal.specs.declared.code.Code.TheVariants.{D05, D06}
use Rattle.stp_refusal.specs.Read.{Read, fine, bad, given}
use Rattle.stp_domain_parts.specs.declared.key.ActionKind.{ActionKind}
use Rattle.stp_domain_parts.specs.declared.key.ActionKind.TheVariants.{Simple, Durative}
use Rattle.stp_domain_parts.specs.declared.key.ValueKey.{ValueKey}
use Rattle.stp_domain_parts.specs.declared.key.ValueKey.TheVariants.{Parameters, Condition, Effect, Duration, UncontrollableDuration}
use Rattle.stp_base.specs.Options.{◌>>=◌}
use Rattle.stp_text.specs.Items.{items_of, word_of}
use Rattle.stp_domain_parts.specs.Keys.{value_key}

-- ---- the values of an action's keys

pub record Values : Type 0 where
  pub parameters : Option Trees
  pub condition : Option Tree
  pub effect : Option Tree
  pub duration : Option Tree
  pub uncertain : Option Tree

abbrev pub no_values : Values
no_values = record { parameters = None; condition = None; effect = None; duration = None; uncertain = None }

-- whether a key has a value
abbrev pub has_value : ValueKey → Values → Bool
has_value Parameters found = is_some found.parameters
has_value Condition found = is_some found.condition
has_value Effect found = is_some found.effect
has_value Duration found = is_some found.duration
has_value UncontrollableDuration found = is_some found.uncertain

abbrev pub with_parameters : Values → Trees → Values
with_parameters found items = record found { parameters = Some items }

-- the values with one more; that of `:parameters` is a list
abbrev pub with_value : ValueKey → Tree → Values → Option Values
with_value Parameters value found = option_map (with_parameters found) (items_of value)
with_value Condition value found = Some (record found { condition = Some value })
with_value Effect value found = Some (record found { effect = Some value })
with_value Duration value found = Some (record found { duration = Some value })
with_value UncontrollableDuration value found = Some (record found { uncertain = Some value })

-- the values with one more whose key is not repeated
abbrev pub with_new : ValueKey → Tree → Values → Option Values
with_new key value found = if has_value key found then None else with_value key value found

-- the values with that of one more pair
abbrev pub with_pair : ActionKind → Values → Tree → Tree → Option Values
with_pair kind found key value = do
  word ← word_of key
  known ← value_key kind word
  with_new known value found

-- the values with those of more pairs of a key and a value
abbrev pub with_pairs : ActionKind → Values → Trees → Option Values
with_pairs kind found NoMore = Some found
with_pairs kind found (More key NoMore) = None
with_pairs kind found (More key (More value ts)) = with_pair kind found key value >>= (λ next. with_pairs kind next ts)

-- ---- actions

-- how long an action lasts, as it is written
pub data Timing : Type 0 where
  Instant : Timing
  Controlled : (duration : Tree) → Timing
  Uncertain : (duration : Tree) → Timing

pub record Action : Type 0 where
  pub at : ℕ
  pub name_at : ℕ
  pub name : List ℕ
  pub parameters : Trees
  pub timing : Timing
  pub condition : Option Tree
  pub effect : Option Tree

-- the items of what may be missing
abbrev pub items_or_none : Option Trees → Trees
items_or_none None = NoMore
items_or_none (Some items) = items

-- a durative action has exactly one of the two durations
abbrev pub one_duration : Option Tree → Option Tree → Option Timing
one_duration None None = None
one_duration (Some duration) None = Some (Controlled duration)
one_duration None (Some duration) = Some (Uncertain duration)
one_duration (Some duration) (Some uncertain) = None

abbrev pub timing_in : ActionKind → Values → Option Timing
timing_in Simple found = Some Instant
timing_in Durative found = one_duration found.duration found.uncertain

-- what stands in the place of an action that does not match
abbrev pub no_action : ℕ → Action
no_action at = record { at = at; name_at = at; name = []; parameters = NoMore; timing = Instant; condition = None; effect = None }

abbrev pub action_with : ℕ → ℕ → List ℕ → Values → Timing → Action
action_with at name_at name found timing = record { at = at; name_at = name_at; name = name; parameters = items_or_none found.parameters; timing = timing; condition = found.condition; effect = found.effect }

abbrev pub timed_read : ActionKind → ℕ → ℕ → List ℕ → Values → Read Action
timed_read kind at name_at name found = given (bad at D06 (no_action at)) (λ timing. fine (action_with at name_at name found timing)) (timing_in kind found)

-- what the items behind an action's first word say
abbrev pub action_read : ActionKind → ℕ → Trees → Read Action
action_read kind at NoMore = bad at D05 (no_action at)
action_read kind at (More (Node name_at items) ts) = bad at D05 (no_action at)
action_read kind at (More (Word name_at name) ts) = given (bad at D05 (no_action at)) (timed_read kind at name_at name) (with_pairs kind no_values ts)
