-- The denominators of the program's steps and events, and the grids on which they lie.
use Rattle.std.proofs.Common.{◌≡◌, ℕ, ◌<◌, ◌≤◌, true, List, map, flat_map, Option, Some, None, IfSome, sym, ap, ◌∙◌, subst, arith}
use Rattle.std.specs.List.{All}
use Rattle.std.proofs.lemmas.List.Elements.{All-map}
use Prim.Native.Nat.{◌∣◌}
use Rattle.std.proofs.lemmas.Nat.Gcd.{dvd_trans}
use Rattle.stp_frac.specs.Divisors.{lcm}
use Rattle.stp_frac.specs.Fractions.{up_to}
use Rattle.stp_frac.proofs.Divisors.{lcm_multiple_left, lcm_multiple_right}
use Rattle.stp_schema.specs.declared.timed.TimedFact.{TimedFact}
use Rattle.stp_schema.specs.Timed.{PlainTimedFact, timed_fact_of, timed_facts_of}
use Rattle.stp_exec.specs.declared.held.Held.{Held}
use Rattle.stp_exec.specs.declared.held.Held.TheVariants.{Instant, Fixed, Open}
use Rattle.stp_exec.specs.declared.timed_step.TimedStep.{TimedStep}
use Rattle.stp_exec.specs.declared.times.Times.{Times}
use Rattle.stp_exec.specs.Held.{plain_held}
use Rattle.stp_exec.specs.Timed.{plain_timed, held_denominators, denominators, event_denominators, all_denominators, base_grid, lies_on, event_lies_on}
use Rattle.stp_exec.specs.TimeViews.{plain_times}
use Rattle.stp_exec.proofs.Multiples.{Positive, common_pos, common_append, lcm_one_left, lcm_above, within_is, beyond_is, beyond_from}
use Rattle.stp_exec.proofs.Joining.{append_positive, multiple, all_positive, multiple_pos, all_lie}

-- ---- denominators are from 1 on

pub held_positive : (held : Held) → Positive (held_denominators (plain_held held))
held_positive Instant = tt
held_positive (Fixed duration) = (omega (arith, duration.low), tt)
held_positive (Open low high) = (omega (arith, low.low), (omega (arith, high.low), tt))

pub step_positive : (step : TimedStep) → Positive (denominators (plain_timed step))
step_positive step = (omega (arith, step.start.low), held_positive step.held)

pub event_positive : (e : TimedFact) → Positive (event_denominators (timed_fact_of e))
event_positive e = (omega (arith, e.low.low), (omega (arith, e.high.low), tt))

-- ---- the base grid

abbrev pub steps_multiple : List TimedStep → ℕ
steps_multiple steps = multiple denominators (map plain_timed steps)

abbrev pub events_multiple : List TimedFact → ℕ
events_multiple events = multiple event_denominators (timed_facts_of events)

pub steps_pos : (steps : List TimedStep) → 0 < steps_multiple steps
steps_pos steps = multiple_pos plain_timed denominators step_positive steps

pub events_pos : (events : List TimedFact) → 0 < events_multiple events
events_pos events = multiple_pos timed_fact_of event_denominators event_positive events

pub base_pos : (times : Times) → 0 < base_grid (plain_times times)
base_pos times =
    common_pos (all_denominators (plain_times times))
    (append_positive (flat_map denominators (map plain_timed times.steps.items)) (flat_map event_denominators (timed_facts_of times.events.now)) (all_positive plain_timed denominators step_positive times.steps.items) (all_positive timed_fact_of event_denominators event_positive times.events.now))

-- it is the multiple of the steps' and the events'
pub base_is : (times : Times) → base_grid (plain_times times) ≡ lcm (steps_multiple times.steps.items) (events_multiple times.events.now)
base_is times =
    common_append (flat_map denominators (map plain_timed times.steps.items)) (flat_map event_denominators (timed_facts_of times.events.now))
    (all_positive plain_timed denominators step_positive times.steps.items) (all_positive timed_fact_of event_denominators event_positive times.events.now)

-- a grid of the steps, and then of the events, is the base grid
pub base_joined : (times : Times) (g : ℕ) → Some g ≡ up_to 999999999 (lcm 1 (steps_multiple times.steps.items)) → lcm g (events_multiple times.events.now) ≡ base_grid (plain_times times)
base_joined times g e =
    ap (λ n. lcm n (events_multiple times.events.now)) (within_is 999999999 (lcm 1 (steps_multiple times.steps.items)) g e ∙ lcm_one_left (steps_multiple times.steps.items) (steps_pos times.steps.items))
    ∙ sym (base_is times)

-- where the steps have none, there is none
pub base_beyond : (times : Times) → None ≡ up_to 999999999 (lcm 1 (steps_multiple times.steps.items)) → None ≡ up_to 999999999 (base_grid (plain_times times))
base_beyond times e =
    let steps : ℕ = steps_multiple times.steps.items in
    let above : 999999999 < lcm 1 steps = beyond_is 999999999 (lcm 1 steps) e in
    let same : lcm 1 steps ≡ steps = lcm_one_left steps (steps_pos times.steps.items) in
    let more : steps ≤ lcm steps (events_multiple times.events.now) = lcm_above steps (events_multiple times.events.now) (steps_pos times.steps.items) (events_pos times.events.now) in
    beyond_from 999999999 (base_grid (plain_times times)) (omega (arith, above, same, more, base_is times))

-- what is up to a limit, if anything, is the number itself
pub if_within : (o : Option ℕ) (n : ℕ) (P : ℕ → Type 0) → o ≡ up_to 999999999 n → P n → IfSome o P
if_within None n P e h = tt
if_within (Some k) n P e h = subst P (sym (within_is 999999999 n k e)) h

-- ---- grids on which steps and events lie

pub steps_lie : (times : Times) (g : ℕ) → base_grid (plain_times times) ∣ g → All (λ step. lies_on g (plain_timed step) ≡ true) times.steps.items
steps_lie times g h =
    let steps : ℕ = steps_multiple times.steps.items in
    let events : ℕ = events_multiple times.events.now in
    let whole : lcm steps events ∣ g = subst (λ n. n ∣ g) (base_is times) h in
    all_lie plain_timed denominators step_positive times.steps.items g
    (dvd_trans steps (lcm_multiple_left steps events (steps_pos times.steps.items) (events_pos times.events.now)) whole)

pub events_lie : (times : Times) (g : ℕ) → base_grid (plain_times times) ∣ g → All (λ e. event_lies_on g e ≡ true) (timed_facts_of times.events.now)
events_lie times g h =
    let steps : ℕ = steps_multiple times.steps.items in
    let events : ℕ = events_multiple times.events.now in
    let whole : lcm steps events ∣ g = subst (λ n. n ∣ g) (base_is times) h in
    All-map (λ (e : PlainTimedFact). event_lies_on g e ≡ true) timed_fact_of times.events.now
    (all_lie timed_fact_of event_denominators event_positive times.events.now g
    (dvd_trans events (lcm_multiple_right steps events (steps_pos times.steps.items) (events_pos times.events.now)) whole))
