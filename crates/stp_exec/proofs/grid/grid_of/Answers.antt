use Rattle.std.proofs.Common.{◌≡◌, ℕ, true, refl, ap, ◌∙◌, sym}
use Rattle.std.specs.List.{All}
use Rattle.std.proofs.lemmas.Nat.Gcd.{dvd_refl}
use Rattle.stp_frac.specs.Divisors.{lcm}
use Rattle.stp_frac.specs.Fractions.{up_to}
use Rattle.stp_schema.specs.Timed.{timed_facts_of}
use Rattle.stp_exec.specs.Timed.{plain_timed, base_grid, lies_on, event_lies_on}
use Rattle.stp_exec.specs.TimeViews.{plain_times}
use Rattle.stp_exec.proofs.TimedSteps.{steps_multiple, base_joined, base_beyond, if_within, steps_lie, events_lie}
use Rattle.stp_exec.proofs.grid.grid_of.Goals as goal

pub returns-in_default-clause-value : goal.returns-in_default-clause-value
returns-in_default-clause-value c =
    base_beyond c.args.times.now (sym c.in_default.is ∙ c.join_steps.ensures.value ∙ ap (λ l. up_to 999999999 (lcm 1 (steps_multiple l))) c.deref.ensures.value)

pub returns-clause-value : goal.returns-clause-value
returns-clause-value c =
    c.join_events.ensures.value
    ∙ ap (up_to 999999999) (base_joined c.args.times.now c.in-Some.grid (sym c.in-Some.is ∙ c.join_steps.ensures.value ∙ ap (λ l. up_to 999999999 (lcm 1 (steps_multiple l))) c.deref.ensures.value))

pub returns-clause-base : goal.returns-clause-base
returns-clause-base c =
    let base = base_grid (plain_times c.args.times.now) in
    if_within c.join_events.result base (λ (g : ℕ). g ≡ base) (returns-clause-value c) refl

pub returns-clause-steps : goal.returns-clause-steps
returns-clause-steps c =
    let base = base_grid (plain_times c.args.times.now) in
    if_within c.join_events.result base (λ (g : ℕ). All (λ step. lies_on g (plain_timed step) ≡ true) c.args.times.now.steps.items) (returns-clause-value c) (steps_lie c.args.times.now base (dvd_refl base))

pub returns-clause-events : goal.returns-clause-events
returns-clause-events c =
    let base = base_grid (plain_times c.args.times.now) in
    if_within c.join_events.result base (λ (g : ℕ). All (λ e. event_lies_on g e ≡ true) (timed_facts_of c.args.times.now.events.now)) (returns-clause-value c) (events_lie c.args.times.now base (dvd_refl base))
