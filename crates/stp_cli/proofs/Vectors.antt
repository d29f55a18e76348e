-- Durations that fit steps are a vector of their box on a finer grid.
use Rattle.std.proofs.Common.{◌≡◌, ℕ, ◌+◌, ◌*◌, ◌<◌, ◌≤◌, ◌==◌, Bool, true, false, ◌&&◌, if◌then◌else◌, List, [], ◌∷◌, ◌++◌, length, map, flat_map, Option, Some, None, refl, sym, ap, ap₂, ◌∙◌, subst, true≢false, arith, mul-pos}
use Rattle.std.specs.Prelude.{All}
use Rattle.std.specs.List.{list_all}
use Rattle.std.specs.Ordering.{is_le}
use Rattle.std.proofs.lemmas.Bool.Decides.{nat_tests}
use Rattle.std.proofs.lemmas.List.Elements.{All-head, All-tail}
use Rattle.std.proofs.Math.Nat.{dvd-mul_left_of_dvd}
use Rattle.stp_frac.specs.Divisors.{divides}
use Rattle.stp_frac.specs.Fractions.{Fraction, is_below_zero, is_less, is_at_most, zero}
use Rattle.stp_frac.proofs.Divisors.{divides_from, divides_to, left_true, right_true}
use Rattle.stp_refusal.specs.declared.code.Code.{Code}
use Rattle.stp_schema.specs.Timed.{PlainTimedFact, IsTimedFact, is_chosen}
use Rattle.stp_schema.specs.Views.{PlainProblem}
use Rattle.stp_tables.specs.Atoms.{Atom}
use Rattle.stp_ground.specs.Chosen.{PlainChosen}
use Rattle.stp_ground.specs.Ground.{event_by}
use Rattle.stp_exec.specs.Held.{PlainHeld, Instant, Fixed, Open, is_within, is_lawful_held}
use Rattle.stp_exec.specs.Timed.{PlainTimedStep, PlainTimes, count_of, lies_on, event_lies_on, held_denominators, is_lawful_timed}
use Rattle.stp_exec.specs.Fitting.{open_bounds, step_bounds, event_bounds, outside_from, judge_list, grid_with, unless_outside, unless_fine}
use Rattle.stp_exec.proofs.Bounds.{Lies, HeldLies, above_on, at_most_count, bottom_pos, count_order, less_on, ends_ordered, first_lies, second_lies}
use Rattle.stp_exec.proofs.EventMoments.{low_lies, high_lies, high_above}
use Rattle.stp_exec.proofs.LeastGrids.{finer_grids_keep_moments, finer_grids_keep_events}
use Rattle.stp_happen.specs.Owners.{PlainBoxStep, PlainBoxTimed, step_owner, step_owners, timed_owners, owners_of, finer_step, finer_timed}
use Rattle.stp_happen.proofs.OwnerLists.{owners_are_finer}
use Rattle.stp_happen.specs.Boxes.{PlainOwner, IsVector, IsInInterval, finer_owner}
use Rattle.stp_exec.specs.Placed.{PlainPlaced, step_times, times_of}
use Rattle.stp_exec.specs.Plans.{event_in, step_in, timed_in}

-- a step in time that is lawful and lies on a grid
abbrev pub IsOn : ℕ → PlainTimedStep → Type 0
IsOn g t = (lies_on g t ≡ true) × (is_lawful_timed t ≡ true)

-- an event of a problem that lies on a grid
abbrev pub IsEventOn : ℕ → PlainTimedFact → Type 0
IsEventOn g e = IsTimedFact e × (event_lies_on g e ≡ true)

split_inside : (w : Bool) (n : ℕ) (o : Option ℕ) → (if w then o else Some n) ≡ None → (w ≡ true) × (o ≡ None)
split_inside true n o e = (refl, e)
split_inside false n o e = absurd (cc)

and_true : (a b : Bool) → a ≡ true → b ≡ true → (a && b) ≡ true
and_true true b h k = k
and_true false b h k = absurd (true≢false (sym h))

module _ (k g : ℕ) (pk : 0 < k) (pg : 0 < g) where
  abbrev fine : ℕ
  fine = k * g

  finer_pos : 0 < fine
  finer_pos = mul-pos pk pg

  lies_finer : (f : Fraction) → Lies g f → Lies fine f
  lies_finer f l = divides_from f.bottom fine (dvd-mul_left_of_dvd f.bottom (divides_to f.bottom g l) k)

  both_lie : (f h : Fraction) → Lies fine f → Lies fine h → HeldLies fine (Open f h)
  both_lie f h lf lh = and_true (divides f.bottom fine) (divides h.bottom fine && true) lf (and_true (divides h.bottom fine) true lh refl)

  count_up : (f h : Fraction) → Lies fine f → Lies fine h → is_less zero f ≡ true → is_at_most f h ≡ true → count_of fine f ≤ count_of fine h
  count_up f h lf lh pf le =
      let e = (ends_ordered fine 0 (Open f h) finer_pos (and_true (is_less zero f) (is_at_most f h) pf le) (both_lie f h lf lh)).1 in
      omega (arith, e)

  count_order_up : (f h : Fraction) → Lies fine f → Lies fine h → is_below_zero f.top ≡ false → is_below_zero h.top ≡ false → is_at_most f h ≡ true → count_of fine f ≤ count_of fine h
  count_order_up f h lf lh af ah le = at_most_count (count_of fine f) (count_of fine h) (sym (ap is_le (count_order fine f h finer_pos lf lh af ah)) ∙ le)

  module _ (p : PlainProblem) (table : List Atom) (all : List PlainPlaced) where
    abbrev made : PlainPlaced → PlainBoxStep
    made s = finer_step k (step_in p table g all s)

    abbrev placed : PlainChosen → Fraction → PlainHeld → PlainPlaced
    placed chosen start held = record { chosen = chosen; timed = record { start = start; held = held } }

    -- a duration between the bounds of an open step
    within : (chosen : PlainChosen) (start low high d : Fraction) (ds : List ℕ) → IsOn g (record { start = start; held = Open low high }) → Lies fine d → is_within low high d ≡ true → (number : ℕ) → IsInInterval (step_owner number (made (placed chosen start (Open low high)))) (count_of fine d ∷ ds)
    within chosen start low high d ds (lies, lawful) ld inside number = λ chosen_open.
        let t : PlainTimedStep = record { start = start; held = Open low high } in
        let m = finer_grids_keep_moments t k g pg lies in
        let e0 : count_of fine start ≡ k * count_of g start = ap (λ x. x.start) m in
        let e1 : count_of fine start + count_of fine low ≡ k * (count_of g start + count_of g low) = ap (λ x. x.low) m in
        let e2 : count_of fine start + count_of fine high ≡ k * (count_of g start + count_of g high) = ap (λ x. x.high) m in
        let held_lies : HeldLies g (Open low high) = right_true (divides start.bottom g) (list_all (λ b. divides b g) (held_denominators (Open low high))) lies in
        let ll : Lies fine low = lies_finer low (first_lies g low (divides high.bottom g && true) held_lies) in
        let lh : Lies fine high = lies_finer high (second_lies g low high held_lies) in
        let held_lawful : is_lawful_held (Open low high) ≡ true = right_true _ (is_lawful_held (Open low high)) lawful in
        let pl : is_less zero low ≡ true = left_true (is_less zero low) (is_at_most low high) held_lawful in
        let up : is_at_most low d ≡ true = left_true (is_at_most low d) (is_at_most d high) inside in
        let down : is_at_most d high ≡ true = right_true (is_at_most low d) (is_at_most d high) inside in
        let pd : is_less zero d ≡ true = less_on low d (bottom_pos fine low finer_pos ll) (bottom_pos fine d finer_pos ld) pl up in
        let c1 : count_of fine low ≤ count_of fine d = count_up low d ll ld pl up in
        let c2 : count_of fine d ≤ count_of fine high = count_up d high ld lh pd down in
        (omega arith, omega (arith, e0, e1, c1), omega (arith, e0, e2, c2))

    -- ---- steps, before owners that others fit

    module _ (others : List PlainOwner) (more : List (Fraction × Fraction)) (fit_others : (n : ℕ) (ds : List Fraction) → All (Lies fine) ds → length ds ≡ length more → outside_from n more ds ≡ None → IsVector others (map (count_of fine) ds)) where
      abbrev bounds : List PlainPlaced → List (Fraction × Fraction)
      bounds steps = flat_map step_bounds (step_times steps) ++ more

      abbrev Claim : List PlainPlaced → Type 0
      Claim steps = (number n : ℕ) (ds : List Fraction) → All (IsOn g) (step_times steps) → All (Lies fine) ds → length ds ≡ length (bounds steps) → outside_from n (bounds steps) ds ≡ None → IsVector (step_owners number (map made steps) ++ others) (map (count_of fine) ds)

      one_more : (chosen : PlainChosen) (start : Fraction) (held : PlainHeld) (steps : List PlainPlaced) → Claim steps → Claim (placed chosen start held ∷ steps)
      one_more chosen start Instant steps rest number n ds on lie even inside =
          ((λ chosen_open. absurd (true≢false (sym chosen_open))), rest (number + 1) n ds (All-tail (IsOn g) _ (step_times steps) on) lie even inside)
      one_more chosen start (Fixed duration) steps rest number n ds on lie even inside =
          ((λ chosen_open. absurd (true≢false (sym chosen_open))), rest (number + 1) n ds (All-tail (IsOn g) _ (step_times steps) on) lie even inside)
      one_more chosen start (Open low high) steps rest number n [] on lie even inside = absurd (omega (arith, even))
      one_more chosen start (Open low high) steps rest number n (d ∷ ds) on lie even inside =
          let split = split_inside (is_within low high d) n (outside_from (n + 1) (bounds steps) ds) inside in (
            within chosen start low high d (map (count_of fine) ds) (All-head (IsOn g) (record { start = start; held = Open low high }) (step_times steps) on) (All-head (Lies fine) d ds lie) split.0 number,
            rest (number + 1) (n + 1) ds (All-tail (IsOn g) (record { start = start; held = Open low high }) (step_times steps) on) (All-tail (Lies fine) d ds lie) (omega (arith, even)) split.1,
          )

      fitting_steps : (steps : List PlainPlaced) → Claim steps
      fitting_steps [] = λ number n ds on lie even inside. fit_others n ds lie even inside
      fitting_steps (s ∷ steps) = one_more s.chosen s.timed.start s.timed.held steps (fitting_steps steps)

    finer_steps : (steps : List PlainPlaced) → map made steps ≡ map (finer_step k) (map (step_in p table g all) steps)
    finer_steps [] = refl
    finer_steps (s ∷ steps) = ap (λ ss. made s ∷ ss) (finer_steps steps)

    -- ---- events of the environment

    abbrev event_made : Bool → PlainTimedFact → PlainBoxTimed
    event_made chosen e = finer_timed k (record { low = count_of g e.low; high = count_of g e.high; uncertain = chosen; event = event_in (event_by table e) })

    -- a moment between the bounds of an event
    moment_within : (e : PlainTimedFact) (d : Fraction) → IsEventOn g e → Lies fine d → is_within e.low e.high d ≡ true → (k * count_of g e.low ≤ count_of fine d) × (count_of fine d ≤ k * count_of g e.high)
    moment_within e d (kept, lies) ld inside =
        let finer = finer_grids_keep_events e k g pg lies in
        let ll : Lies fine e.low = lies_finer e.low (low_lies g pg e kept lies) in
        let lh : Lies fine e.high = lies_finer e.high (high_lies g pg e kept lies) in
        let up : is_at_most e.low d ≡ true = left_true (is_at_most e.low d) (is_at_most d e.high) inside in
        let down : is_at_most d e.high ≡ true = right_true (is_at_most e.low d) (is_at_most d e.high) inside in
        let above : is_below_zero d.top ≡ false = above_on e.low d (bottom_pos fine e.low finer_pos ll) kept.early up in
        let c1 : count_of fine e.low ≤ count_of fine d = count_order_up e.low d ll ld kept.early above up in
        let c2 : count_of fine d ≤ count_of fine e.high = count_order_up d e.high ld lh above (high_above g pg e kept lies) down in
        (omega (arith, finer.0, c1), omega (arith, finer.1, c2))

    abbrev EventClaim : List PlainTimedFact → Type 0
    EventClaim es = (number n : ℕ) (ds : List Fraction) → All (Lies fine) ds → length ds ≡ length (flat_map event_bounds es) → outside_from n (flat_map event_bounds es) ds ≡ None → IsVector (timed_owners number (map (λ e. event_made (is_chosen e) e) es)) (map (count_of fine) ds)

    one_event : (e : PlainTimedFact) (es : List PlainTimedFact) → IsEventOn g e → EventClaim es → (chosen : Bool) (number n : ℕ) (ds : List Fraction) → All (Lies fine) ds
        → length ds ≡ length ((if chosen then (e.low, e.high) ∷ [] else []) ++ flat_map event_bounds es) → outside_from n ((if chosen then (e.low, e.high) ∷ [] else []) ++ flat_map event_bounds es) ds ≡ None
        → IsVector (timed_owners number (event_made chosen e ∷ map (λ e. event_made (is_chosen e) e) es)) (map (count_of fine) ds)
    one_event e es on rest false number n ds lie even inside = ((λ chosen. absurd (true≢false (sym chosen))), rest number n ds lie even inside)
    one_event e es on rest true number n [] lie even inside = absurd (omega (arith, even))
    one_event e es on rest true number n (d ∷ ds) lie even inside =
        let split = split_inside (is_within e.low e.high d) n (outside_from (n + 1) (flat_map event_bounds es) ds) inside in
        let moment = moment_within e d on (All-head (Lies fine) d ds lie) split.0 in
        let low : k * count_of g e.low ≤ 0 + count_of fine d = omega (arith, moment.0) in
        let high : 0 + count_of fine d ≤ k * count_of g e.high = omega (arith, moment.1) in (
          (λ chosen. (omega arith, low, high)),
          rest (number + 1) (n + 1) ds (All-tail (Lies fine) d ds lie) (omega (arith, even)) split.1,
        )

    none_left : (ds : List Fraction) → length ds ≡ 0 → map (count_of fine) ds ≡ []
    none_left [] e = refl
    none_left (d ∷ ds) e = absurd (omega (arith, e))

    fitting_events : (es : List PlainTimedFact) → All (IsEventOn g) es → EventClaim es
    fitting_events [] on = λ number n ds lie even inside. none_left ds even
    fitting_events (e ∷ es) on = one_event e es (All-head (IsEventOn g) e es on) (fitting_events es (All-tail (IsEventOn g) e es on)) (is_chosen e)

    finer_events : (es : List PlainTimedFact) → map (λ e. event_made (is_chosen e) e) es ≡ map (finer_timed k) (map (timed_in table g) es)
    finer_events [] = refl
    finer_events (e ∷ es) = ap (λ xs. event_made (is_chosen e) e ∷ xs) (finer_events es)

    -- ---- all owners

    abbrev events_made : List PlainBoxTimed
    events_made = map (λ e. event_made (is_chosen e) e) p.timed

    finer_owners : owners_of (map made all) events_made ≡ map (finer_owner k) (owners_of (map (step_in p table g all) all) (map (timed_in table g) p.timed))
    finer_owners =
        ap₂ owners_of (finer_steps all) (finer_events p.timed)
        ∙ owners_are_finer k (map (step_in p table g all) all) (map (timed_in table g) p.timed)

    pub fitting : (ds : List Fraction) → All (IsOn g) (step_times all) → All (IsEventOn g) p.timed → All (Lies fine) ds → length ds ≡ length (open_bounds (times_of p all)) → outside_from 1 (open_bounds (times_of p all)) ds ≡ None → IsVector (map (finer_owner k) (owners_of (map (step_in p table g all) all) (map (timed_in table g) p.timed))) (map (count_of fine) ds)
    fitting ds on events lie even inside =
        let after : ℕ = length (map made all) + 1 in
        subst (λ (os : List PlainOwner). IsVector os (map (count_of fine) ds)) finer_owners
        (fitting_steps (timed_owners after events_made) (flat_map event_bounds p.timed) (fitting_events p.timed events after) all 1 1 ds on lie even inside)

-- what it means that a list is judged to fit
split_judged : (b : Bool) (o : Option ℕ) (fine : Option (Code × ℕ)) (other : Code × ℕ) → (if b then unless_outside o fine else Some other) ≡ None → (b ≡ true) × (o ≡ None)
split_judged true None fine other e = (refl, refl)
split_judged true (Some n) fine other e = absurd (cc)
split_judged false o fine other e = absurd (cc)

pub judged_well : (times : PlainTimes) (ds : List Fraction) → judge_list times ds ≡ None → (length ds ≡ length (open_bounds times)) × (outside_from 1 (open_bounds times) ds ≡ None)
judged_well times ds e =
    let split = split_judged (length ds == length (open_bounds times)) (outside_from 1 (open_bounds times) ds) (unless_fine (grid_with times ds)) _ e in
    (grind (arith, nat_tests, split.0), split.1)
