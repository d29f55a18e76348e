-- Durations, and the bounds of what stays open, one at a time.
use Rattle.std.proofs.Common.{◌≡◌, ℕ, ◌+◌, ◌<◌, ◌≤◌, ◌==◌, Bool, true, false, if◌then◌else◌, List, [], ◌∷◌, ◌++◌, length, map, flat_map, drop, get_or, Option, Some, None, refl, sym, ap, ap₂, ◌∙◌, subst, arith, append_assoc}
use Rattle.std.specs.List.{All}
use Prim.Native.Nat.{◌∣◌}
use Rattle.std.proofs.lemmas.Bool.Decides.{nat_tests}
use Rattle.std.proofs.lemmas.Nat.Gcd.{dvd_trans}
use Rattle.std.proofs.lemmas.List.{drop_all, append-nil, length-map}
use Rattle.std.proofs.lemmas.List.Elements.{All-nil, All-cons, All-head, All-tail}
use Rattle.stp_frac.specs.declared.frac.Frac.{Frac}
use Rattle.stp_frac.specs.Divisors.{lcm, divides}
use Rattle.stp_frac.specs.Fractions.{Fraction, value_of, is_below_zero, up_to, is_at_most}
use Rattle.stp_frac.proofs.Divisors.{divides_from, left_true, right_true, lcm_pos, lcm_multiple_left, lcm_multiple_right}
use Rattle.stp_schema.specs.declared.timed.TimedFact.{TimedFact}
use Rattle.stp_schema.specs.Timed.{IsTimedFact, is_chosen, timed_fact_of, timed_facts_of}
use Rattle.stp_refusal.specs.declared.code.Code.TheVariants.{V02, V03, V04}
use Rattle.stp_exec.specs.declared.held.Held.{Held}
use Rattle.stp_exec.specs.declared.held.Held.TheVariants.{Instant, Fixed, Open}
use Rattle.stp_exec.specs.declared.timed_step.TimedStep.{TimedStep}
use Rattle.stp_exec.specs.declared.times.Times.{Times}
use Rattle.stp_exec.specs.declared.fit.Bounds.{Bounds}
use Rattle.stp_exec.specs.Held.{plain_held, is_within, is_lawful_held}
use Rattle.stp_exec.specs.Timed.{PlainTimes, plain_timed, is_lawful_timed, common_multiple, count_of}
use Rattle.stp_exec.specs.TimeViews.{plain_times}
use Rattle.stp_exec.specs.Fitting.{plain_bounds, held_bounds, step_bounds, event_bounds, open_bounds, outside_from, bottoms, grid_with, unless_outside, unless_fine, judge_list}
use Rattle.stp_exec.proofs.Multiples.{Positive, common_pos, lcm_assoc, lcm_one_right, lcm_above, within_is, beyond_is, beyond_from}
use Rattle.stp_exec.proofs.Joining.{at_item}
use Rattle.stp_exec.proofs.Bounds.{above_on, low_above}

-- ---- the bounds so far, and those of the items that are left

abbrev pub AreBounds : {A B : Type 0} → (A → B) → (B → List (Fraction × Fraction)) → List Bounds → List Bounds → ℕ → List A → Type 0
AreBounds view inside start bounds i xs = map plain_bounds bounds ++ flat_map inside (map view (drop i xs)) ≡ map plain_bounds start ++ flat_map inside (map view xs)

module _ {A B : Type 0} (view : A → B) (inside : B → List (Fraction × Fraction)) (start : List Bounds) where
  pub bounds_more : (bounds more : List Bounds) (x : A) (xs : List A) (i : ℕ) → i < length xs → get_or xs i x ≡ x → map plain_bounds more ≡ map plain_bounds bounds ++ inside (view x) → AreBounds view inside start bounds i xs → AreBounds view inside start more (i + 1) xs
  bounds_more bounds more x xs i h is e so_far =
      let rest = flat_map inside (map view (drop (i + 1) xs)) in
      ap (λ b. b ++ rest) e
      ∙ append_assoc (map plain_bounds bounds) (inside (view x)) rest
      ∙ ap (λ l. map plain_bounds bounds ++ flat_map inside (map view l)) (sym (at_item xs i x h is))
      ∙ so_far

  pub bounds_all : (bounds : List Bounds) (xs : List A) (i : ℕ) → length xs ≤ i → AreBounds view inside start bounds i xs → map plain_bounds bounds ≡ map plain_bounds start ++ flat_map inside (map view xs)
  bounds_all bounds xs i h so_far =
      sym (append-nil (map plain_bounds bounds))
      ∙ ap (λ l. map plain_bounds bounds ++ flat_map inside (map view l)) (sym (drop_all i xs h))
      ∙ so_far

-- ---- the first duration outside

abbrev pub IsSought : ℕ → List Bounds → List Frac → Type 0
IsSought i bounds durations = outside_from (i + 1) (map plain_bounds (drop i bounds)) (map value_of (drop i durations)) ≡ outside_from 1 (map plain_bounds bounds) (map value_of durations)

sought_at : (w : Bool) (i : ℕ) (b : Bounds) (d : Frac) (bounds : List Bounds) (durations : List Frac) → i < length bounds → i < length durations → get_or bounds i b ≡ b → get_or durations i d ≡ d → w ≡ is_within (value_of b.low) (value_of b.high) (value_of d) → IsSought i bounds durations → (if w then outside_from (i + 1 + 1) (map plain_bounds (drop (i + 1) bounds)) (map value_of (drop (i + 1) durations)) else Some (i + 1)) ≡ outside_from 1 (map plain_bounds bounds) (map value_of durations)
sought_at w i b d bounds durations h h' is is' e so_far =
    ap (λ w. if w then outside_from (i + 1 + 1) (map plain_bounds (drop (i + 1) bounds)) (map value_of (drop (i + 1) durations)) else Some (i + 1)) e
    ∙ ap₂ (λ bs ds. outside_from (i + 1) (map plain_bounds bs) (map value_of ds)) (sym (at_item bounds i b h is)) (sym (at_item durations i d h' is'))
    ∙ so_far

pub sought_more : (i : ℕ) (b : Bounds) (d : Frac) (bounds : List Bounds) (durations : List Frac) → i < length bounds → i < length durations → get_or bounds i b ≡ b → get_or durations i d ≡ d → true ≡ is_within (value_of b.low) (value_of b.high) (value_of d) → IsSought i bounds durations → IsSought (i + 1) bounds durations
sought_more i b d bounds durations = sought_at true i b d bounds durations

pub sought_found : (i : ℕ) (b : Bounds) (d : Frac) (bounds : List Bounds) (durations : List Frac) → i < length bounds → i < length durations → get_or bounds i b ≡ b → get_or durations i d ≡ d → false ≡ is_within (value_of b.low) (value_of b.high) (value_of d) → IsSought i bounds durations → Some (i + 1) ≡ outside_from 1 (map plain_bounds bounds) (map value_of durations)
sought_found i b d bounds durations = sought_at false i b d bounds durations

pub sought_all : (i : ℕ) (bounds : List Bounds) (durations : List Frac) → length bounds ≤ i → IsSought i bounds durations → None ≡ outside_from 1 (map plain_bounds bounds) (map value_of durations)
sought_all i bounds durations h so_far =
    ap (λ bs. outside_from (i + 1) (map plain_bounds bs) (map value_of (drop i durations))) (sym (drop_all i bounds h)) ∙ so_far

-- ---- the common grid

pub bottoms_positive : (durations : List Frac) → Positive (bottoms (map value_of durations))
bottoms_positive [] = tt
bottoms_positive (d ∷ durations) = (omega (arith, d.low), bottoms_positive durations)

-- the least common multiple of the denominators
abbrev pub common : List Frac → ℕ
common durations = common_multiple (bottoms (map value_of durations))

pub common_positive : (durations : List Frac) → 0 < common durations
common_positive durations = common_pos (bottoms (map value_of durations)) (bottoms_positive durations)

-- what is joined so far, and what is left
abbrev pub IsMet : ℕ → ℕ → ℕ → List Frac → Type 0
IsMet grid joint i durations = lcm joint (common (drop i durations)) ≡ lcm grid (common durations)

met_at : (grid joint i : ℕ) (d : Frac) (durations : List Frac) → 0 < joint → i < length durations → get_or durations i d ≡ d → IsMet grid joint i durations → lcm (lcm joint d.bottom) (common (drop (i + 1) durations)) ≡ lcm grid (common durations)
met_at grid joint i d durations pj h is so_far =
    lcm_assoc joint d.bottom (common (drop (i + 1) durations)) pj (omega (arith, d.low)) (common_positive (drop (i + 1) durations))
    ∙ ap (λ l. lcm joint (common l)) (sym (at_item durations i d h is))
    ∙ so_far

pub met_more : (grid joint next i : ℕ) (d : Frac) (durations : List Frac) → 0 < joint → i < length durations → get_or durations i d ≡ d → Some next ≡ up_to 999999999 (lcm joint d.bottom) → IsMet grid joint i durations → IsMet grid next (i + 1) durations
met_more grid joint next i d durations pj h is e so_far =
    ap (λ n. lcm n (common (drop (i + 1) durations))) (within_is 999999999 (lcm joint d.bottom) next e)
    ∙ met_at grid joint i d durations pj h is so_far

pub met_beyond : (grid joint i : ℕ) (d : Frac) (durations : List Frac) → 0 < joint → i < length durations → get_or durations i d ≡ d → None ≡ up_to 999999999 (lcm joint d.bottom) → IsMet grid joint i durations → None ≡ up_to 999999999 (lcm grid (common durations))
met_beyond grid joint i d durations pj h is e so_far =
    let above : 999999999 < lcm joint d.bottom = beyond_is 999999999 (lcm joint d.bottom) e in
    let more : lcm joint d.bottom ≤ lcm (lcm joint d.bottom) (common (drop (i + 1) durations)) = lcm_above (lcm joint d.bottom) (common (drop (i + 1) durations)) (lcm_pos joint d.bottom pj (omega (arith, d.low))) (common_positive (drop (i + 1) durations)) in
    beyond_from 999999999 (lcm grid (common durations)) (omega (arith, above, more, met_at grid joint i d durations pj h is so_far))

pub met_all : (grid joint i : ℕ) (durations : List Frac) → 0 < joint → length durations ≤ i → IsMet grid joint i durations → joint ≡ lcm grid (common durations)
met_all grid joint i durations pj h so_far =
    sym (lcm_one_right joint pj) ∙ ap (λ l. lcm joint (common l)) (sym (drop_all i durations h)) ∙ so_far

durations_lie : (durations : List Frac) (g : ℕ) → common durations ∣ g → All (λ d. divides (value_of d).bottom g ≡ true) durations
durations_lie [] g h = All-nil (λ d. divides (value_of d).bottom g ≡ true)
durations_lie (d ∷ durations) g h =
    All-cons (λ d. divides (value_of d).bottom g ≡ true) d durations
    (divides_from d.bottom g (dvd_trans d.bottom (lcm_multiple_left d.bottom (common durations) (omega (arith, d.low)) (common_positive durations)) h))
    (durations_lie durations g (dvd_trans (common durations) (lcm_multiple_right d.bottom (common durations) (omega (arith, d.low)) (common_positive durations)) h))

pub met_lie : (grid joint : ℕ) (durations : List Frac) → 0 < grid → joint ≡ lcm grid (common durations) → All (λ d. divides (value_of d).bottom joint ≡ true) durations
met_lie grid joint durations pg e =
    durations_lie durations joint (subst (λ n. common durations ∣ n) (sym e) (lcm_multiple_right grid (common durations) pg (common_positive durations)))

-- ---- counts

abbrev pub AreCounts : List ℕ → ℕ → ℕ → List Frac → Type 0
AreCounts counts grid i durations = counts ++ map (count_of grid) (map value_of (drop i durations)) ≡ map (count_of grid) (map value_of durations)

pub counts_more : (counts : List ℕ) (n grid i : ℕ) (d : Frac) (durations : List Frac) → i < length durations → get_or durations i d ≡ d → n ≡ count_of grid (value_of d) → AreCounts counts grid i durations → AreCounts (counts ++ n ∷ []) grid (i + 1) durations
counts_more counts n grid i d durations h is e so_far =
    append_assoc counts (n ∷ []) (map (count_of grid) (map value_of (drop (i + 1) durations)))
    ∙ ap (λ n. counts ++ (n ∷ map (count_of grid) (map value_of (drop (i + 1) durations)))) e
    ∙ ap (λ l. counts ++ map (count_of grid) (map value_of l)) (sym (at_item durations i d h is))
    ∙ so_far

pub counts_all : (counts : List ℕ) (grid i : ℕ) (durations : List Frac) → length durations ≤ i → AreCounts counts grid i durations → counts ≡ map (count_of grid) (map value_of durations)
counts_all counts grid i durations h so_far =
    sym (append-nil counts) ∙ ap (λ l. counts ++ map (count_of grid) (map value_of l)) (sym (drop_all i durations h)) ∙ so_far

-- ---- durations within lawful bounds are from 0 on

-- low bounds from 0 on
abbrev pub Lows : List (Fraction × Fraction) → Type 0
Lows [] = Unit {0}
Lows (b ∷ bounds) = (0 < b.0.bottom) × (is_below_zero b.0.top ≡ false) × Lows bounds

append_lows : (bounds more : List (Fraction × Fraction)) → Lows bounds → Lows more → Lows (bounds ++ more)
append_lows [] more l k = k
append_lows (b ∷ bounds) more l k = (l.0, l.1, append_lows bounds more l.2 k)

held_lows : (held : Held) → is_lawful_held (plain_held held) ≡ true → Lows (held_bounds (plain_held held))
held_lows Instant h = tt
held_lows (Fixed duration) h = tt
held_lows (Open low high) h = (omega (arith, low.low), low_above (value_of low) (value_of high) h, tt)

steps_lows : (steps : List TimedStep) → All (λ step. is_lawful_timed (plain_timed step) ≡ true) steps → Lows (flat_map step_bounds (map plain_timed steps))
steps_lows [] h = tt
steps_lows (step ∷ steps) h =
    append_lows (step_bounds (plain_timed step)) (flat_map step_bounds (map plain_timed steps))
    (held_lows step.held (lawful_part step (All-head (λ step. is_lawful_timed (plain_timed step) ≡ true) step steps h)))
    (steps_lows steps (All-tail (λ step. is_lawful_timed (plain_timed step) ≡ true) step steps h))
  where
    lawful_part : (step : TimedStep) → is_lawful_timed (plain_timed step) ≡ true → is_lawful_held (plain_held step.held) ≡ true
    lawful_part step h = right_true _ (is_lawful_held (plain_held step.held)) h

event_lows : (chosen : Bool) (e : TimedFact) → is_below_zero (value_of e.low).top ≡ false → Lows (if chosen then (value_of e.low, value_of e.high) ∷ [] else [])
event_lows true e h = (omega (arith, e.low.low), h, tt)
event_lows false e h = tt

events_lows : (events : List TimedFact) → All IsTimedFact (timed_facts_of events) → Lows (flat_map event_bounds (timed_facts_of events))
events_lows [] h = tt
events_lows (e ∷ events) h =
    append_lows (event_bounds (timed_fact_of e)) (flat_map event_bounds (timed_facts_of events))
    (event_lows (is_chosen (timed_fact_of e)) e (All-head IsTimedFact (timed_fact_of e) (timed_facts_of events) h).early)
    (events_lows events (All-tail IsTimedFact (timed_fact_of e) (timed_facts_of events) h))

pub times_lows : (times : Times) → Lows (open_bounds (plain_times times))
times_lows times =
    append_lows (flat_map step_bounds (map plain_timed times.steps.items)) (flat_map event_bounds (timed_facts_of times.events.now))
    (steps_lows times.steps.items times.lawful) (events_lows times.events.now times.kept.each)

abbrev pub AreAbove : List Frac → Type 0
AreAbove durations = All (λ d. is_below_zero (value_of d).top ≡ false) durations

inside_split : (w : Bool) (n : ℕ) (o : Option ℕ) → (if w then o else Some n) ≡ None → (w ≡ true) × (o ≡ None)
inside_split true n o e = (refl, e)
inside_split false n o e = absurd (cc)

less : {m n : ℕ} → m + 1 ≡ n + 1 → m ≡ n
less e = omega (arith, e)

pub inside_above : (n : ℕ) (bounds : List (Fraction × Fraction)) (durations : List Frac) → Lows bounds → length durations ≡ length bounds → outside_from n bounds (map value_of durations) ≡ None → AreAbove durations
inside_above n [] [] l e h = All-nil (λ d. is_below_zero (value_of d).top ≡ false)
inside_above n [] (d ∷ durations) l e h = absurd (omega (arith, e))
inside_above n (b ∷ bounds) [] l e h = All-nil (λ d. is_below_zero (value_of d).top ≡ false)
inside_above n (b ∷ bounds) (d ∷ durations) l e h =
    let split = inside_split (is_within b.0 b.1 (value_of d)) n (outside_from (n + 1) bounds (map value_of durations)) h in
    All-cons (λ d. is_below_zero (value_of d).top ≡ false) d durations
    (above_on b.0 (value_of d) l.0 l.1 (left_true (is_at_most b.0 (value_of d)) (is_at_most (value_of d) b.1) split.0))
    (inside_above (n + 1) bounds durations l.2 (omega (arith, e)) split.1)

-- ---- judging

even_test : (m n : ℕ) → m ≡ n → (m == n) ≡ true
even_test m n e = grind (arith, nat_tests)

odd_test : (m n : ℕ) → (m ≡ n → ⊥) → (m == n) ≡ false
odd_test m n e = grind (arith, nat_tests)

pub judge_odd : (times : PlainTimes) (durations : List Fraction) → (length durations ≡ length (open_bounds times) → ⊥) → judge_list times durations ≡ Some (V02, length durations)
judge_odd times durations e =
    ap (λ b. if b then unless_outside (outside_from 1 (open_bounds times) durations) (unless_fine (grid_with times durations)) else Some (V02, length durations))
    (odd_test (length durations) (length (open_bounds times)) e)

judge_even : (times : PlainTimes) (durations : List Fraction) → length durations ≡ length (open_bounds times) → judge_list times durations ≡ unless_outside (outside_from 1 (open_bounds times) durations) (unless_fine (grid_with times durations))
judge_even times durations e =
    ap (λ b. if b then unless_outside (outside_from 1 (open_bounds times) durations) (unless_fine (grid_with times durations)) else Some (V02, length durations))
    (even_test (length durations) (length (open_bounds times)) e)

pub judge_outside : (times : PlainTimes) (durations : List Fraction) (n : ℕ) → length durations ≡ length (open_bounds times) → Some n ≡ outside_from 1 (open_bounds times) durations → judge_list times durations ≡ Some (V03, n)
judge_outside times durations n e o =
    judge_even times durations e ∙ ap (λ o. unless_outside o (unless_fine (grid_with times durations))) (sym o)

judge_inside : (times : PlainTimes) (durations : List Fraction) → length durations ≡ length (open_bounds times) → None ≡ outside_from 1 (open_bounds times) durations → judge_list times durations ≡ unless_fine (grid_with times durations)
judge_inside times durations e o =
    judge_even times durations e ∙ ap (λ o. unless_outside o (unless_fine (grid_with times durations))) (sym o)

fine_from : (n : ℕ) → None ≡ up_to 999999999 n → unless_fine n ≡ Some (V04, 0)
fine_from n e = fine_above (beyond_is 999999999 n e)
  where
    fine_above : 999999999 < n → unless_fine n ≡ Some (V04, 0)
    fine_above h = grind (arith, nat_tests)

coarse_from : (n : ℕ) → n ≤ 999999999 → unless_fine n ≡ None
coarse_from n h = grind (arith, nat_tests)

pub judge_fine : (times : PlainTimes) (durations : List Fraction) → length durations ≡ length (open_bounds times) → None ≡ outside_from 1 (open_bounds times) durations → None ≡ up_to 999999999 (grid_with times durations) → judge_list times durations ≡ Some (V04, 0)
judge_fine times durations e o f = judge_inside times durations e o ∙ fine_from (grid_with times durations) f

pub judge_fits : (times : PlainTimes) (durations : List Fraction) → length durations ≡ length (open_bounds times) → None ≡ outside_from 1 (open_bounds times) durations → grid_with times durations ≤ 999999999 → judge_list times durations ≡ None
judge_fits times durations e o f = judge_inside times durations e o ∙ coarse_from (grid_with times durations) f

-- lengths of what is viewed
pub bounds_length : (bounds : List Bounds) (times : PlainTimes) → map plain_bounds bounds ≡ open_bounds times → length bounds ≡ length (open_bounds times)
bounds_length bounds times e = sym (length-map bounds plain_bounds) ∙ ap length e

pub durations_length : (durations : List Frac) → length (map value_of durations) ≡ length durations
durations_length durations = length-map durations value_of
