-- Events of the environment on a grid: their moments, and their order.
use Rattle.std.proofs.Common.{suc, ◌≡◌, ℕ, ◌*◌, ◌/◌, ◌<◌, ◌≤◌, nat_lt, nat_cmp, unsigned_abs, true, false, ◌&&◌, ◌||◌, List, [], ◌∷◌, length, map, refl, sym, ap, ap₂, ◌∙◌, arith, Bool, if◌then◌else◌, filter}
use Rattle.std.specs.List.{All, list_all}
use Rattle.std.specs.Ordering.{is_lt, is_le}
use Rattle.std.proofs.Math.Nat.{div-mul_cancel, mul-le-mul_right}
use Rattle.std.proofs.lemmas.Bool.Decides.{nat_tests}
use Rattle.std.proofs.lemmas.List.Elements.{All-head, All-tail}
use Rattle.stp_frac.specs.Divisors.{divides}
use Rattle.stp_frac.specs.Fractions.{is_below_zero}
use Rattle.stp_frac.proofs.Divisors.{divides_to}
use Rattle.stp_tables.specs.Atoms.{Atom}
use Rattle.stp_schema.specs.Timed.{PlainTimedFact, IsTimedFact, is_chosen, is_fixed, comes_before, are_in_order}
use Rattle.stp_happen.specs.Owners.{PlainBoxTimed, timed_before}
use Rattle.stp_happen.specs.Sound.{is_ascending}
use Rattle.stp_exec.specs.Timed.{count_of, event_lies_on}
use Rattle.stp_exec.specs.Plans.{timed_in}
use Rattle.stp_exec.proofs.Bounds.{Lies, above_on, at_most_count, bottom_pos, count_order, first_lies, second_lies}

less_count : (m n : ℕ) → is_lt (nat_cmp m n) ≡ nat_lt m n
less_count m n = grind (arith, nat_tests)

equal_counts : (m n : ℕ) → is_lt (nat_cmp m n) ≡ false → m ≤ n → m ≡ n
equal_counts m n h k = grind (arith, nat_tests)

moment_bound : (t b q grid : ℕ) → q * b ≡ grid → t ≤ 100000000 * b → t * q ≤ 100000000 * grid
moment_bound t b q grid e h =
    let most : t * q ≤ 100000000 * b * q = mul-le-mul_right q h in
    let whole : 100000000 * (q * b) ≡ 100000000 * grid = ap (λ n. 100000000 * n) e in
    omega (arith, most, whole)

-- ---- one event

module _ (grid : ℕ) (pg : 0 < grid) (e : PlainTimedFact) (kept : IsTimedFact e) (lies : event_lies_on grid e ≡ true) where
  pub low_lies : Lies grid e.low
  low_lies = first_lies grid e.low (divides e.high.bottom grid && true) lies

  pub high_lies : Lies grid e.high
  high_lies = second_lies grid e.low e.high lies

  pub high_above : is_below_zero e.high.top ≡ false
  high_above = above_on e.low e.high (bottom_pos grid e.low pg low_lies) kept.early kept.up

  pub moments_up : count_of grid e.low ≤ count_of grid e.high
  moments_up = at_most_count (count_of grid e.low) (count_of grid e.high) (sym (ap is_le (count_order grid e.low e.high pg low_lies high_lies kept.early high_above)) ∙ kept.up)

  -- the moments of an event at a fixed time are one
  pub moments_same : is_chosen e ≡ false → count_of grid e.low ≡ count_of grid e.high
  moments_same h = equal_counts (count_of grid e.low) (count_of grid e.high) (sym (ap is_lt (count_order grid e.low e.high pg low_lies high_lies kept.early high_above)) ∙ h) moments_up

  pub moment_early : count_of grid e.high ≤ 100000000 * grid
  moment_early = moment_bound (unsigned_abs e.high.top) e.high.bottom (grid / e.high.bottom) grid (div-mul_cancel e.high.bottom (divides_to e.high.bottom grid high_lies)) kept.late

-- ---- all events, in order

module _ (grid : ℕ) (pg : 0 < grid) (table : List Atom) where
  abbrev at : PlainTimedFact → PlainBoxTimed
  at e = timed_in table grid e

  before_is : (e f : PlainTimedFact) → IsTimedFact e → event_lies_on grid e ≡ true → IsTimedFact f → event_lies_on grid f ≡ true → comes_before e f ≡ timed_before (at e) (at f)
  before_is e f ke le kf lf =
      ap (λ b. is_chosen f || (is_fixed e && b))
      (ap is_lt (count_order grid e.high f.high pg (high_lies grid pg e ke le) (high_lies grid pg f kf lf) (high_above grid pg e ke le) (high_above grid pg f kf lf))
      ∙ less_count (count_of grid e.high) (count_of grid f.high))

  before_all : (e : PlainTimedFact) (es : List PlainTimedFact) → IsTimedFact e → event_lies_on grid e ≡ true → All IsTimedFact es → All (λ f. event_lies_on grid f ≡ true) es → list_all (comes_before e) es ≡ list_all (timed_before (at e)) (map at es)
  before_all e [] ke le ks ls = refl
  before_all e (f ∷ es) ke le ks ls =
      ap₂ (λ a b. a && b)
      (before_is e f ke le (All-head IsTimedFact f es ks) (All-head (λ f. event_lies_on grid f ≡ true) f es ls))
      (before_all e es ke le (All-tail IsTimedFact f es ks) (All-tail (λ f. event_lies_on grid f ≡ true) f es ls))

  pub order_is : (es : List PlainTimedFact) → All IsTimedFact es → All (λ e. event_lies_on grid e ≡ true) es → are_in_order es ≡ is_ascending timed_before (map at es)
  order_is [] ks ls = refl
  order_is (e ∷ es) ks ls =
      ap₂ (λ a b. a && b)
      (before_all e es (All-head IsTimedFact e es ks) (All-head (λ f. event_lies_on grid f ≡ true) e es ls) (All-tail IsTimedFact e es ks) (All-tail (λ f. event_lies_on grid f ≡ true) e es ls))
      (order_is es (All-tail IsTimedFact e es ks) (All-tail (λ f. event_lies_on grid f ≡ true) e es ls))

-- ---- how many there are

one_kept : (b : Bool) (x : PlainBoxTimed) (xs : List PlainBoxTimed) (e : PlainTimedFact) (es : List PlainTimedFact) → length xs ≡ length es → length (if b then x ∷ xs else xs) ≡ length (if b then e ∷ es else es)
one_kept true x xs e es h = ap suc h
one_kept false x xs e es h = h

module _ (grid : ℕ) (table : List Atom) where
  -- as many events of a kind as there are before they are put on a grid
  pub as_many : (p : PlainBoxTimed → Bool) (es : List PlainTimedFact) → length (filter p (map (timed_in table grid) es)) ≡ length (filter (λ e. p (timed_in table grid e)) es)
  as_many p [] = refl
  as_many p (e ∷ es) =
      one_kept (p (timed_in table grid e)) (timed_in table grid e) (filter p (map (timed_in table grid) es)) e (filter (λ e. p (timed_in table grid e)) es) (as_many p es)
