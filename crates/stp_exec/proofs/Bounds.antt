-- What lawful durations are, and when steps end on a grid.
use Rattle.std.proofs.Common.{◌≡◌, ◌≢◌, ℕ, zero as none, suc, ◌+◌, ◌*◌, ◌/◌, ◌^◌, ◌<◌, ◌≤◌, nat_lt, Bool, true, false, ◌&&◌, ◌||◌, ℤ, pos, negsuc, ◌*ℤ◌, neg_ℤ, int_cmp, nat_cmp, unsigned_abs, Some, None, refl, sym, ap, ap₂, ◌∙◌, subst, ⊎_elim, true≢false, arith, mul-one, zero-mul, mul-pos, mul-lt-mul_of_pos_right, lt_of_mul-lt-mul_right}
use Rattle.std.specs.List.{list_all}
use Rattle.std.proofs.Math.Nat.{div-mul_cancel, pos_of_dvd_of_pos, mul-le-mul, mul-le-mul_right, le_of_mul-le-mul_right, div-le_self, one-dvd}
use Rattle.std.proofs.lemmas.Bool.{cases_lt}
use Rattle.std.proofs.lemmas.Bool.Decides.{nat_tests}
use Rattle.std.specs.Ordering.{is_lt, is_le}
use Rattle.stp_frac.specs.declared.frac.Frac.{Frac}
use Rattle.stp_frac.specs.Divisors.{divides}
use Rattle.stp_frac.specs.Fractions.{Fraction, value_of, order_of, on_grid_of, is_below_zero, zero, is_less, is_at_most}
use Rattle.stp_frac.proofs.Divisors.{divides_from, divides_to, left_true, right_true}
use Rattle.stp_frac.proofs.Counts.{count_on_multiple, counts_keep_order}
use Rattle.stp_frac.proofs.Values.{abs_signed}
use Rattle.stp_exec.specs.Held.{PlainHeld, Instant, Fixed, Open, is_lawful_held}
use Rattle.stp_exec.specs.Timed.{PlainTimedStep, held_denominators, lies_on, count_of, ends_of, moments_of, greatest_of, is_sum_late, is_too_late}

-- ---- numbers above 0

times_one : (n : ℕ) → negsuc n *ℤ pos 1 ≡ negsuc n
times_one n = ap (λ m. neg_ℤ (pos m)) (mul-one (suc n))

above_zero_top : (z : ℤ) (b : ℕ) → is_less zero (record { top = z; bottom = b }) ≡ true → (is_below_zero z ≡ false) × (0 < unsigned_abs z)
unfolding order_of
above_zero_top (pos n) b h = (refl, grind (arith, nat_tests))
above_zero_top (negsuc n) b h = absurd (true≢false (sym h ∙ ap (λ z. is_lt (int_cmp (pos (0 * b)) z)) (times_one n)))

pub above_zero : (f : Fraction) → is_less zero f ≡ true → (is_below_zero f.top ≡ false) × (0 < unsigned_abs f.top)
above_zero f h = above_zero_top f.top f.bottom h

never_at_most : (x k : ℕ) → 0 < k → is_le (int_cmp (pos x) (neg_ℤ (pos k))) ≡ true → ⊥
never_at_most x none h e = absurd (omega arith)
never_at_most x (suc k) h e = true≢false (sym e)

more_above : (a b m c : ℕ) → 0 < a → 0 < c → is_le (int_cmp (pos (a * c)) (pos (m * b))) ≡ true → is_lt (int_cmp (pos (0 * c)) (pos (m * 1))) ≡ true
more_above a b none c pa pc h = absurd (grind (arith, nat_tests, mul-pos pa pc))
more_above a b (suc m) c pa pc h = grind (arith, nat_tests)

less_on_top : (y z : ℤ) (b c : ℕ) → 0 < b → 0 < c → is_below_zero y ≡ false → 0 < unsigned_abs y → is_le (int_cmp (y *ℤ pos c) (z *ℤ pos b)) ≡ true → is_lt (int_cmp (pos 0 *ℤ pos c) (z *ℤ pos 1)) ≡ true
less_on_top (pos a) (pos m) b c pb pc sign some h = more_above a b m c some pc h
less_on_top (pos a) (negsuc m) b c pb pc sign some h = absurd (never_at_most (a * c) (suc m * b) (mul-pos (omega arith) pb) h)
less_on_top (negsuc a) z b c pb pc sign some h = absurd (true≢false sign)

-- a number that is at least one above 0 is above 0
pub less_on : (f g : Fraction) → 0 < f.bottom → 0 < g.bottom → is_less zero f ≡ true → is_at_most f g ≡ true → is_less zero g ≡ true
unfolding order_of
less_on f g pf pg h k = less_on_top f.top g.top f.bottom g.bottom pf pg (above_zero f h).0 (above_zero f h).1 k

above_on_top : (y z : ℤ) (b c : ℕ) → 0 < b → is_below_zero y ≡ false → is_le (int_cmp (y *ℤ pos c) (z *ℤ pos b)) ≡ true → is_below_zero z ≡ false
above_on_top (pos a) (pos m) b c pb sign h = refl
above_on_top (pos a) (negsuc m) b c pb sign h = absurd (never_at_most (a * c) (suc m * b) (mul-pos (omega arith) pb) h)
above_on_top (negsuc a) z b c pb sign h = absurd (true≢false sign)

-- a number that is at least one from 0 on is from 0 on
pub above_on : (f g : Fraction) → 0 < f.bottom → is_below_zero f.top ≡ false → is_at_most f g ≡ true → is_below_zero g.top ≡ false
unfolding order_of
above_on f g pf h k = above_on_top f.top g.top f.bottom g.bottom pf h k

-- ---- counts

-- a denominator that divides a grid
abbrev pub Lies : ℕ → Fraction → Type 0
Lies grid f = divides f.bottom grid ≡ true

pub bottom_pos : (grid : ℕ) (f : Fraction) → 0 < grid → Lies grid f → 0 < f.bottom
bottom_pos grid f pg h = pos_of_dvd_of_pos (divides_to f.bottom grid h) pg

pub count_is : (grid : ℕ) (f : Fraction) → 0 < grid → Lies grid f → is_below_zero f.top ≡ false → on_grid_of grid f ≡ Some (count_of grid f)
count_is grid f pg h above = count_on_multiple f grid (bottom_pos grid f pg h) (divides_to f.bottom grid h) above

count_bound : (top grid bottom : ℕ) → top < 10 ^ 18 → grid ≤ 999999999 → top * (grid / bottom) ≤ 10 ^ 27
count_bound top grid bottom h k =
    let q : grid / bottom ≤ 999999999 = omega (arith, div-le_self grid bottom, k) in
    let t : top ≤ 999999999999999999 = omega (arith, h) in
    let p : top * (grid / bottom) ≤ 999999999999999999 * 999999999 = mul-le-mul t q in
    omega (arith, p)

pub count_small : (grid : ℕ) (f : Frac) → grid ≤ 999999999 → count_of grid (value_of f) ≤ 10 ^ 27
count_small grid f h = subst (λ t. t * (grid / f.bottom) ≤ 10 ^ 27) (sym (abs_signed f.negative f.top)) (count_bound f.top grid f.bottom f.size h)

part_pos : (grid : ℕ) (f : Fraction) → 0 < grid → Lies grid f → 0 < grid / f.bottom
part_pos grid f pg h = grind (arith, div-mul_cancel f.bottom (divides_to f.bottom grid h))

pub count_pos : (grid : ℕ) (f : Fraction) → 0 < grid → Lies grid f → 0 < unsigned_abs f.top → 0 < count_of grid f
count_pos grid f pg h some = mul-pos some (part_pos grid f pg h)

-- ---- late sums

less_scaled : (x y x' y' m n : ℕ) → 0 < m → x * m ≡ x' * n → y * m ≡ y' * n → x < y → x' < y'
less_scaled x y x' y' m n pm e e' h =
    let up : x * m < y * m = mul-lt-mul_of_pos_right h pm in
    let scaled : x' * n < y' * n = omega (arith, up, e, e') in
    lt_of_mul-lt-mul_right n scaled

less_unscaled : (x y x' y' m n : ℕ) → 0 < n → x * m ≡ x' * n → y * m ≡ y' * n → y ≤ x → y' ≤ x'
less_unscaled x y x' y' m n pn e e' h =
    let up : y * m ≤ x * m = mul-le-mul_right m h in
    let scaled : y' * n ≤ x' * n = omega (arith, up, e, e') in
    le_of_mul-le-mul_right scaled pn

test_scaled : (x y x' y' m n : ℕ) → 0 < m → 0 < n → x * m ≡ x' * n → y * m ≡ y' * n → nat_lt x y ≡ nat_lt x' y'
test_scaled x y x' y' m n pm pn e e' =
    ⊎_elim
    (λ h. let h' : x' < y' = less_scaled x y x' y' m n pm e e' h in grind (arith, nat_tests))
    (λ h. let h' : y' ≤ x' = less_unscaled x y x' y' m n pn e e' h in grind (arith, nat_tests))
    (cases_lt x y)

late_along : (a b c e grid q r : ℕ) → 0 < grid → 0 < b → 0 < e → q * b ≡ grid → r * e ≡ grid → nat_lt (999999999 * grid) (a * q + c * r) ≡ nat_lt (999999999 * (b * e)) (a * e + c * b)
late_along a b c e grid q r pg pb pe eq er =
    let one : a * e * (q * b) ≡ a * e * grid = ap (λ n. a * e * n) eq in
    let other : c * b * (r * e) ≡ c * b * grid = ap (λ n. c * b * n) er in
    test_scaled (999999999 * grid) (a * q + c * r) (999999999 * (b * e)) (a * e + c * b) (b * e) grid (mul-pos pb pe) pg
    (omega arith) (omega (arith, one, other))

pub sum_late_is : (grid : ℕ) (f g : Fraction) → 0 < grid → Lies grid f → Lies grid g → is_sum_late f g ≡ nat_lt (999999999 * grid) (count_of grid f + count_of grid g)
sum_late_is grid f g pg lf lg =
    sym (late_along (unsigned_abs f.top) f.bottom (unsigned_abs g.top) g.bottom grid (grid / f.bottom) (grid / g.bottom) pg (bottom_pos grid f pg lf) (bottom_pos grid g pg lg)
    (div-mul_cancel f.bottom (divides_to f.bottom grid lf)) (div-mul_cancel g.bottom (divides_to g.bottom grid lg)))

or_more : (limit s c n : ℕ) → n ≡ 0 → (nat_lt limit (s + n) || nat_lt limit (s + c)) ≡ nat_lt limit (s + c)
or_more limit s c n e = grind (arith, nat_tests)

zero_lies : (grid : ℕ) → Lies grid zero
zero_lies grid = divides_from 1 grid (one-dvd grid)

late_or : (grid : ℕ) (f g : Fraction) → 0 < grid → Lies grid f → Lies grid g → (is_sum_late f zero || is_sum_late f g) ≡ nat_lt (999999999 * grid) (count_of grid f + count_of grid g)
late_or grid f g pg lf lg =
    ap₂ (λ s t. s || t) (sum_late_is grid f zero pg lf (zero_lies grid)) (sum_late_is grid f g pg lf lg)
    ∙ or_more (999999999 * grid) (count_of grid f) (count_of grid g) (count_of grid zero) (zero-mul (grid / 1))

-- ---- when steps end

abbrev pub HeldLies : ℕ → PlainHeld → Type 0
HeldLies grid held = list_all (λ d. divides d grid) (held_denominators held) ≡ true

-- numbers from 0 on are ordered as their counts are
pub count_order : (grid : ℕ) (f g : Fraction) → 0 < grid → Lies grid f → Lies grid g → is_below_zero f.top ≡ false → is_below_zero g.top ≡ false → order_of f g ≡ nat_cmp (count_of grid f) (count_of grid g)
count_order grid f g pg lf lg above above' =
    counts_keep_order f g grid (count_of grid f) (count_of grid g) pg (bottom_pos grid f pg lf) (bottom_pos grid g pg lg) (count_is grid f pg lf above) (count_is grid g pg lg above')

pub at_most_count : (m n : ℕ) → is_le (nat_cmp m n) ≡ true → m ≤ n
at_most_count m n h = grind (arith, nat_tests)

count_ordered : (grid : ℕ) (f g : Fraction) → 0 < grid → Lies grid f → Lies grid g → is_less zero f ≡ true → is_less zero g ≡ true → is_at_most f g ≡ true → count_of grid f ≤ count_of grid g
count_ordered grid f g pg lf lg some some' h =
    at_most_count (count_of grid f) (count_of grid g) (sym (ap is_le (count_order grid f g pg lf lg (above_zero f some).0 (above_zero g some').0)) ∙ h)

high_above : (grid : ℕ) (low high : Fraction) → 0 < grid → Lies grid low → Lies grid high → (is_less zero low && is_at_most low high) ≡ true → is_less zero high ≡ true
high_above grid low high pg ll lh h =
    less_on low high (bottom_pos grid low pg ll) (bottom_pos grid high pg lh) (left_true (is_less zero low) (is_at_most low high) h) (right_true (is_less zero low) (is_at_most low high) h)

-- what the denominators of a held time say of its bounds
pub first_lies : (grid : ℕ) (f : Fraction) (rest : Bool) → (divides f.bottom grid && rest) ≡ true → Lies grid f
first_lies grid f rest h = left_true (divides f.bottom grid) rest h

pub second_lies : (grid : ℕ) (f g : Fraction) → (divides f.bottom grid && (divides g.bottom grid && true)) ≡ true → Lies grid g
second_lies grid f g h = left_true (divides g.bottom grid) true (right_true (divides f.bottom grid) (divides g.bottom grid && true) h)

pub ends_ordered : (grid start : ℕ) (held : PlainHeld) → 0 < grid → is_lawful_held held ≡ true → HeldLies grid held → (start ≤ (ends_of grid start held).0) × ((ends_of grid start held).0 ≤ (ends_of grid start held).1)
ends_ordered grid start Instant pg h l = (omega arith, omega arith)
ends_ordered grid start (Fixed duration) pg h l = (omega arith, omega arith)
ends_ordered grid start (Open low high) pg h l =
    let ll = first_lies grid low (divides high.bottom grid && true) l in
    let lh = second_lies grid low high l in
    let k : count_of grid low ≤ count_of grid high = count_ordered grid low high pg ll lh (left_true (is_less zero low) (is_at_most low high) h) (high_above grid low high pg ll lh h) (right_true (is_less zero low) (is_at_most low high) h) in
    (omega arith, omega (arith, k))

pub ends_later : (grid start : ℕ) (held : PlainHeld) → 0 < grid → is_lawful_held held ≡ true → HeldLies grid held → held ≢ Instant → start < (ends_of grid start held).0
ends_later grid start Instant pg h l some = absurd (some refl)
ends_later grid start (Fixed duration) pg h l some =
    let k : 0 < count_of grid duration = count_pos grid duration pg (first_lies grid duration true l) (above_zero duration h).1 in omega (arith, k)
ends_later grid start (Open low high) pg h l some =
    let k : 0 < count_of grid low = count_pos grid low pg (first_lies grid low (divides high.bottom grid && true) l) (above_zero low (left_true (is_less zero low) (is_at_most low high) h)).1 in omega (arith, k)

pub late_ends : (grid : ℕ) (f : Fraction) (held : PlainHeld) → 0 < grid → Lies grid f → HeldLies grid held → (is_sum_late f zero || is_sum_late f (greatest_of held)) ≡ nat_lt (999999999 * grid) (ends_of grid (count_of grid f) held).1
late_ends grid f Instant pg lf l =
    late_or grid f zero pg lf (zero_lies grid)
    ∙ ap (nat_lt (999999999 * grid)) (ap (λ n. count_of grid f + n) (zero-mul (grid / 1)) ∙ (omega arith))
late_ends grid f (Fixed duration) pg lf l = late_or grid f duration pg lf (first_lies grid duration true l)
late_ends grid f (Open low high) pg lf l = late_or grid f high pg lf (second_lies grid low high l)

-- ---- numbers of held times are from 0 on

pub fixed_above : (f : Fraction) → is_lawful_held (Fixed f) ≡ true → is_below_zero f.top ≡ false
fixed_above f h = (above_zero f h).0

pub low_above : (low high : Fraction) → is_lawful_held (Open low high) ≡ true → is_below_zero low.top ≡ false
low_above low high h = (above_zero low (left_true (is_less zero low) (is_at_most low high) h)).0

pub high_above_zero : (grid : ℕ) (low high : Fraction) → 0 < grid → HeldLies grid (Open low high) → is_lawful_held (Open low high) ≡ true → is_below_zero high.top ≡ false
high_above_zero grid low high pg l h =
    (above_zero high (high_above grid low high pg (first_lies grid low (divides high.bottom grid && true) l) (second_lies grid low high l) h)).0

-- ---- counts of calls

pub none_not_some : (n : ℕ) → None ≡ Some n → ⊥
none_not_some n e = cc

pub some_same : (m n : ℕ) → Some m ≡ Some n → m ≡ n
some_same m n e = cc

-- ---- steps that end too late

pub late_moments : (grid : ℕ) (step : PlainTimedStep) → 0 < grid → lies_on grid step ≡ true → is_too_late step ≡ nat_lt (999999999 * grid) (moments_of grid step).high
late_moments grid step pg l =
    late_ends grid step.start step.held pg
    (left_true (divides step.start.bottom grid) (list_all (λ d. divides d grid) (held_denominators step.held)) l)
    (right_true (divides step.start.bottom grid) (list_all (λ d. divides d grid) (held_denominators step.held)) l)

within_test : (limit n : ℕ) → nat_lt limit n ≡ false → n ≤ limit
within_test limit n e = grind (arith, nat_tests)

pub in_time : (grid : ℕ) (step : PlainTimedStep) → 0 < grid → lies_on grid step ≡ true → is_too_late step ≡ false → (moments_of grid step).high ≤ 999999999 * grid
in_time grid step pg l early = within_test (999999999 * grid) (moments_of grid step).high (sym (late_moments grid step pg l) ∙ early)

-- ---- numbers below 0

below_zero_top : (z : ℤ) (b : ℕ) → is_lt (int_cmp (z *ℤ pos 1) (pos 0 *ℤ pos b)) ≡ is_below_zero z
below_zero_top (pos n) b = below_none (n * 1) (0 * b) (zero-mul b)
  where
    below_none : (x y : ℕ) → y ≡ 0 → is_lt (int_cmp (pos x) (pos y)) ≡ false
    below_none x y e = grind (arith, nat_tests)
below_zero_top (negsuc n) b = ap (λ z. is_lt (int_cmp z (pos (0 * b)))) (times_one n)

pub below_zero : (f : Fraction) → is_lt (order_of f zero) ≡ is_below_zero f.top
unfolding order_of
below_zero f = below_zero_top f.top f.bottom
