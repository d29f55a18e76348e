-- The order of times from 0 on.
use Rattle.std.proofs.Common.{◌≡◌, ℕ, suc, ◌*◌, ◌<◌, ◌≤◌, nat_lt, nat_le, true, false, ℤ, pos, negsuc, ◌*ℤ◌, neg_ℤ, int_cmp, unsigned_abs, Equal, Greater, refl, sym, ap, ap₂, ◌∙◌, subst, true≢false, arith, mul-one, mul-lt-mul_of_pos_right, lt_of_mul-lt-mul_right, mul_right_comm}
use Rattle.std.specs.Ordering.{is_lt, is_le}
use Rattle.std.proofs.lemmas.Bool.Decides.{nat_tests}
use Rattle.stp_base.specs.declared.limits.TheConstants.{MAX_MOMENT}
use Rattle.stp_frac.proofs.Divisors.{left_true, right_true}
use Rattle.stp_frac.specs.Fractions.{Fraction, order_of, is_below_zero, zero, is_less, is_at_most}
use Rattle.stp_problem.specs.Windows.{latest, is_time}

-- a time from 0 on, which is not too late
pub record IsTime (t : Fraction) : Type 0 where
  pub early : is_below_zero t.top ≡ false
  pub late : unsigned_abs t.top ≤ MAX_MOMENT * t.bottom
  pub bottom : 0 < t.bottom

natural : (z : ℤ) → is_below_zero z ≡ false → z ≡ pos (unsigned_abs z)
natural (pos n) e = refl
natural (negsuc n) e = absurd (true≢false e)

abbrev over : ℕ → ℕ → Fraction
over a p = record { top = pos a; bottom = p }

natural_time : (t : Fraction) → IsTime t → t ≡ over (unsigned_abs t.top) t.bottom
natural_time t h = ap (λ z. (let f : Fraction = record { top = z; bottom = t.bottom } in f)) (natural t.top h.early)

-- ---- orders of naturals

less_is : (x y : ℕ) → is_lt (int_cmp (pos x) (pos y)) ≡ nat_lt x y
less_is x y = grind (arith, nat_tests)

most_is : (x y : ℕ) → is_le (int_cmp (pos x) (pos y)) ≡ nat_le x y
most_is x y = grind (arith, nat_tests)

same_order : (x : ℕ) → int_cmp (pos x) (pos x) ≡ Equal
same_order x = grind (arith, nat_tests)

turned_order : (x y : ℕ) → int_cmp (pos x) (pos y) ≡ Greater → is_lt (int_cmp (pos y) (pos x)) ≡ true
turned_order x y e = grind (arith, nat_tests, e)

to_less : (x y : ℕ) → nat_lt x y ≡ true → x < y
to_less x y e = grind (arith, nat_tests, e)

from_less : (x y : ℕ) → x < y → nat_lt x y ≡ true
from_less x y e = grind (arith, nat_tests, e)

less_through : (a p b q c r : ℕ) → 0 < p → 0 < q → 0 < r → a * q < b * p → b * r < c * q → a * r < c * p
less_through a p b q c r pp pq pr h k =
    let one : a * q * r < b * p * r = mul-lt-mul_of_pos_right h pr in
    let other : b * r * p < c * q * p = mul-lt-mul_of_pos_right k pp in
    lt_of_mul-lt-mul_right q
    (let e : a * q * r ≡ a * r * q = mul_right_comm a q r in
    let f : b * p * r ≡ b * r * p = mul_right_comm b p r in
    let g : c * q * p ≡ c * p * q = mul_right_comm c q p in
    omega (arith, one, other, e, f, g))

-- ---- orders of times

less_over : (a p b q : ℕ) → is_less (over a p) (over b q) ≡ nat_lt (a * q) (b * p)
unfolding order_of
less_over a p b q = less_is (a * q) (b * p)

turned_over : (a p b q : ℕ) → order_of (over a p) (over b q) ≡ Greater → is_less (over b q) (over a p) ≡ true
unfolding order_of
turned_over a p b q e = turned_order (a * q) (b * p) e

same_over : (a p : ℕ) → order_of (over a p) (over a p) ≡ Equal
unfolding order_of
same_over a p = same_order (a * p)

pub same_time : (t : Fraction) → IsTime t → order_of t t ≡ Equal
same_time t h = subst (λ u. order_of u u ≡ Equal) (sym (natural_time t h)) (same_over (unsigned_abs t.top) t.bottom)

pub later : (t u : Fraction) → IsTime t → IsTime u → order_of t u ≡ Greater → is_less u t ≡ true
later t u h k e =
    ap₂ is_less (natural_time u k) (natural_time t h)
    ∙ turned_over (unsigned_abs t.top) t.bottom (unsigned_abs u.top) u.bottom (sym (ap₂ order_of (natural_time t h) (natural_time u k)) ∙ e)

less_times : (t u : Fraction) → IsTime t → IsTime u → is_less t u ≡ nat_lt (unsigned_abs t.top * u.bottom) (unsigned_abs u.top * t.bottom)
less_times t u h k = ap₂ is_less (natural_time t h) (natural_time u k) ∙ less_over (unsigned_abs t.top) t.bottom (unsigned_abs u.top) u.bottom

pub before_both : (t u v : Fraction) → IsTime t → IsTime u → IsTime v → is_less t u ≡ true → is_less u v ≡ true → is_less t v ≡ true
before_both t u v h k l e f =
    less_times t v h l
    ∙ from_less (unsigned_abs t.top * v.bottom) (unsigned_abs v.top * t.bottom)
    (less_through (unsigned_abs t.top) t.bottom (unsigned_abs u.top) u.bottom (unsigned_abs v.top) v.bottom h.bottom k.bottom l.bottom
    (to_less (unsigned_abs t.top * u.bottom) (unsigned_abs u.top * t.bottom) (sym (less_times t u h k) ∙ e))
    (to_less (unsigned_abs u.top * v.bottom) (unsigned_abs v.top * u.bottom) (sym (less_times u v k l) ∙ f)))

-- ---- what the test of a time says

times_one : (n : ℕ) → negsuc n *ℤ pos 1 ≡ negsuc n
times_one n = ap (λ m. neg_ℤ (pos m)) (mul-one (suc n))

below_late : (n b : ℕ) → is_le (int_cmp (pos (n * 1)) (pos (MAX_MOMENT * b))) ≡ true → n ≤ MAX_MOMENT * b
below_late n b e = grind (arith, nat_tests, mul-one n, most_is (n * 1) (MAX_MOMENT * b), e)

early_top : (z : ℤ) (b : ℕ) → is_at_most zero (record { top = z; bottom = b }) ≡ true → is_below_zero z ≡ false
unfolding order_of
early_top (pos n) b h = refl
early_top (negsuc n) b h = absurd (true≢false (sym h ∙ ap (λ z. is_le (int_cmp (pos (0 * b)) z)) (times_one n)))

late_top : (z : ℤ) (b : ℕ) → is_below_zero z ≡ false → is_at_most (record { top = z; bottom = b }) latest ≡ true → unsigned_abs z ≤ MAX_MOMENT * b
unfolding order_of
late_top (pos n) b e h = below_late n b h
late_top (negsuc n) b e h = absurd (true≢false e)

pub time_is : (t : Fraction) → 0 < t.bottom → is_time t ≡ true → IsTime t
time_is t h e =
    let early : is_below_zero t.top ≡ false = early_top t.top t.bottom (left_true (is_at_most zero t) (is_at_most t latest) e) in
    record { early = early; late = late_top t.top t.bottom early (right_true (is_at_most zero t) (is_at_most t latest) e); bottom = h }
