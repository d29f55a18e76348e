-- A step of a plan whose action takes time ends after its start on each grid on which it lies.
use Rattle.std.proofs.Common.{◌≡◌, ℕ, zero as none, suc, ◌*◌, ◌<◌, ◌≤◌, nat_cmp, true, false, ◌&&◌, ℤ, pos, negsuc, ◌*ℤ◌, neg_ℤ, int_cmp, unsigned_abs, refl, sym, ap, ◌∙◌, arith, true≢false, mul-pos}
use Rattle.std.specs.Ordering.{is_eq, is_lt, is_le}
use Rattle.std.specs.declared.cmp.Ordering.{Ordering}
use Rattle.std.specs.declared.cmp.Ordering.TheVariants.{Less, Equal, Greater}
use Rattle.std.proofs.Math.Nat.{dvd-mul_left, dvd-mul_right}
use Rattle.std.proofs.lemmas.Bool.Decides.{nat_tests}
use Rattle.std.proofs.lemmas.Nat.Gcd.{dvd_trans}
use Rattle.stp_frac.specs.Fractions.{Fraction, order_of, is_at_most, is_below_zero, is_less, zero}
use Rattle.stp_frac.proofs.Divisors.{both_true, divides_from, left_true, right_true}
use Rattle.stp_exec.specs.Held.{is_pair, is_same, is_within}
use Rattle.stp_exec.specs.Timed.{count_of}
use Rattle.stp_exec.proofs.Bounds.{Lies, above_zero, count_order}

-- ---- fractions with a denominator that is not known

-- a number that is at least one above 0 is above 0
above_top : (a m b c : ℕ) → 0 < a → 0 < c → is_le (int_cmp (pos (a * c)) (pos (m * b))) ≡ true → (0 < m) × (0 < b)
above_top a none b c pa pc h = absurd (grind (arith, nat_tests, mul-pos pa pc))
above_top a (suc m) none c pa pc h = absurd (grind (arith, nat_tests, mul-pos pa pc))
above_top a (suc m) (suc b) c pa pc h = (omega arith, omega arith)

above_none : (x : ℕ) → 0 < x → is_le (int_cmp (pos x) (pos 0)) ≡ true → ⊥
above_none x h e = grind (arith, nat_tests)

never_at_most : (x k : ℕ) → 0 < x → is_le (int_cmp (pos x) (neg_ℤ (pos k))) ≡ true → ⊥
never_at_most x none h e = above_none x h e
never_at_most x (suc k) h e = true≢false (sym e)

-- both are above 0, and the denominator of the lesser is too
record IsAbove (z : ℤ) (b : ℕ) : Type 0 where
  sign : is_below_zero z ≡ false
  some : 0 < unsigned_abs z
  bottom : 0 < b

above_at : (y z : ℤ) (b c : ℕ) → 0 < c → is_below_zero y ≡ false → 0 < unsigned_abs y → is_le (int_cmp (y *ℤ pos c) (z *ℤ pos b)) ≡ true → IsAbove z b
above_at (pos a) (pos m) b c pc sign some h = let r = above_top a m b c some pc h in record { sign = refl; some = r.0; bottom = r.1 }
above_at (pos a) (negsuc m) b c pc sign some h = absurd (never_at_most (a * c) (suc m * b) (mul-pos some pc) h)
above_at (negsuc a) z b c pc sign some h = absurd (true≢false sign)

above : (f g : Fraction) → 0 < g.bottom → is_less zero f ≡ true → is_at_most f g ≡ true → IsAbove g.top f.bottom
unfolding order_of
above f g pg h k = above_at f.top g.top f.bottom g.bottom pg (above_zero f h).0 (above_zero f h).1 k

above_least : (a m b c : ℕ) → is_lt (int_cmp (pos (a * c)) (pos (m * b))) ≡ true → (0 < m) × (0 < b)
above_least a none b c h = absurd (grind (arith, nat_tests))
above_least a (suc m) none c h = absurd (grind (arith, nat_tests))
above_least a (suc m) (suc b) c h = (omega arith, omega arith)

never_less : (x k : ℕ) → is_lt (int_cmp (pos x) (neg_ℤ (pos k))) ≡ true → ⊥
never_less x none h = grind (arith, nat_tests)
never_less x (suc k) h = true≢false (sym h)

less_at : (y z : ℤ) (b c : ℕ) → is_below_zero y ≡ false → is_lt (int_cmp (y *ℤ pos c) (z *ℤ pos b)) ≡ true → IsAbove z b
less_at (pos a) (pos m) b c sign h = let r = above_least a m b c h in record { sign = refl; some = r.0; bottom = r.1 }
less_at (pos a) (negsuc m) b c sign h = absurd (never_less (a * c) (suc m * b) h)
less_at (negsuc a) z b c sign h = absurd (true≢false sign)

-- a number that is more than one above 0 is above 0
more : (f g : Fraction) → is_less zero f ≡ true → is_less f g ≡ true → IsAbove g.top f.bottom
unfolding order_of
more f g h k = less_at f.top g.top f.bottom g.bottom (above_zero f h).0 k

less_above : (z : ℤ) (b c : ℕ) → IsAbove z b → is_lt (int_cmp (pos 0 *ℤ pos c) (z *ℤ pos 1)) ≡ true
less_above (pos m) b c h = let k = h.some in grind (arith, nat_tests)
less_above (negsuc m) b c h = absurd (true≢false h.sign)

above_less : (f g : Fraction) → IsAbove g.top f.bottom → is_less zero g ≡ true
unfolding order_of
above_less f g h = less_above g.top f.bottom g.bottom h

-- ---- equal fractions

same_at_most : (o : Ordering) → is_eq o ≡ true → is_le o ≡ true
same_at_most Less e = refl
same_at_most Equal e = refl
same_at_most Greater e = e

less_at_most : (o : Ordering) → is_lt o ≡ true → is_le o ≡ true
less_at_most Less e = refl
less_at_most Equal e = refl
less_at_most Greater e = e

turned_ints : (x y : ℤ) → is_eq (int_cmp x y) ≡ true → is_eq (int_cmp y x) ≡ true
turned_ints (pos m) (pos n) e = grind (arith, nat_tests)
turned_ints (pos m) (negsuc n) e = e
turned_ints (negsuc m) (pos n) e = e
turned_ints (negsuc m) (negsuc n) e = grind (arith, nat_tests)

same_turned : (f g : Fraction) → is_same f g ≡ true → is_same g f ≡ true
unfolding order_of
same_turned f g e = turned_ints (f.top *ℤ pos g.bottom) (g.top *ℤ pos f.bottom) e

equal_counts : (m n : ℕ) → is_eq (nat_cmp m n) ≡ true → m ≡ n
equal_counts m n e = grind (arith, nat_tests)

less_counts : (m n : ℕ) → is_lt (nat_cmp m n) ≡ true → m < n
less_counts m n e = grind (arith, nat_tests)

up_counts : (m n : ℕ) → m ≤ n → is_le (nat_cmp m n) ≡ true
up_counts m n e = grind (arith, nat_tests)

-- a number from 0 on, over one from 1 on
record IsProper (f : Fraction) : Type 0 where
  bottom : 0 < f.bottom
  sign : is_below_zero f.top ≡ false

module _ (g : ℕ) (pg : 0 < g) where
  same_on : (x y : Fraction) → IsProper x → IsProper y → Lies g x → Lies g y → is_same x y ≡ true → count_of g x ≡ count_of g y
  same_on x y px py lx ly h = equal_counts (count_of g x) (count_of g y) (ap is_eq (sym (count_order g x y pg lx ly px.sign py.sign)) ∙ h)

  less_in : (x y : Fraction) → IsProper x → IsProper y → Lies g x → Lies g y → is_less x y ≡ true → count_of g x < count_of g y
  less_in x y px py lx ly h = less_counts (count_of g x) (count_of g y) (ap is_lt (sym (count_order g x y pg lx ly px.sign py.sign)) ∙ h)

  up_from : (x y : Fraction) → IsProper x → IsProper y → Lies g x → Lies g y → count_of g x ≤ count_of g y → is_at_most x y ≡ true
  up_from x y px py lx ly h = ap is_le (count_order g x y pg lx ly px.sign py.sign) ∙ up_counts (count_of g x) (count_of g y) h

-- what is the same as the lesser is at most what is the same as the greater
same_up : (x y z w : Fraction) → IsProper x → IsProper y → IsProper z → IsProper w → is_same x y ≡ true → is_less x z ≡ true → is_same z w ≡ true → is_at_most y w ≡ true
same_up x y z w px py pz pw h l k =
    let one : ℕ = x.bottom * y.bottom in
    let two : ℕ = z.bottom * w.bottom in
    let pg : 0 < one * two = mul-pos (mul-pos px.bottom py.bottom) (mul-pos pz.bottom pw.bottom) in
    let lx : Lies (one * two) x = divides_from x.bottom (one * two) (dvd_trans x.bottom (dvd-mul_right x.bottom y.bottom) (dvd-mul_right one two)) in
    let ly : Lies (one * two) y = divides_from y.bottom (one * two) (dvd_trans y.bottom (dvd-mul_left y.bottom x.bottom) (dvd-mul_right one two)) in
    let lz : Lies (one * two) z = divides_from z.bottom (one * two) (dvd_trans z.bottom (dvd-mul_right z.bottom w.bottom) (dvd-mul_left two one)) in
    let lw : Lies (one * two) w = divides_from w.bottom (one * two) (dvd_trans w.bottom (dvd-mul_left w.bottom z.bottom) (dvd-mul_left two one)) in
    let a : count_of (one * two) x ≡ count_of (one * two) y = same_on (one * two) pg x y px py lx ly h in
    let b : count_of (one * two) x < count_of (one * two) z = less_in (one * two) pg x z px pz lx lz l in
    let c : count_of (one * two) z ≡ count_of (one * two) w = same_on (one * two) pg z w pz pw lz lw k in
    up_from (one * two) pg y w py pw ly lw (omega (arith, a, b, c))

-- ---- steps

-- what fits a lawful duration, with denominators from 1 on, is lawful
module _ (least most : Fraction) where
  pub fixed_lawful : (f : Fraction) → 0 < f.bottom → is_less zero least ≡ true → is_within least most f ≡ true → is_less zero f ≡ true
  fixed_lawful f pf l h = above_less least f (above least f pf l (left_true (is_at_most least f) (is_at_most f most) h))

  pub open_lawful : (low high : Fraction) → 0 < low.bottom → 0 < high.bottom → (is_less zero least && is_less least most) ≡ true → is_pair least most low high ≡ true → (is_less zero low && is_at_most low high) ≡ true
  open_lawful low high pl ph l h =
      let some : is_less zero least ≡ true = left_true (is_less zero least) (is_less least most) l in
      let less : is_less least most ≡ true = right_true (is_less zero least) (is_less least most) l in
      let first : is_same least low ≡ true = same_turned low least (left_true (is_same low least) (is_same high most) h) in
      let second : is_same most high ≡ true = same_turned high most (right_true (is_same low least) (is_same high most) h) in
      let lows : IsAbove low.top least.bottom = above least low pl some (same_at_most (order_of least low) first) in
      let mosts : IsAbove most.top least.bottom = more least most some less in
      let highs : IsAbove high.top most.bottom = above most high ph (above_less least most mosts) (same_at_most (order_of most high) second) in
      both_true (is_less zero low) (is_at_most low high)
      (above_less least low lows)
      (same_up least low most high
      (record { bottom = lows.bottom; sign = (above_zero least some).0 })
      (record { bottom = pl; sign = lows.sign })
      (record { bottom = highs.bottom; sign = mosts.sign })
      (record { bottom = ph; sign = highs.sign })
      first less second)
