-- Laws of counts on a grid.
use Rattle.std.proofs.Common.{◌≡◌, ℕ, suc, ◌*◌, ◌/◌, ◌<◌, Bool, true, false, if◌then◌else◌, ℤ, pos, negsuc, ◌*ℤ◌, unsigned_abs, Some, None, nat_cmp, int_cmp, ⊎_elim, refl, sym, ◌∙◌, ap, ap₂, arith, mul_assoc, mul_comm, mul_right_comm, mul-pos, mul-div_cancel, lt_of_mul-lt-mul_right, mul-lt-mul_of_pos_right}
use Prim.Native.Nat.{◌∣◌}
use Rattle.std.proofs.Math.Nat.{dvd-mul_left, div-mul_cancel, eq_of_mul-eq-mul_right}
use Rattle.std.proofs.lemmas.Bool.{cases_order}
use Rattle.std.proofs.lemmas.Bool.Decides.{nat_tests}
use Rattle.stp_frac.specs.Divisors.{divides}
use Rattle.stp_frac.specs.Fractions.{Fraction, lowest, whole_of, on_grid_of, order_of, is_below_zero}
use Rattle.stp_frac.specs.Laws.{CountsAreExact, CountsComeBack, CountsKeepOrder}
use Rattle.stp_frac.proofs.Divisors.{divides_from, divides_to}
use Rattle.stp_frac.proofs.Lowest.{there_are_lowest_terms, times_product, never_below}

some_if : (b : Bool) (x n : ℕ) → (if b then Some x else None) ≡ Some n → (b ≡ true) × (x ≡ n)
some_if true x n e = (refl, cc)
some_if false x n e = absurd (cc)

pub whole_to : (z : ℤ) (d n : ℕ) → whole_of z d ≡ Some n → z ≡ pos (n * d)
unfolding whole_of
whole_to (pos a) d n e =
    let is : (divides d a ≡ true) × (a / d ≡ n) = some_if (divides d a) (a / d) n e in
    ap pos (sym (div-mul_cancel d (divides_to d a is.0)) ∙ ap (λ (q : ℕ). q * d) is.1)
whole_to (negsuc a) d n e = absurd (cc)

pub whole_from : (z : ℤ) (d n : ℕ) → 0 < d → z ≡ pos (n * d) → whole_of z d ≡ Some n
unfolding whole_of
whole_from z d n some e =
    ap (λ (y : ℤ). whole_of y d) e
    ∙ ap (λ (b : Bool). if b then Some (n * d / d) else None) (divides_from d (n * d) (dvd-mul_left d n))
    ∙ ap (λ (q : ℕ). Some q) (mul-div_cancel n some)

pub counts_are_exact : CountsAreExact
unfolding on_grid_of
counts_are_exact f k n some = (whole_to (f.top *ℤ pos k) f.bottom n, whole_from (f.top *ℤ pos k) f.bottom n some)

pub counts_come_back : CountsComeBack
unfolding on_grid_of
counts_come_back n k some =
    let low = there_are_lowest_terms (pos n) k some in
    whole_from ((lowest (pos n) k).top *ℤ pos k) (lowest (pos n) k).bottom n low.bottom low.same

-- a count on a grid is one on each finer grid
pub finer_count : (f : Fraction) (k n m : ℕ) → 0 < f.bottom → on_grid_of k f ≡ Some n → on_grid_of (k * m) f ≡ Some (n * m)
unfolding on_grid_of
finer_count f k n m some e =
    let is : f.top *ℤ pos k ≡ pos (n * f.bottom) = whole_to (f.top *ℤ pos k) f.bottom n e in
    whole_from (f.top *ℤ pos (k * m)) f.bottom (n * m) some (times_product f.top k m ∙ ap (λ (z : ℤ). z *ℤ pos m) is ∙ ap pos (mul_right_comm n f.bottom m))

-- a number from 0 on has a count on each grid that its denominator divides
times_multiple : (z : ℤ) (k d : ℕ) → d ∣ k → is_below_zero z ≡ false → z *ℤ pos k ≡ pos (unsigned_abs z * (k / d) * d)
times_multiple (pos a) k d h e = ap pos (sym (mul_assoc a (k / d) d ∙ ap (λ (q : ℕ). a * q) (div-mul_cancel d h)))
times_multiple (negsuc a) k d h e = absurd (cc)

pub count_on_multiple : (f : Fraction) (k : ℕ) → 0 < f.bottom → f.bottom ∣ k → is_below_zero f.top ≡ false → on_grid_of k f ≡ Some (unsigned_abs f.top * (k / f.bottom))
unfolding on_grid_of
count_on_multiple f k some d e =
    whole_from (f.top *ℤ pos k) f.bottom (unsigned_abs f.top * (k / f.bottom)) some (times_multiple f.top k f.bottom d e)

-- ---- order

natural_top : (z : ℤ) (k x : ℕ) → 0 < k → z *ℤ pos k ≡ pos x → (z ≡ pos (unsigned_abs z)) × (unsigned_abs z * k ≡ x)
natural_top (pos a) k x some e = (refl, ap unsigned_abs e)
natural_top (negsuc a) k x some e = absurd (never_below x (suc a * k) (mul-pos (omega arith) some) (sym e))

less_along : (x y m n k c : ℕ) → 0 < c → x * k ≡ m * c → y * k ≡ n * c → m < n → x < y
less_along x y m n k c some e e' h =
    let up : m * c < n * c = mul-lt-mul_of_pos_right h some in
    let scaled : x * k < y * k = omega (arith, up, e, e') in
    lt_of_mul-lt-mul_right k scaled

same_along : (x y m n k c : ℕ) → 0 < k → x * k ≡ m * c → y * k ≡ n * c → m ≡ n → x ≡ y
same_along x y m n k c some e e' h = eq_of_mul-eq-mul_right k some x y (e ∙ ap (λ (q : ℕ). q * c) h ∙ sym e')

ordered_along : (x y m n k c : ℕ) → 0 < k → 0 < c → x * k ≡ m * c → y * k ≡ n * c → int_cmp (pos x) (pos y) ≡ nat_cmp m n
ordered_along x y m n k c some some' e e' =
    ⊎_elim
    (λ h. let h' : x ≡ y = same_along x y m n k c some e e' h in grind (arith, nat_tests))
    (λ other. ⊎_elim
    (λ h. let h' : x < y = less_along x y m n k c some' e e' h in grind (arith, nat_tests))
    (λ h. let h' : y < x = less_along y x n m k c some' e' e h in grind (arith, nat_tests))
    other)
    (cases_order m n)

pub counts_keep_order : CountsKeepOrder
unfolding on_grid_of order_of
counts_keep_order f g k m n some some' some'' e e' =
    let left = natural_top f.top k (m * f.bottom) some (whole_to (f.top *ℤ pos k) f.bottom m e) in
    let right = natural_top g.top k (n * g.bottom) some (whole_to (g.top *ℤ pos k) g.bottom n e') in
    let a : ℕ = unsigned_abs f.top in
    let b : ℕ = unsigned_abs g.top in
    ap₂ (λ (x y : ℤ). int_cmp (x *ℤ pos g.bottom) (y *ℤ pos f.bottom)) left.0 right.0
    ∙ ordered_along (a * g.bottom) (b * f.bottom) m n k (f.bottom * g.bottom) some (mul-pos some' some'')
    (mul_right_comm a g.bottom k ∙ ap (λ (q : ℕ). q * g.bottom) left.1 ∙ mul_assoc m f.bottom g.bottom)
    (mul_right_comm b f.bottom k ∙ ap (λ (q : ℕ). q * f.bottom) right.1 ∙ mul_assoc n g.bottom f.bottom ∙ ap (λ (q : ℕ). n * q) (mul_comm g.bottom f.bottom))
