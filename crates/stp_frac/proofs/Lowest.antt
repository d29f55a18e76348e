-- Laws of lowest terms.
use Rattle.std.proofs.Common.{◌≡◌, ℕ, zero, suc, ◌*◌, ◌/◌, ◌<◌, ◌≤◌, ℤ, pos, negsuc, ◌*ℤ◌, neg_ℤ, unsigned_abs, refl, sym, ◌∙◌, ap, ap₂, subst, arith, ⊎_elim, mul_assoc, mul_right_comm, one-mul, zero-mul, mul-pos, le-mul_of_pos_right, eq-zero-or-pos}
use Prim.Native.Nat.{◌∣◌}
use Rattle.std.proofs.lemmas.Int.{unsigned_abs-mul}
use Rattle.std.proofs.lemmas.Nat.Gcd.{dvd_refl, dvd-zero, dvd_antisymm, le_of_dvd}
use Rattle.std.proofs.Math.Nat.{one-dvd, dvd-mul_left, dvd-mul_right, dvd_of_mul-dvd-mul_left, dvd_of_mul-dvd-mul_right, eq-one_of_dvd-one, eq_of_mul-eq-mul_right, mul-div_cancel', div-mul_cancel}
use Rattle.stp_frac.specs.Divisors.{gcd}
use Rattle.stp_frac.specs.Fractions.{Fraction, part}
use Rattle.stp_frac.specs.Laws.{IsSame, ThereAreLowestTerms, LowestTermsAreUnique, LowestTermsAreLeast}
use Rattle.stp_frac.proofs.Divisors.{gcd_is, gcd_common, gcd_joins, gcd_of_parts, part_pos, gcd_pos}
use Rattle.stp_frac.proofs.Fractions.{neg_times_pos}

-- ---- numbers without a common divisor

gcd_zero_left : (b : ℕ) → gcd 0 b ≡ b
gcd_zero_left b = gcd_is 0 b b (dvd-zero b, dvd_refl b, λ d p q. q)

product_divides : (a b e m : ℕ) → gcd a b ≡ 1 → a * e ≡ m * b → a * b ∣ a * e
product_divides a b e m one same =
    let joined : a * b ∣ gcd a b * (a * e) = gcd_joins a b (a * e) (dvd-mul_right a e) (subst (λ n. b ∣ n) (sym same) (dvd-mul_left b m)) in
    subst (λ n. a * b ∣ n) (ap (λ g. g * (a * e)) one ∙ one-mul (a * e)) joined

pub right_divides : (a b e m : ℕ) → gcd a b ≡ 1 → a * e ≡ m * b → b ∣ e
right_divides a b e m one same =
    ⊎_elim
    (λ none. let is : b ≡ 1 = sym (gcd_zero_left b) ∙ ap (λ n. gcd n b) (sym none) ∙ one in subst (λ n. n ∣ e) (sym is) (one-dvd e))
    (λ some. dvd_of_mul-dvd-mul_left b some (product_divides a b e m one same))
    (eq-zero-or-pos a)

pub left_divides : (a b e m : ℕ) → gcd a b ≡ 1 → 0 < b → a * e ≡ m * b → a ∣ m
left_divides a b e m one some same =
    dvd_of_mul-dvd-mul_right a some (subst (λ n. a * b ∣ n) same (product_divides a b e m one same))

-- ---- integers times a number

abs_times_pos : (z : ℤ) (d : ℕ) → unsigned_abs (z *ℤ pos d) ≡ unsigned_abs z * d
abs_times_pos z d = unsigned_abs-mul z (pos d)

pub never_below : (m n : ℕ) → 0 < n → pos m ≡ neg_ℤ (pos n) → ⊥
never_below m zero some e = absurd (omega arith)
never_below m (suc n) some e = cc

pub times_pos_injective : (y z : ℤ) (d : ℕ) → 0 < d → y *ℤ pos d ≡ z *ℤ pos d → y ≡ z
times_pos_injective (pos a) (pos b) d some e = ap pos (eq_of_mul-eq-mul_right d some a b (ap unsigned_abs e))
times_pos_injective (pos a) (negsuc b) d some e = absurd (never_below (a * d) (suc b * d) (mul-pos (omega arith) some) e)
times_pos_injective (negsuc a) (pos b) d some e = absurd (never_below (b * d) (suc a * d) (mul-pos (omega arith) some) (sym e))
times_pos_injective (negsuc a) (negsuc b) d some e =
    let same : suc a * d ≡ suc b * d
    = sym (abs_times_pos (negsuc a) d) ∙ ap unsigned_abs e ∙ abs_times_pos (negsuc b) d in
    ap (λ (n : ℕ). neg_ℤ (pos n)) (eq_of_mul-eq-mul_right d some (suc a) (suc b) same)

pub times_product : (z : ℤ) (a b : ℕ) → z *ℤ pos (a * b) ≡ z *ℤ pos a *ℤ pos b
times_product (pos n) a b = ap pos (sym (mul_assoc n a b))
times_product (negsuc n) a b = ap (λ (k : ℕ). neg_ℤ (pos k)) (sym (mul_assoc (suc n) a b)) ∙ sym (neg_times_pos (pos (suc n * a)) b)

-- ---- the parts of lowest terms

abs_neg : (n : ℕ) → unsigned_abs (neg_ℤ (pos n)) ≡ n
abs_neg zero = refl
abs_neg (suc n) = refl

pub abs_part : (z : ℤ) (g : ℕ) → unsigned_abs (part z g) ≡ unsigned_abs z / g
abs_part (pos n) g = refl
abs_part (negsuc n) g = abs_neg (suc n / g)

part_times : (z : ℤ) (g : ℕ) → g ∣ unsigned_abs z → part z g *ℤ pos g ≡ z
part_times (pos n) g h = ap pos (div-mul_cancel g h)
part_times (negsuc n) g h = neg_times_pos (pos (suc n / g)) g ∙ ap (λ (k : ℕ). neg_ℤ (pos k)) (div-mul_cancel g h)

pub coprime_parts : (a b k : ℕ) → gcd a b ≡ 1 → k ∣ a → k ∣ b → k ≡ 1
coprime_parts a b k one p q = eq-one_of_dvd-one (subst (λ n. k ∣ n) one ((gcd_common a b).2 k p q))

pub there_are_lowest_terms : ThereAreLowestTerms
there_are_lowest_terms n d some =
    let N : ℕ = unsigned_abs n in
    let g : ℕ = gcd (unsigned_abs n) d in
    let e : ℕ = d / gcd (unsigned_abs n) d in
    let gd : g * e ≡ d = mul-div_cancel' g (gcd_common N d).1 in
    record {
      same = ap (λ (k : ℕ). part n g *ℤ pos k) (sym gd) ∙ times_product (part n g) g e ∙ ap (λ (z : ℤ). z *ℤ pos e) (part_times n g (gcd_common N d).0);
      bottom = part_pos N d some;
      coprime = λ k p q. coprime_parts (N / g) e k (gcd_of_parts N d some) (subst (λ x. k ∣ x) (abs_part n g) p) q;
    }

-- the same number as lowest terms, in whole numbers
cross : (n : ℤ) (d : ℕ) (f : Fraction) → 0 < d → IsSame n d f → unsigned_abs n / gcd (unsigned_abs n) d * f.bottom ≡ unsigned_abs f.top * (d / gcd (unsigned_abs n) d)
cross n d f some same =
    let N : ℕ = unsigned_abs n in
    let F : ℕ = unsigned_abs f.top in
    let g : ℕ = gcd (unsigned_abs n) d in
    let ga : N / g * g ≡ N = div-mul_cancel g (gcd_common N d).0 in
    let gb : d / g * g ≡ d = div-mul_cancel g (gcd_common N d).1 in
    let is : F * d ≡ N * f.bottom = sym (abs_times_pos f.top d) ∙ ap unsigned_abs same ∙ abs_times_pos n f.bottom in
    eq_of_mul-eq-mul_right g (gcd_pos N d some) (N / g * f.bottom) (F * (d / g))
    (mul_right_comm (N / g) f.bottom g ∙ ap (λ k. k * f.bottom) ga ∙ sym is ∙ ap (λ k. F * k) (sym gb) ∙ sym (mul_assoc F (d / g) g))

pub lowest_terms_are_least : LowestTermsAreLeast
lowest_terms_are_least n d f some some' same =
    let N : ℕ = unsigned_abs n in
    let F : ℕ = unsigned_abs f.top in
    let g : ℕ = gcd (unsigned_abs n) d in
    let a : ℕ = N / g in
    let b : ℕ = d / g in
    let is : a * f.bottom ≡ F * b = cross n d f some same in
    let one : gcd a b ≡ 1 = gcd_of_parts N d some in
    let top : a ≤ F
    = ⊎_elim
    (λ none. let up : a ≤ a * f.bottom = le-mul_of_pos_right a some' in
    let zero_is : F * b ≡ 0 = ap (λ k. k * b) none ∙ zero-mul b in
    omega (arith, up, is, zero_is))
    (λ more. le_of_dvd more (left_divides a b f.bottom F one (part_pos N d some) is))
    (eq-zero-or-pos F) in
    (subst (λ k. k ≤ F) (sym (abs_part n g)) top, le_of_dvd some' (right_divides a b f.bottom F one is))

pub lowest_terms_are_unique : LowestTermsAreUnique
lowest_terms_are_unique n d f some low =
    let N : ℕ = unsigned_abs n in
    let F : ℕ = unsigned_abs f.top in
    let g : ℕ = gcd (unsigned_abs n) d in
    let a : ℕ = N / g in
    let b : ℕ = d / g in
    let is : a * f.bottom ≡ F * b = cross n d f some low.same in
    let one : gcd F f.bottom ≡ 1 = low.coprime (gcd F f.bottom) (gcd_common F f.bottom).0 (gcd_common F f.bottom).1 in
    let there : b ∣ f.bottom = right_divides a b f.bottom F (gcd_of_parts N d some) is in
    let back : f.bottom ∣ b = right_divides F f.bottom b a one (sym is) in
    let bottoms : f.bottom ≡ b = dvd_antisymm back there in
    let tops : f.top ≡ part n g
    = times_pos_injective f.top (part n g) d some (low.same ∙ ap (λ (k : ℕ). n *ℤ pos k) bottoms ∙ sym (there_are_lowest_terms n d some).same) in
    ap₂ (λ (t : ℤ) (k : ℕ). let r : Fraction = record { top = t; bottom = k } in r) tops bottoms
