-- Laws of the greatest common divisor.
use Rattle.std.proofs.Common.{◌≡◌, ℕ, zero, suc, ◌+◌, ◌*◌, ◌/◌, ◌%◌, ◌<◌, ◌≤◌, max, Bool, true, false, ◌&&◌, if◌then◌else◌, refl, sym, ◌∙◌, ap, subst, arith, ⊎_elim, eqb-true, eq-eqb, true≢false, mul_comm, mul_assoc, add-mul, mul-one, mul-pos, mul-le-mul_right, div-le_self, mod-lt, le_refl, eq-or-lt_of_le, eq-zero-or-pos}
use Prim.Native.Nat.{◌∣◌}
use Rattle.std.specs.Int.{IsGcd}
use Rattle.std.proofs.lemmas.Nat.Gcd.{dvd_refl, dvd-zero, le_of_dvd, dvd_of_mod-eq-zero, mod-eq-zero_of_dvd, IsGcd-from_zero, IsGcd-from_mod}
use Rattle.std.proofs.Math.Nat.{dvd-mul_left, dvd-mul_right, div-mul_cancel, mul-dvd-mul_left, dvd_of_mul-dvd-mul_left, mul-div_cancel', mod-add-div', eq-one_of_dvd-one, pos_of_dvd_of_pos, eq-zero_of_zero-dvd, dvd-add_iff_left, dvd-mul_left_of_dvd}
use Rattle.stp_frac.specs.Divisors.{divides, greatest_up_to, least_from, gcd, lcm}

-- ---- the test for a divisor

pub divides_from : (d n : ℕ) → d ∣ n → divides d n ≡ true
divides_from d n h = eq-eqb (n % d) 0 (mod-eq-zero_of_dvd d h)

pub divides_to : (d n : ℕ) → divides d n ≡ true → d ∣ n
divides_to d n h = dvd_of_mod-eq-zero d (eqb-true (n % d) 0 h)

pub both_true : (a b : Bool) → a ≡ true → b ≡ true → (a && b) ≡ true
both_true a b p q = rw (p, q)

pub left_true : (a b : Bool) → (a && b) ≡ true → a ≡ true
left_true true b h = refl
left_true false b h = h

pub right_true : (a b : Bool) → (a && b) ≡ true → b ≡ true
right_true true b h = h
right_true false b h = cc

-- ---- the greatest number that passes a test, and the least

greatest_step : (b : Bool) (n r g : ℕ) (test : ℕ → Bool) → test (suc n) ≡ b → test g ≡ true → g ≤ suc n → (test (suc n) ≡ true → suc n ≤ g) → (g ≤ n → r ≡ g) → (if b then suc n else r) ≡ g
greatest_step true n r g test e t le least below = let h : suc n ≤ g = least e in omega arith
greatest_step false n r g test e t le least below =
    below (⊎_elim (λ q. absurd (true≢false (sym t ∙ ap test q ∙ e))) (λ q. omega (arith, q)) (eq-or-lt_of_le le))

pub greatest_is : (n : ℕ) (test : ℕ → Bool) (g : ℕ) → test g ≡ true → g ≤ n → 0 < g → ((d : ℕ) → test d ≡ true → d ≤ g) → greatest_up_to n test ≡ g
unfolding greatest_up_to
greatest_is zero test g t le some least = absurd (omega arith)
greatest_is (suc n) test g t le some least =
    greatest_step (test (suc n)) n (greatest_up_to n test) g test refl t le (least (suc n)) (λ h. greatest_is n test g t h some least)

pub greatest_none : (test : ℕ → Bool) → greatest_up_to 0 test ≡ 0
unfolding greatest_up_to
greatest_none test = refl

least_step : (b : Bool) (n r l : ℕ) (test : ℕ → Bool) → test n ≡ b → test l ≡ true → n ≤ l → (test n ≡ true → l ≤ n) → (suc n ≤ l → r ≡ l) → (if b then n else r) ≡ l
least_step true n r l test e t le least above = let h : l ≤ n = least e in omega arith
least_step false n r l test e t le least above =
    above (⊎_elim (λ q. absurd (true≢false (sym t ∙ ap test (sym q) ∙ e))) (λ q. omega (arith, q)) (eq-or-lt_of_le le))

pub least_is : (n many : ℕ) (test : ℕ → Bool) (l : ℕ) → test l ≡ true → n ≤ l → l ≤ n + many → ((m : ℕ) → n ≤ m → test m ≡ true → l ≤ m) → least_from n many test ≡ l
unfolding least_from
least_is n zero test l t low high least = omega arith
least_is n (suc many) test l t low high least =
    least_step (test n) n (least_from (suc n) many test) l test refl t low (least n (omega arith))
    (λ h. least_is (suc n) many test l t h (omega arith) (λ m le. least m (omega arith)))

-- ---- Euclid's steps: there is a greatest common divisor, and times a common multiple it is a multiple of the product

record Euclid (a b : ℕ) : Type 0 where
  pub found : ℕ
  pub common : IsGcd a b found
  pub joins : (m : ℕ) → a ∣ m → b ∣ m → a * b ∣ found * m

euclid_done : (a b x y : ℕ) → y ≡ 0 → ((g : ℕ) → IsGcd x y g → IsGcd a b g) → ((m : ℕ) → a ∣ m → b ∣ m → a * b ∣ x * m) → Euclid a b
euclid_done a b x y e same joins = record { found = x; common = same x (IsGcd-from_zero x y e); joins = joins }

rest_joins : (k x y m : ℕ) → k ∣ x * m → k ∣ y * m → k ∣ (x % y) * m
rest_joins k x y m p q =
    let part : k ∣ (x / y * y) * m = subst (λ n. k ∣ n) (sym (mul_assoc (x / y) y m)) (dvd-mul_left_of_dvd k q (x / y)) in
    let whole : (x % y) * m + (x / y * y) * m ≡ x * m = sym (add-mul (x % y) (x / y * y) m) ∙ ap (λ n. n * m) (mod-add-div' x y) in
    (dvd-add_iff_left k part).1 (subst (λ n. k ∣ n) (sym whole) p)

euclid_from : (fuel a b x y : ℕ) → y ≤ fuel → ((g : ℕ) → IsGcd x y g → IsGcd a b g) → ((m : ℕ) → a ∣ m → b ∣ m → a * b ∣ x * m) → ((m : ℕ) → a ∣ m → b ∣ m → a * b ∣ y * m) → Euclid a b
euclid_from zero a b x y le same jx jy = euclid_done a b x y (omega arith) same jx
euclid_from (suc fuel) a b x y le same jx jy =
    ⊎_elim
    (λ e. euclid_done a b x y e same jx)
    (λ some. euclid_from fuel a b y (x % y) (let h : x % y < y = mod-lt x some in omega (arith, h)) (λ g h. same g (IsGcd-from_mod x y g h)) jy (λ m p q. rest_joins (a * b) x y m (jx m p q) (jy m p q)))
    (eq-zero-or-pos y)

euclid : (a b : ℕ) → Euclid a b
euclid a b =
    euclid_from b a b a b (le_refl b) (λ g h. h)
    (λ m p q. mul-dvd-mul_left b a q)
    (λ m p q. subst (λ n. n ∣ b * m) (mul_comm b a) (mul-dvd-mul_left a b p))

-- ---- the greatest common divisor

gcd_bound : (a b g : ℕ) → IsGcd a b g → 0 < g → g ≤ max a b
gcd_bound a b g h some =
    ⊎_elim
    (λ e. ⊎_elim
    (λ e'. absurd (omega (arith, eq-zero_of_zero-dvd (h.2 0 (subst (λ n. 0 ∣ n) (sym e) (dvd-zero 0)) (subst (λ n. 0 ∣ n) (sym e') (dvd-zero 0))))))
    (λ p. let le : g ≤ b = le_of_dvd p h.1 in omega arith)
    (eq-zero-or-pos b))
    (λ p. let le : g ≤ a = le_of_dvd p h.0 in omega arith)
    (eq-zero-or-pos a)

pub gcd_is : (a b g : ℕ) → IsGcd a b g → gcd a b ≡ g
unfolding gcd
gcd_is a b g h =
    ⊎_elim
    (λ e. let none : a ≡ 0 = eq-zero_of_zero-dvd (subst (λ n. n ∣ a) e h.0) in
    let none' : b ≡ 0 = eq-zero_of_zero-dvd (subst (λ n. n ∣ b) e h.1) in
    rw (none, none', e) (greatest_none (λ d. divides d 0 && divides d 0)))
    (λ some. greatest_is (max a b) (λ d. divides d a && divides d b) g
    (both_true (divides g a) (divides g b) (divides_from g a h.0) (divides_from g b h.1))
    (gcd_bound a b g h some)
    some
    (λ d t. le_of_dvd some (h.2 d (divides_to d a (left_true _ _ t)) (divides_to d b (right_true _ _ t)))))
    (eq-zero-or-pos g)

pub gcd_common : (a b : ℕ) → IsGcd a b (gcd a b)
gcd_common a b = subst (IsGcd a b) (sym (gcd_is a b (euclid a b).found (euclid a b).common)) (euclid a b).common

pub gcd_joins : (a b m : ℕ) → a ∣ m → b ∣ m → a * b ∣ gcd a b * m
gcd_joins a b m p q =
    subst (λ g. a * b ∣ g * m) (sym (gcd_is a b (euclid a b).found (euclid a b).common)) ((euclid a b).joins m p q)

pub gcd_rest : (a b : ℕ) → gcd b (a % b) ≡ gcd a b
gcd_rest a b = sym (gcd_is a b (gcd b (a % b)) (IsGcd-from_mod a b (gcd b (a % b)) (gcd_common b (a % b))))

pub gcd_with_zero : (a : ℕ) → gcd a 0 ≡ a
gcd_with_zero a = gcd_is a 0 a (IsGcd-from_zero a 0 refl)

pub gcd_with_one : (a : ℕ) → gcd a 1 ≡ 1
gcd_with_one a = eq-one_of_dvd-one (gcd_common a 1).1

pub gcd_pos : (a b : ℕ) → 0 < b → 0 < gcd a b
gcd_pos a b some = pos_of_dvd_of_pos (gcd_common a b).1 some

-- what is left of two numbers without their greatest common divisor has none but 1
pub gcd_of_parts : (a b : ℕ) → 0 < b → gcd (a / gcd a b) (b / gcd a b) ≡ 1
gcd_of_parts a b some =
    let g : ℕ = gcd a b in
    let h : ℕ = gcd (a / gcd a b) (b / gcd a b) in
    let ga : g * (a / g) ≡ a = mul-div_cancel' (gcd a b) (gcd_common a b).0 in
    let gb : g * (b / g) ≡ b = mul-div_cancel' (gcd a b) (gcd_common a b).1 in
    let da : g * h ∣ a = subst (λ n. g * h ∣ n) ga (mul-dvd-mul_left h g (gcd_common (a / g) (b / g)).0) in
    let db : g * h ∣ b = subst (λ n. g * h ∣ n) gb (mul-dvd-mul_left h g (gcd_common (a / g) (b / g)).1) in
    let dg : g * h ∣ g * 1 = subst (λ n. g * h ∣ n) (sym (mul-one g)) ((gcd_common a b).2 (g * h) da db) in
    eq-one_of_dvd-one (dvd_of_mul-dvd-mul_left h (gcd_pos a b some) dg)

pub top_part_pos : (a b : ℕ) → 0 < a → 0 < a / gcd a b
top_part_pos a b some =
    let ga : gcd a b * (a / gcd a b) ≡ a = mul-div_cancel' (gcd a b) (gcd_common a b).0 in
    pos_of_dvd_of_pos (subst (λ n. a / gcd a b ∣ n) ga (dvd-mul_left (a / gcd a b) (gcd a b))) some

pub part_pos : (a b : ℕ) → 0 < b → 0 < b / gcd a b
part_pos a b some =
    let gb : gcd a b * (b / gcd a b) ≡ b = mul-div_cancel' (gcd a b) (gcd_common a b).1 in
    pos_of_dvd_of_pos (subst (λ n. b / gcd a b ∣ n) gb (dvd-mul_left (b / gcd a b) (gcd a b))) some

-- a divisor of a number that has no common divisor with it but 1 is 1
pub one_from_coprime : (a b : ℕ) → gcd a b ≡ 1 → b ∣ a → b ≡ 1
one_from_coprime a b e h = eq-one_of_dvd-one (subst (λ n. b ∣ n) e ((gcd_common a b).2 b h (dvd_refl b)))

pub false_unless : (b : Bool) → (b ≡ true → ⊥) → b ≡ false
false_unless false h = refl
false_unless true h = absurd (h refl)

pub no_divisor : (a b : ℕ) → gcd a b ≡ 1 → (b ≡ 1 → ⊥) → divides b a ≡ false
no_divisor a b e other = false_unless (divides b a) (λ t. other (one_from_coprime a b e (divides_to b a t)))

-- ---- the least common multiple

lcm_number : (a b : ℕ) → 0 < b → a / gcd a b * b ≡ a * (b / gcd a b)
lcm_number a b some =
    let g : ℕ = gcd a b in
    let ga : a / g * g ≡ a = div-mul_cancel (gcd a b) (gcd_common a b).0 in
    let gb : g * (b / g) ≡ b = mul-div_cancel' (gcd a b) (gcd_common a b).1 in
    ap (λ n. a / g * n) (sym gb) ∙ sym (mul_assoc (a / g) g (b / g)) ∙ ap (λ n. n * (b / g)) ga

lcm_divides : (a b m : ℕ) → 0 < b → a ∣ m → b ∣ m → a / gcd a b * b ∣ m
lcm_divides a b m some p q =
    let g : ℕ = gcd a b in
    let ga : g * (a / g) ≡ a = mul-div_cancel' (gcd a b) (gcd_common a b).0 in
    let whole : g * (a / g * b) ≡ a * b = sym (mul_assoc g (a / g) b) ∙ ap (λ n. n * b) ga in
    dvd_of_mul-dvd-mul_left (a / g * b) (gcd_pos a b some) (subst (λ n. n ∣ g * m) (sym whole) (gcd_joins a b m p q))

pub lcm_is : (a b : ℕ) → 0 < a → 0 < b → lcm a b ≡ a / gcd a b * b
unfolding lcm
lcm_is a b some some' =
    let g : ℕ = gcd a b in
    let l : ℕ = a / gcd a b * b in
    let high : l ≤ a * b = mul-le-mul_right b (div-le_self a g) in
    let pa : a ∣ l = subst (λ n. a ∣ n) (sym (lcm_number a b some')) (dvd-mul_right a (b / g)) in
    let pb : b ∣ l = dvd-mul_left b (a / g) in
    let up : 0 < l = mul-pos (top_part_pos a b some) some' in
    least_is 1 (a * b) (λ m. divides a m && divides b m) l
    (both_true (divides a l) (divides b l) (divides_from a l pa) (divides_from b l pb))
    (omega arith)
    (omega arith)
    (λ m low t. le_of_dvd (omega arith) (lcm_divides a b m some' (divides_to a m (left_true _ _ t)) (divides_to b m (right_true _ _ t))))

pub lcm_multiple_left : (a b : ℕ) → 0 < a → 0 < b → a ∣ lcm a b
lcm_multiple_left a b some some' = subst (λ n. a ∣ n) (sym (lcm_is a b some some' ∙ lcm_number a b some')) (dvd-mul_right a (b / gcd a b))

pub lcm_multiple_right : (a b : ℕ) → 0 < a → 0 < b → b ∣ lcm a b
lcm_multiple_right a b some some' = subst (λ n. b ∣ n) (sym (lcm_is a b some some')) (dvd-mul_left b (a / gcd a b))

-- each common multiple is a multiple of the least one
pub lcm_least : (a b m : ℕ) → 0 < a → 0 < b → a ∣ m → b ∣ m → lcm a b ∣ m
lcm_least a b m some some' p q = subst (λ n. n ∣ m) (sym (lcm_is a b some some')) (lcm_divides a b m some' p q)

pub lcm_pos : (a b : ℕ) → 0 < a → 0 < b → 0 < lcm a b
lcm_pos a b some some' = subst (λ (n : ℕ). 0 < n) (sym (lcm_is a b some some')) (mul-pos (top_part_pos a b some) some')
