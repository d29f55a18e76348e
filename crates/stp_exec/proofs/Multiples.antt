-- Least common multiples of several numbers, one number at a time.
use Rattle.std.proofs.Common.{◌≡◌, ℕ, ◌<◌, ◌≤◌, nat_le, Bool, true, false, if◌then◌else◌, List, [], ◌∷◌, ◌++◌, Some, None, IfSome, sym, ap, ◌∙◌, arith}
use Rattle.std.proofs.lemmas.Bool.Decides.{nat_tests}
use Rattle.std.proofs.lemmas.Nat.Gcd.{dvd_refl, dvd_trans, dvd_antisymm, le_of_dvd}
use Rattle.std.proofs.Math.Nat.{one-dvd}
use Rattle.stp_frac.specs.Divisors.{lcm}
use Rattle.stp_frac.specs.Fractions.{up_to}
use Rattle.stp_frac.proofs.Divisors.{lcm_pos, lcm_multiple_left, lcm_multiple_right, lcm_least}
use Rattle.stp_exec.specs.Timed.{common_multiple}

-- ---- three numbers

pub lcm_assoc : (a b c : ℕ) → 0 < a → 0 < b → 0 < c → lcm (lcm a b) c ≡ lcm a (lcm b c)
lcm_assoc a b c pa pb pc =
    let ab : 0 < lcm a b = lcm_pos a b pa pb in
    let bc : 0 < lcm b c = lcm_pos b c pb pc in
    dvd_antisymm
    (lcm_least (lcm a b) c (lcm a (lcm b c)) ab pc
    (lcm_least a b (lcm a (lcm b c)) pa pb (lcm_multiple_left a (lcm b c) pa bc) (dvd_trans b (lcm_multiple_left b c pb pc) (lcm_multiple_right a (lcm b c) pa bc)))
    (dvd_trans c (lcm_multiple_right b c pb pc) (lcm_multiple_right a (lcm b c) pa bc)))
    (lcm_least a (lcm b c) (lcm (lcm a b) c) pa bc
    (dvd_trans a (lcm_multiple_left a b pa pb) (lcm_multiple_left (lcm a b) c ab pc))
    (lcm_least b c (lcm (lcm a b) c) pb pc
    (dvd_trans b (lcm_multiple_right a b pa pb) (lcm_multiple_left (lcm a b) c ab pc))
    (lcm_multiple_right (lcm a b) c ab pc)))

pub lcm_one_right : (a : ℕ) → 0 < a → lcm a 1 ≡ a
lcm_one_right a pa = dvd_antisymm (lcm_least a 1 a pa (omega arith) (dvd_refl a) (one-dvd a)) (lcm_multiple_left a 1 pa (omega arith))

pub lcm_one_left : (a : ℕ) → 0 < a → lcm 1 a ≡ a
lcm_one_left a pa = dvd_antisymm (lcm_least 1 a a (omega arith) pa (one-dvd a) (dvd_refl a)) (lcm_multiple_right 1 a (omega arith) pa)

pub lcm_above : (a b : ℕ) → 0 < a → 0 < b → a ≤ lcm a b
lcm_above a b pa pb = le_of_dvd (lcm_pos a b pa pb) (lcm_multiple_left a b pa pb)

-- ---- limits

pub within_is : (limit n k : ℕ) → Some k ≡ up_to limit n → k ≡ n
within_is limit n k e = grind (arith, nat_tests)

pub within_low : (limit n k : ℕ) → Some k ≡ up_to limit n → k ≤ limit
within_low limit n k e = grind (arith, nat_tests)

pub within_from : (limit n : ℕ) → n ≤ limit → Some n ≡ up_to limit n
within_from limit n h = grind (arith, nat_tests)

pub beyond_is : (limit n : ℕ) → None ≡ up_to limit n → limit < n
beyond_is limit n e = grind (arith, nat_tests)

pub beyond_from : (limit n : ℕ) → limit < n → None ≡ up_to limit n
beyond_from limit n h = grind (arith, nat_tests)

some_low : (b : Bool) (n : ℕ) → 0 < n → IfSome (if b then Some n else None) (λ k. 1 ≤ k)
some_low true n h = omega (arith, h)
some_low false n h = tt

pub within_pos : (limit n : ℕ) → 0 < n → IfSome (up_to limit n) (λ k. 1 ≤ k)
within_pos limit n h = some_low (nat_le n limit) n h

-- ---- several numbers

abbrev pub Positive : List ℕ → Type 0
Positive [] = Unit {0}
Positive (n ∷ ns) = (0 < n) × Positive ns

pub common_pos : (ns : List ℕ) → Positive ns → 0 < common_multiple ns
common_pos [] p = omega arith
common_pos (n ∷ ns) p = lcm_pos n (common_multiple ns) p.0 (common_pos ns p.1)

pub common_append : (ms ns : List ℕ) → Positive ms → Positive ns → common_multiple (ms ++ ns) ≡ lcm (common_multiple ms) (common_multiple ns)
common_append [] ns p q = sym (lcm_one_left (common_multiple ns) (common_pos ns q))
common_append (m ∷ ms) ns p q =
    ap (lcm m) (common_append ms ns p.1 q)
    ∙ sym (lcm_assoc m (common_multiple ms) (common_multiple ns) p.0 (common_pos ms p.1) (common_pos ns q))

-- one number more
pub one_joined : (g n k : ℕ) (ns : List ℕ) → 0 < g → 0 < n → Positive ns → Some k ≡ up_to 999999999 (lcm g n) → up_to 999999999 (lcm k (common_multiple ns)) ≡ up_to 999999999 (lcm g (common_multiple (n ∷ ns)))
one_joined g n k ns pg pn p e =
    ap (λ k. up_to 999999999 (lcm k (common_multiple ns))) (within_is 999999999 (lcm g n) k e)
    ∙ ap (up_to 999999999) (lcm_assoc g n (common_multiple ns) pg pn (common_pos ns p))

pub none_joined : (g n : ℕ) (ns : List ℕ) → 0 < g → 0 < n → Positive ns → None ≡ up_to 999999999 (lcm g n) → None ≡ up_to 999999999 (lcm g (common_multiple (n ∷ ns)))
none_joined g n ns pg pn p e =
    let above : 999999999 < lcm g n = beyond_is 999999999 (lcm g n) e in
    let more : lcm g n ≤ lcm (lcm g n) (common_multiple ns) = lcm_above (lcm g n) (common_multiple ns) (lcm_pos g n pg pn) (common_pos ns p) in
    beyond_from 999999999 (lcm (lcm g n) (common_multiple ns)) (omega (arith, above, more))
    ∙ ap (up_to 999999999) (lcm_assoc g n (common_multiple ns) pg pn (common_pos ns p))

-- the last number
pub last_joined : (g n : ℕ) → 0 < n → up_to 999999999 (lcm g n) ≡ up_to 999999999 (lcm g (common_multiple (n ∷ [])))
last_joined g n pn = ap (λ m. up_to 999999999 (lcm g m)) (sym (lcm_one_right n pn))
