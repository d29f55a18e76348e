-- Counts that are cut.
use Rattle.std.proofs.Common.{◌≡◌, ℕ, zero, suc, ◌+◌, ◌*◌, ◌<◌, ◌≤◌, inl, inr, sym, ap, ◌∙◌, arith, List, length, drop, get_or}
use Rattle.std.proofs.lemmas.Bool.{cases_lt, cases_eq}
use Rattle.std.proofs.lemmas.List.{drop_more, drop_all}
use Rattle.std.proofs.Math.Nat.{mul_assoc, one-mul, mul-one, mul-zero}
use Rattle.stp_problem.specs.Nodes.{cut, bindings}

pub cut_sum : (a b : ℕ) → cut (cut a + b) ≡ cut (a + b)
cut_sum a b = omega arith

pub cut_sums : (a b : ℕ) → cut (a + cut b) ≡ cut (a + b)
cut_sums a b = omega arith

pub cut_small : (a : ℕ) → a ≤ 10001 → cut a ≡ a
cut_small a h = omega arith

pub cut_low : (a : ℕ) → cut a ≤ 10001
cut_low a = omega arith

past : (a b : ℕ) → 10001 ≤ a → 0 < b → 10001 ≤ a * b
past a zero h some = absurd (omega (arith, some))
past a (suc b) h some = let e : a * suc b ≡ a + a * b = grind arith in omega arith

pub cut_left : (a b : ℕ) → cut (cut a * b) ≡ cut (a * b)
cut_left a b = elim (cases_lt a 10001) [
  | inl small ↦ ap (λ x. cut (x * b)) (cut_small a (omega arith))
  | inr large ↦ elim (cases_eq b 0) [
    | inl none ↦ ap (λ x. cut (cut a * x)) none ∙ ap cut (mul-zero (cut a) ∙ sym (mul-zero a)) ∙ ap (λ x. cut (a * x)) (sym none)
    | inr some ↦
        let e : cut a ≡ 10001 = omega arith in
        let p = past (cut a) b (omega arith) (omega arith) in
        let q = past a b large (omega arith) in
        omega arith
  ]
]

swap : (a b : ℕ) → a * b ≡ b * a
swap a b = omega arith

pub cut_right : (a b : ℕ) → cut (a * cut b) ≡ cut (a * b)
cut_right a b = ap cut (swap a (cut b)) ∙ cut_left b a ∙ ap cut (swap b a)

-- ---- one variable more

pub bindings_none : (size : ℕ → ℕ) (kinds : List ℕ) → cut (1 * bindings size (drop 0 kinds)) ≡ cut (bindings size kinds)
bindings_none size kinds = ap cut (one-mul (bindings size kinds))

pub bindings_more : (size : ℕ → ℕ) (kinds : List ℕ) (i count now : ℕ) → i < length kinds → now ≡ cut (count * cut (size (get_or kinds i 0))) → cut (count * bindings size (drop i kinds)) ≡ cut (bindings size kinds) → cut (now * bindings size (drop (i + 1) kinds)) ≡ cut (bindings size kinds)
bindings_more size kinds i count now h is so_far =
    let s = size (get_or kinds i 0) in
    let rest = bindings size (drop (i + 1) kinds) in
    ap (λ x. cut (x * rest)) (is ∙ cut_right count s)
    ∙ cut_left (count * s) rest
    ∙ ap cut (mul_assoc count s rest)
    ∙ ap (λ l. cut (count * bindings size l)) (sym (drop_more kinds i 0 h))
    ∙ so_far

pub bindings_done : (size : ℕ → ℕ) (kinds : List ℕ) (i count : ℕ) → length kinds ≤ i → count ≤ 10001 → cut (count * bindings size (drop i kinds)) ≡ cut (bindings size kinds) → count ≡ cut (bindings size kinds)
bindings_done size kinds i count h small so_far =
    sym (cut_small count small)
    ∙ ap cut (sym (mul-one count))
    ∙ ap (λ l. cut (count * bindings size l)) (sym (drop_all i kinds h))
    ∙ so_far
