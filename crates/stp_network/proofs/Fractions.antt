-- Times on one grid, moved to another: whole units stay, and within a unit only the order of the points' remainders is kept.
use Rattle.std.proofs.Common.{◌≡◌, ℕ, suc, zero, ◌+◌, ◌*◌, ◌/◌, ◌%◌, ◌<◌, ◌≤◌, Bool, true, false, nat_lt, List, All, get_or, refl, ap, sym, ◌∙◌, inl, inr, arith}
use Rattle.std.proofs.Math.Nat.{mul-le-mul_left, mul-le-mul_right}
use Rattle.std.proofs.lemmas.Bool.{cases_order}
use Rattle.std.proofs.lemmas.Bool.Decides.{nat_tests}
use Rattle.stp_network.specs.Network.{Constraint, IsOverPoints, Solves}
use Rattle.stp_network.specs.Demands.{negative_part, positive_part, strict_part, IsMet}
use Rattle.stp_network.specs.Fractions.{OneGridDecides}
use Rattle.stp_network.proofs.Demands.{all_met, all_meet}

-- 1 for what is true
abbrev bit : Bool → ℕ
bit true = 1
bit false = 0

-- how many of the first n numbers pass a test
pub count : (ℕ → Bool) → ℕ → ℕ
count test zero = 0
count test (suc n) = bit (test n) + count test n

pub count_bounded : (test : ℕ → Bool) (n : ℕ) → count test n ≤ n
unfolding count
count_bounded test zero = omega arith
count_bounded test (suc n) = let less : count test n ≤ n = count_bounded test n in
    elim (test n) as (λ b. bit b + count test n ≤ suc n) [ true ↦ omega arith | false ↦ omega arith ]

-- where one test passes, another does
count_order : (one other : ℕ → Bool) → ((p : ℕ) → one p ≡ true → other p ≡ true) → (n : ℕ) → count one n ≤ count other n
unfolding count
count_order one other weaker zero = omega arith
count_order one other weaker (suc n) =
    let less : count one n ≤ count other n = count_order one other weaker n in
    elim (one n) as (λ b. (b ≡ true → other n ≡ true) → bit b + count one n ≤ bit (other n) + count other n) [
      | true ↦ λ here. let e : other n ≡ true = here refl in
          let f : bit (other n) ≡ 1 = ap (λ b. bit b) e in omega arith
      | false ↦ λ here. omega arith
    ] (weaker n)

-- and where it passes once more, more are counted
pub count_strict : (one other : ℕ → Bool) → ((p : ℕ) → one p ≡ true → other p ≡ true) → (n p : ℕ) → p < n → one p ≡ false → other p ≡ true → count one n < count other n
unfolding count
count_strict one other weaker zero p below misses passes = absurd (omega arith)
count_strict one other weaker (suc n) p below misses passes = elim (cases_order p n) [
  | inl same ↦
      let less : count one n ≤ count other n = count_order one other weaker n in
      let e : bit (one n) ≡ 0 = ap (λ b. bit b) (ap one (sym same) ∙ misses) in
      let f : bit (other n) ≡ 1 = ap (λ b. bit b) (ap other (sym same) ∙ passes) in
      omega arith
  | inr (inl lesser) ↦
      let less : count one n < count other n = count_strict one other weaker n p lesser misses passes in
      elim (one n) as (λ b. (b ≡ true → other n ≡ true) → bit b + count one n < bit (other n) + count other n) [
        | true ↦ λ here. let e : other n ≡ true = here refl in
            let f : bit (other n) ≡ 1 = ap (λ b. bit b) e in omega arith
        | false ↦ λ here. omega arith
      ] (weaker n)
  | inr (inr greater) ↦ absurd (omega arith)
]

-- how many of the first n points have a lesser remainder than this point
abbrev rank : ℕ → ℕ → (ℕ → ℕ) → ℕ → ℕ
rank n k x p = count (λ q. nat_lt (x q % k) (x p % k)) n

abbrev pub moved : ℕ → ℕ → ℕ → (ℕ → ℕ) → ℕ → ℕ
moved n k s x p = s * (x p / k) + rank n k x p

rank_bounded : (n k : ℕ) (x : ℕ → ℕ) (p : ℕ) → p < n → rank n k x p < n
rank_bounded n k x p below =
    let less : rank n k x p < count (λ q. true) n =
    count_strict (λ q. nat_lt (x q % k) (x p % k)) (λ q. true) (λ q h. refl) n p below (grind (arith, nat_tests)) refl in
    let most : count (λ q. true) n ≤ n = count_bounded (λ q. true) n in
    omega arith

rank_order : (n k : ℕ) (x : ℕ → ℕ) (p q : ℕ) → x p % k ≤ x q % k → rank n k x p ≤ rank n k x q
rank_order n k x p q less = count_order (λ i. nat_lt (x i % k) (x p % k)) (λ i. nat_lt (x i % k) (x q % k)) (λ i h. grind (arith, nat_tests)) n

rank_strict : (n k : ℕ) (x : ℕ → ℕ) (p q : ℕ) → p < n → x p % k < x q % k → rank n k x p < rank n k x q
rank_strict n k x p q below less =
    count_strict (λ i. nat_lt (x i % k) (x p % k)) (λ i. nat_lt (x i % k) (x q % k)) (λ i h. grind (arith, nat_tests)) n p below (grind (arith, nat_tests)) (grind (arith, nat_tests))

-- a weak constraint stays met. A point is at f whole units and a remainder r, and moves to f whole units and a place q
kept_weak : (k s fi ri fj rj qi qj u d : ℕ) → ri < k → rj < k → qi < s → qj < s → (rj ≤ ri → qj ≤ qi) →
    k * fj + rj + k * d ≤ k * fi + ri + k * u → s * fj + qj + s * d ≤ s * fi + qi + s * u
kept_weak k s fi ri fj rj qi qj u d ik jk is js order h = elim (cases_order (fj + d) (fi + u)) [
  | inl same ↦
      let e : k * (fj + d) ≡ k * (fi + u) = ap (λ m. k * m) same in
      let g : s * (fj + d) ≡ s * (fi + u) = ap (λ m. s * m) same in
      let o : qj ≤ qi = order (omega arith) in
      omega arith
  | inr (inl lesser) ↦ let l : s * (fj + d + 1) ≤ s * (fi + u) = mul-le-mul_left s (omega arith) in omega arith
  | inr (inr greater) ↦ let l : k * (fi + u + 1) ≤ k * (fj + d) = mul-le-mul_left k (omega arith) in absurd (omega arith)
]

-- and so does a strict one
kept_strict : (k s fi ri fj rj qi qj u d : ℕ) → ri < k → rj < k → qi < s → qj < s → (rj < ri → qj < qi) →
    k * fj + rj + k * d < k * fi + ri + k * u → s * fj + qj + s * d < s * fi + qi + s * u
kept_strict k s fi ri fj rj qi qj u d ik jk is js order h = elim (cases_order (fj + d) (fi + u)) [
  | inl same ↦
      let e : k * (fj + d) ≡ k * (fi + u) = ap (λ m. k * m) same in
      let g : s * (fj + d) ≡ s * (fi + u) = ap (λ m. s * m) same in
      let o : qj < qi = order (omega arith) in
      omega arith
  | inr (inl lesser) ↦ let l : s * (fj + d + 1) ≤ s * (fi + u) = mul-le-mul_left s (omega arith) in omega arith
  | inr (inr greater) ↦ let l : k * (fi + u + 1) ≤ k * (fj + d) = mul-le-mul_left k (omega arith) in absurd (omega arith)
]

moved_met : (n k s : ℕ) (x : ℕ → ℕ) (from to u d : ℕ) (strict : Bool) → 0 < k → n ≤ s → from < n → to < n →
    x to + (k * d + strict_part strict) ≤ x from + k * u → moved n k s x to + (s * d + strict_part strict) ≤ moved n k s x from + s * u
moved_met n k s x from to u d false some ns fn tn h =
    let fr : rank n k x from < n = rank_bounded n k x from fn in
    let tr : rank n k x to < n = rank_bounded n k x to tn in
    let w : s * (x to / k) + rank n k x to + s * d ≤ s * (x from / k) + rank n k x from + s * u =
    kept_weak k s (x from / k) (x from % k) (x to / k) (x to % k) (rank n k x from) (rank n k x to) u d (omega arith) (omega arith) (omega arith) (omega arith)
    (rank_order n k x to from) (omega arith) in
    omega arith
moved_met n k s x from to u d true some ns fn tn h =
    let fr : rank n k x from < n = rank_bounded n k x from fn in
    let tr : rank n k x to < n = rank_bounded n k x to tn in
    let w : s * (x to / k) + rank n k x to + s * d < s * (x from / k) + rank n k x from + s * u =
    kept_strict k s (x from / k) (x from % k) (x to / k) (x to % k) (rank n k x from) (rank n k x to) u d (omega arith) (omega arith) (omega arith) (omega arith)
    (rank_strict n k x to from tn) (omega arith) in
    omega arith

count_none : (n : ℕ) → count (λ q. false) n ≡ 0
unfolding count
count_none zero = refl
count_none (suc n) = let e : count (λ q. false) n ≡ 0 = count_none n in omega arith

moved_origin : (n k s : ℕ) (x : ℕ → ℕ) → 0 < k → x 0 ≡ 0 → moved n k s x 0 ≡ 0
moved_origin n k s x some origin =
    let none : (q : ℕ) → nat_lt (x q % k) (x 0 % k) ≡ true → false ≡ true = λ q h. let z : x 0 % k ≡ 0 = omega arith in grind (arith, nat_tests) in
    let less : rank n k x 0 ≤ count (λ q. false) n = count_order (λ q. nat_lt (x q % k) (x 0 % k)) (λ q. false) none n in
    let zero : count (λ q. false) n ≡ 0 = count_none n in
    let whole : x 0 / k ≡ 0 = omega arith in
    let e : s * (x 0 / k) ≡ s * 0 = ap (λ m. s * m) whole in
    omega arith

pub moved_solves : (n k s : ℕ) (cs : List Constraint) (x : ℕ → ℕ) → 0 < k → n ≤ s → All (IsOverPoints n) cs → Solves k cs x → Solves s cs (moved n k s x)
moved_solves n k s cs x some ns within solves = record {
  origin = moved_origin n k s x some solves.origin;
  meets = all_meet s (moved n k s x) cs (λ i d lt.
      let old : IsMet k x (get_or cs i d) = all_met k x cs solves.meets i d lt in
      moved_met n k s x (get_or cs i d).from (get_or cs i d).to (positive_part (get_or cs i d).bound) (negative_part (get_or cs i d).bound) (get_or cs i d).strict
      some ns (within i d lt).0 (within i d lt).1 old);
}

-- on a grid that is no finer no time moves up by more than the number of points
pub moved_low : (n k s : ℕ) (x : ℕ → ℕ) (p limit : ℕ) → 0 < k → s ≤ k → x p ≤ limit → moved n k s x p ≤ limit + n
moved_low n k s x p limit some finer low =
    let a : s * (x p / k) ≤ k * (x p / k) = mul-le-mul_right (x p / k) finer in
    let b : k * (x p / k) ≤ x p = omega arith in
    omega (arith, count_bounded (λ q. nat_lt (x q % k) (x p % k)) n)

pub one_grid : OneGridDecides
one_grid n s cs pn ns within = (λ sat. (moved n sat.0 s sat.1, moved_solves n sat.0 s cs sat.1 sat.2 ns within sat.3), λ times. (s, times.0, omega arith, times.1))
