-- Least times have no wide gaps, so they are low.
use Rattle.std.proofs.Common.{◌≡◌, ℕ, suc, zero, ◌+◌, ◌*◌, ◌-◌, ◌<◌, ◌≤◌, ◌⊎◌, true, false, nat_lt, nat_le, cond, List, get_or, length, All, refl, inl, inr, arith}
use Rattle.std.proofs.lemmas.Bool.{cases_lt}
use Rattle.std.proofs.lemmas.Bool.Decides.{nat_tests}
use Rattle.std.proofs.lemmas.List.{get_or_past}
use Rattle.stp_network.specs.declared.edge.Edge.{Edge}
use Rattle.stp_network.specs.Demands.{lag}
use Rattle.stp_network.specs.Edges.{constraint_of}
use Rattle.stp_network.specs.Lowest.{IsBelowAll, IsMetOn, SolvesEdges}
use Rattle.stp_network.proofs.Fractions.{count, count_bounded, count_strict}

-- a time is below a gap and stays, or is above it and goes down by one
abbrev Side : (ℕ → ℕ) → (ℕ → ℕ) → ℕ → ℕ → ℕ → Type 0
Side time less low high p = ((time p ≤ low) × (less p ≡ time p)) ⊎ ((high < time p) × (less p ≡ time p - 1))

gap_met : (grid : ℕ) (e : Edge) (time less : ℕ → ℕ) (low width : ℕ) → Side time less low (low + width) e.from → Side time less low (low + width) e.to →
    lag grid (constraint_of e) ≤ width → IsMetOn grid time e → IsMetOn grid less e
gap_met grid e time less low width (inl f) (inl t) bound met = omega (arith, f.1, t.1)
gap_met grid e time less low width (inl f) (inr t) bound met = omega (arith, f.1, t.1)
gap_met grid e time less low width (inr f) (inl t) bound met = omega (arith, f.0, f.1, t.0, t.1)
gap_met grid e time less low width (inr f) (inr t) bound met = omega (arith, f.0, f.1, t.0, t.1)

gap_solves : (grid : ℕ) (es : List Edge) (time less : ℕ → ℕ) (low width : ℕ) → ((p : ℕ) → Side time less low (low + width) p) →
    All (λ e. lag grid (constraint_of e) ≤ width) es → SolvesEdges grid es time → SolvesEdges grid es less
gap_solves grid es time less low width sides bound solves = record {
  origin = elim (sides 0) [ inl p ↦ omega (arith, solves.origin, p.1) | inr p ↦ omega (arith, solves.origin, p.1) ];
  met = λ i d lt. gap_met grid (get_or es i d) time less low width (sides (get_or es i d).from) (sides (get_or es i d).to) (bound i d lt) (solves.met i d lt);
}

-- where no time of the first n points is in a gap, none is above it: else all above could go down
no_gap : (grid n : ℕ) (es : List Edge) (row : List ℕ) (low width : ℕ) → length row ≡ n → All (λ e. lag grid (constraint_of e) ≤ width) es →
    SolvesEdges grid es (λ p. get_or row p 0) → IsBelowAll grid es row →
    ((p : ℕ) → p < n → low < get_or row p 0 → low + width < get_or row p 0) → (p : ℕ) → get_or row p 0 ≤ low
no_gap grid n es row low width counted bound solves least none p = elim (cases_lt low (get_or row p 0)) [
  | inl high ↦
      let less : ℕ → ℕ = λ q. cond (nat_lt low (get_or row q 0)) (get_or row q 0 - 1) (get_or row q 0) in
      let sides : (q : ℕ) → Side (λ i. get_or row i 0) less low (low + width) q = λ q. elim (cases_lt low (get_or row q 0)) [
        | inl above ↦ elim (cases_lt q n) [
          | inl inside ↦ inr (none q inside above, grind (arith, nat_tests))
          | inr outside ↦ absurd (let e : get_or row q 0 ≡ 0 = get_or_past row q 0 (omega arith) in omega arith)
        ]
        | inr under ↦ inl (under, grind (arith, nat_tests))
      ] in
      let l : get_or row p 0 ≤ less p = least.least less (gap_solves grid es (λ i. get_or row i 0) less low width sides bound solves) p in
      let e : less p ≡ get_or row p 0 - 1 = grind (arith, nat_tests) in
      absurd (omega arith)
  | inr under ↦ under
]

-- how many of the first n points have come by a time
abbrev come : List ℕ → ℕ → ℕ → ℕ
come row n t = count (λ p. nat_le (get_or row p 0) t) n

-- with each width more points have come, until all have
climbs : (grid n : ℕ) (es : List Edge) (row : List ℕ) (width : ℕ) → 0 < n → length row ≡ n → All (λ e. lag grid (constraint_of e) ≤ width) es →
    SolvesEdges grid es (λ p. get_or row p 0) → IsBelowAll grid es row →
    (h : ℕ) → (h < come row n (h * width)) ⊎ ((p : ℕ) → get_or row p 0 ≤ h * width)
climbs grid n es row width pn counted bound solves least zero =
    let first : nat_le (get_or row 0 0) (0 * width) ≡ true = let e : get_or row 0 0 ≡ 0 = solves.origin in grind (arith, nat_tests) in
    let some : count (λ p. false) n < come row n (0 * width) =
    count_strict (λ p. false) (λ p. nat_le (get_or row p 0) (0 * width)) (λ p h. let e : false ≡ true = h in cc) n 0 pn refl first in
    inl (omega arith)
climbs grid n es row width pn counted bound solves least (suc h) =
    let next : suc h * width ≡ h * width + width = omega arith in
    elim (climbs grid n es row width pn counted bound solves least h) [
      | inl before ↦ elim (cases_lt (come row n (h * width)) (come row n (suc h * width))) [
        | inl grown ↦ inl (omega arith)
        | inr same ↦ inr (λ p.
            let none : (q : ℕ) → q < n → h * width < get_or row q 0 → h * width + width < get_or row q 0 = λ q inside high.
            elim (cases_lt (h * width + width) (get_or row q 0)) [
              | inl above ↦ above
              | inr under ↦ absurd (
                  let more : come row n (h * width) < come row n (suc h * width) =
                  count_strict (λ i. nat_le (get_or row i 0) (h * width)) (λ i. nat_le (get_or row i 0) (suc h * width)) (λ i l. grind (arith, nat_tests)) n q inside
                  (grind (arith, nat_tests)) (grind (arith, nat_tests)) in
                  omega arith)
            ] in
            let low : get_or row p 0 ≤ h * width = no_gap grid n es row (h * width) width counted bound solves least none p in
            omega arith)
      ]
      | inr all ↦ inr (λ p. let low : get_or row p 0 ≤ h * width = all p in omega arith)
    ]

-- least times are at most a width for each point
pub least_is_low : (grid n : ℕ) (es : List Edge) (row : List ℕ) (width : ℕ) → 0 < n → length row ≡ n → All (λ e. lag grid (constraint_of e) ≤ width) es →
    SolvesEdges grid es (λ p. get_or row p 0) → IsBelowAll grid es row → (p : ℕ) → get_or row p 0 ≤ n * width
least_is_low grid n es row width pn counted bound solves least p = elim (climbs grid n es row width pn counted bound solves least n) [
  | inl more ↦ absurd (omega (arith, count_bounded (λ q. nat_le (get_or row q 0) (n * width)) n))
  | inr all ↦ all p
]
