-- One pass over all edges.
use Rattle.std.proofs.Common.{◌≡◌, ℕ, ◌+◌, ◌<◌, ◌≤◌, Bool, true, false, List, get_or, set, length, sum, ap, sym, subst, ◌∙◌, inl, inr, arith}
use Rattle.std.proofs.lemmas.Bool.{cases_eq, cases_order}
use Rattle.std.proofs.lemmas.List.{get_or-set_same, get_or-set_other, get_or_default}
use Rattle.std.proofs.lemmas.List.Sums.{sum_by-set}
use Rattle.stp_network.specs.declared.edge.Edge.{Edge}
use Rattle.stp_network.specs.Demands.{lag, lead}
use Rattle.stp_network.specs.Edges.{constraint_of}
use Rattle.stp_network.specs.Lowest.{HasTimes, IsBelowAll, IsMetOn, growth_of}

-- what a pass keeps: where nothing moved so far, all edges that were looked at are met
pub record IsPass (grid : ℕ) (es : List Edge) (row0 row : List ℕ) (moved : Bool) (index : ℕ) : Type 0 where
  pub below : IsBelowAll grid es row
  pub met : moved ≡ false → (k : ℕ) (d : Edge) → k < index → IsMetOn grid (λ q. get_or row q 0) (get_or es k d)
  pub grown : sum row0 + growth_of moved ≤ sum row

-- no time is above the limit
pub low_of : (grid : ℕ) (es : List Edge) (row : List ℕ) (limit p : ℕ) → IsBelowAll grid es row → HasTimes grid es limit → get_or row p 0 ≤ limit
low_of grid es row limit p below times = omega (arith, below.least times.0 times.1 p, times.2 p)

-- a point that an edge finds behind stays below all times that meet it
below_raised : (grid : ℕ) (es : List Edge) (row : List ℕ) (i : ℕ) (d : Edge) (t : ℕ) → i < length es → (get_or es i d).from < length row → IsBelowAll grid es row →
    t + lead grid (constraint_of (get_or es i d)) ≤ get_or row (get_or es i d).to 0 + lag grid (constraint_of (get_or es i d)) →
    IsBelowAll grid es (set row (get_or es i d).from t)
below_raised grid es row i d t lt inside below asked =
    let e : Edge = get_or es i d in
    record {
      least = λ time solves p. elim (cases_eq p e.from) [
        | inl same ↦
            let a : get_or (set row e.from t) p 0 ≡ t = ap (λ j. get_or (set row e.from t) j 0) same ∙ get_or-set_same row e.from t 0 inside in
            let b : time p ≡ time e.from = ap time same in
            let m : IsMetOn grid time e = solves.met i d lt in
            omega (arith, below.least time solves e.to)
        | inr other ↦ omega (arith, get_or-set_other row e.from p t 0 other, below.least time solves p)
      ];
    }

-- the sum grows where a time does
sum_raised : (row : List ℕ) (q t : ℕ) → q < length row → get_or row q 0 < t → sum row + 1 ≤ sum (set row q t)
sum_raised row q t inside up = omega (arith, sum_by-set (λ n. n) row q t 0 inside)

-- after an edge that moved a point
pub passed_moving : (grid : ℕ) (es : List Edge) (row0 row : List ℕ) (moved : Bool) (i : ℕ) (d : Edge) (after : List ℕ) (flag : Bool) (t : ℕ) →
    IsPass grid es row0 row moved i → i < length es → (get_or es i d).from < length row →
    t + lead grid (constraint_of (get_or es i d)) ≤ get_or row (get_or es i d).to 0 + lag grid (constraint_of (get_or es i d)) →
    get_or row (get_or es i d).from 0 < t → after ≡ set row (get_or es i d).from t → flag ≡ true → IsPass grid es row0 after flag (i + 1)
passed_moving grid es row0 row moved i d after flag t old lt inside asked up is flag_is =
    let P : List ℕ → Type 0 = λ r. IsPass grid es row0 r flag (i + 1) in
    subst P (sym is) (record {
      below = below_raised grid es row i d t lt inside old.below asked;
      met = λ unmoved. absurd (let e : true ≡ false = sym flag_is ∙ unmoved in cc);
      grown = let g : growth_of flag ≡ 1 = ap growth_of flag_is in omega (arith, old.grown, sum_raised row (get_or es i d).from t inside up);
    })

-- after an edge that was met
pub passed_met : (grid : ℕ) (es : List Edge) (row0 row : List ℕ) (moved : Bool) (i : ℕ) (d : Edge) (after : List ℕ) (flag : Bool) →
    IsPass grid es row0 row moved i → i < length es → IsMetOn grid (λ q. get_or row q 0) (get_or es i d) → after ≡ row → flag ≡ moved → IsPass grid es row0 after flag (i + 1)
passed_met grid es row0 row moved i d after flag old lt met is flag_is =
    let P : List ℕ → Type 0 = λ r. IsPass grid es row0 r flag (i + 1) in
    subst P (sym is) (record {
      below = old.below;
      met = λ unmoved k other below. elim (cases_order k i) [
        | inl same ↦
            let e : get_or es k other ≡ get_or es i d = ap (λ j. get_or es j other) same ∙ get_or_default es i other d lt in
            let Q : Edge → Type 0 = λ x. IsMetOn grid (λ q. get_or row q 0) x in
            subst Q (sym e) met
        | inr (inl before) ↦ old.met (sym flag_is ∙ unmoved) k other before
        | inr (inr after_it) ↦ absurd (omega arith)
      ];
      grown = let g : growth_of flag ≡ growth_of moved = ap growth_of flag_is in omega (arith, old.grown);
    })
