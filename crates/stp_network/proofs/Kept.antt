-- Kept times and links, where the times are others or a point comes.
use Rattle.std.proofs.Common.{◌≡◌, ℕ, zero, suc, ◌+◌, ◌-◌, ◌*◌, ◌^◌, ◌<◌, ◌≤◌, List, [], ◌∷◌, ◌++◌, get_or, set, length, refl, ap, sym, subst, ◌∙◌, inl, inr, arith}
use Rattle.std.proofs.Math.Seq.{get_or-append_seam}
use Rattle.std.proofs.lemmas.Bool.{cases_lt}
use Rattle.std.proofs.lemmas.List.{get_or_append_left, get_or_past, length-append}
use Rattle.stp_network.specs.declared.edge.Edge.{Edge}
use Rattle.stp_base.specs.declared.limits.TheConstants.{MAX_CONSTRAINTS, MAX_POINTS}
use Rattle.stp_network.specs.declared.limits.TheConstants.{KEPT_GRID, LATEST_KEPT}
use Rattle.stp_network.specs.Edges.{IsMetBy, IsSmall}
use Rattle.stp_network.specs.Lowest.{HasTimes, IsBelowAll, SolvesEdges}
use Rattle.stp_network.specs.Raising.{AreLinked, IsLink, IsPotential}
use Rattle.stp_network.specs.Rows.{IsKept, rooted}
use Rattle.stp_network.proofs.Gaps.{least_is_low}
use Rattle.stp_network.proofs.Linked.{kept_put}
use Rattle.stp_network.proofs.Sizes.{lag_bounded}

pub kept_same : (limit : ℕ) (times heads times2 heads2 : List ℕ) (es es2 : List Edge) → times2 ≡ times → heads2 ≡ heads → es2 ≡ es → IsKept limit times heads es → IsKept limit times2 heads2 es2
kept_same limit times heads times2 heads2 es es2 t h e kept =
    let P : List ℕ → Type 0 = λ x. IsKept limit x heads2 es2 in
    let Q : List ℕ → Type 0 = λ x. IsKept limit times x es2 in
    let R : List Edge → Type 0 = λ x. IsKept limit times heads x in
    subst P (sym t) (subst Q (sym h) (subst R (sym e) kept))

-- other times that meet all edges
pub kept_moved : (limit limit2 : ℕ) (times heads news : List ℕ) (es : List Edge) → IsKept limit times heads es → length news ≡ length times →
    IsPotential (length times) es (λ q. get_or news q 0) → ((p : ℕ) → get_or news p 0 ≤ limit2) → IsKept limit2 news heads es
kept_moved limit limit2 times heads news es kept counted potential low =
    let P : ℕ → Type 0 = λ n. AreLinked n es heads in
    let Q : ℕ → Type 0 = λ n. IsPotential n es (λ q. get_or news q 0) in
    record {
      linked = subst P (sym counted) kept.linked;
      potential = subst Q (sym counted) potential;
      low = low;
      few = omega (arith, kept.few);
      count = kept.count;
    }

-- times from the origin on
pub kept_has_times : (limit : ℕ) (times heads : List ℕ) (es : List Edge) → IsKept limit times heads es → HasTimes KEPT_GRID es limit
kept_has_times limit times heads es kept =
    let time : ℕ → ℕ = λ p. get_or times p 0 - get_or times 0 0 in
    let solves : SolvesEdges KEPT_GRID es time = record {
      origin = omega arith;
      met = λ k d lt.
          let a : IsMetBy (λ q. get_or times q 0) (get_or es k d) = kept.potential.met k d lt in
          omega (arith, kept.potential.origin (get_or es k d).from (kept.linked.from k d lt), kept.potential.origin (get_or es k d).to (kept.linked.to k d lt));
    } in
    (time, solves, λ p. omega (arith, kept.low p))

-- the least times are low
pub kept_lowest : (limit : ℕ) (times heads news : List ℕ) (es : List Edge) → IsKept limit times heads es → 0 < length times → length news ≡ length times →
    SolvesEdges KEPT_GRID es (λ q. get_or news q 0) → IsBelowAll KEPT_GRID es news → IsKept LATEST_KEPT news heads es
kept_lowest limit times heads news es kept some counted solves below =
    let low : (p : ℕ) → get_or news p 0 ≤ length times * 2 ^ 72 =
    least_is_low KEPT_GRID (length times) es news (2 ^ 72) some counted
    (λ k d lt. lag_bounded KEPT_GRID (get_or es k d) (omega arith) (kept.linked.small k d lt)) solves below in
    let potential : IsPotential (length times) es (λ q. get_or news q 0) = record {
      origin = λ p lt. omega (arith, solves.origin);
      met = solves.met;
    } in
    kept_moved limit LATEST_KEPT times heads news es kept counted potential (λ p. omega (arith, low p, kept.few))

-- an edge comes that other times meet
pub kept_judged : (limit limit2 : ℕ) (times heads news : List ℕ) (es : List Edge) (e : Edge) → IsKept limit times heads es → length news ≡ length times →
    IsPotential (length times) es (λ q. get_or news q 0) → ((p : ℕ) → get_or news p 0 ≤ limit2) → IsMetBy (λ q. get_or news q 0) e →
    e.from < length times → e.to < length times → IsSmall e → e.next ≡ get_or heads e.to 0 → length es < MAX_CONSTRAINTS →
    IsKept limit2 news (set heads e.to (length es + 1)) (es ++ e ∷ [])
kept_judged limit limit2 times heads news es e kept counted potential low met from to small next few =
    kept_put limit2 news heads es e (kept_moved limit limit2 times heads news es kept counted potential low) (omega arith) (omega arith) small next few met

-- a row with the origin alone is 0 everywhere
abbrev root : List ℕ
root = 0 ∷ []

get_or_root : (p : ℕ) → get_or root p 0 ≡ 0
get_or_root zero = refl
get_or_root (suc p) = get_or_past root (suc p) 0 (omega arith)

-- the origin comes where no point is
pub kept_rooted : (limit : ℕ) (times heads : List ℕ) (es : List Edge) → IsKept limit times heads es → IsKept limit (rooted times) (rooted heads) es
kept_rooted limit [] [] es kept =
    let none : (k : ℕ) (d : Edge) → k < length es → ⊥ = λ k d lt. omega (arith, kept.linked.from k d lt) in
    record {
      linked = record {
        rows = refl;
        count = kept.linked.count;
        first = λ p lt. record {
          within = omega (arith, get_or_root p);
          here = λ d some. absurd (omega (arith, get_or_root p));
          none = λ k d from below is. none k d below;
        };
        next = kept.linked.next;
        from = λ k d lt. absurd (none k d lt);
        to = λ k d lt. absurd (none k d lt);
        small = kept.linked.small;
      };
      potential = record {
        origin = λ p lt. omega (arith, get_or_root 0);
        met = λ k d lt. absurd (none k d lt);
      };
      low = λ p. omega (arith, get_or_root p);
      few = omega arith;
      count = kept.count;
    }
kept_rooted limit [] (h ∷ heads) es kept = absurd (omega (arith, kept.linked.rows))
kept_rooted limit (x ∷ times) [] es kept = absurd (omega (arith, kept.linked.rows))
kept_rooted limit (x ∷ times) (h ∷ heads) es kept = kept

-- a point comes at the origin's time
pub kept_more : (times heads : List ℕ) (es : List Edge) → IsKept LATEST_KEPT times heads es → 0 < length times → length times < MAX_POINTS →
    IsKept LATEST_KEPT (times ++ get_or times 0 0 ∷ []) (heads ++ 0 ∷ []) es
kept_more times heads es kept some few =
    let counted : length (times ++ get_or times 0 0 ∷ []) ≡ length times + 1 = length-append times (get_or times 0 0 ∷ []) in
    let old : (p : ℕ) → p < length times → get_or (times ++ get_or times 0 0 ∷ []) p 0 ≡ get_or times p 0 = λ p lt. get_or_append_left times (get_or times 0 0 ∷ []) 0 p lt in
    let last : get_or (times ++ get_or times 0 0 ∷ []) (length times) 0 ≡ get_or times 0 0 = get_or-append_seam times (get_or times 0 0) [] 0 in
    let linked : AreLinked (length times + 1) es (heads ++ 0 ∷ []) = record {
      rows = omega (arith, length-append heads (0 ∷ []), kept.linked.rows);
      count = kept.linked.count;
      first = λ p lt. elim (cases_lt p (length times)) [
        | inl inside ↦ let P : ℕ → Type 0 = λ l. IsLink es p (length es) l in
            subst P (sym (get_or_append_left heads (0 ∷ []) 0 p (omega (arith, kept.linked.rows)))) (kept.linked.first p inside)
        | inr new ↦
            let at : p ≡ length heads = omega (arith, kept.linked.rows) in
            let is : get_or (heads ++ 0 ∷ []) p 0 ≡ 0 = ap (λ i. get_or (heads ++ 0 ∷ []) i 0) at ∙ get_or-append_seam heads 0 [] 0 in
            let P : ℕ → Type 0 = λ l. IsLink es p (length es) l in
            let none : IsLink es p (length es) 0 = record {
              within = omega arith;
              here = λ d some. absurd (omega arith);
              none = λ k d from below same. omega (arith, kept.linked.to k d below);
            } in
            subst P (sym is) none
      ];
      next = kept.linked.next;
      from = λ k d lt. omega (arith, kept.linked.from k d lt);
      to = λ k d lt. omega (arith, kept.linked.to k d lt);
      small = kept.linked.small;
    } in
    let P : ℕ → Type 0 = λ n. AreLinked n es (heads ++ 0 ∷ []) in
    record {
      linked = subst P (sym counted) linked;
      potential = record {
        origin = λ p lt. elim (cases_lt p (length times)) [
          | inl inside ↦ omega (arith, old 0 some, old p inside, kept.potential.origin p inside)
          | inr new ↦
              let at : p ≡ length times = omega arith in
              let is : get_or (times ++ get_or times 0 0 ∷ []) p 0 ≡ get_or times 0 0 = ap (λ i. get_or (times ++ get_or times 0 0 ∷ []) i 0) at ∙ last in
              omega (arith, old 0 some)
        ];
        met = λ k d lt.
            let a : IsMetBy (λ q. get_or times q 0) (get_or es k d) = kept.potential.met k d lt in
            omega (arith, old (get_or es k d).from (kept.linked.from k d lt), old (get_or es k d).to (kept.linked.to k d lt));
      };
      low = λ p. elim (cases_lt p (length times)) [
        | inl inside ↦ omega (arith, old p inside, kept.low p)
        | inr new ↦ elim (cases_lt (length times) p) [
          | inl past ↦ omega (arith, get_or_past (times ++ get_or times 0 0 ∷ []) p 0 (omega arith))
          | inr here ↦
              let at : p ≡ length times = omega arith in
              let is : get_or (times ++ get_or times 0 0 ∷ []) p 0 ≡ get_or times 0 0 = ap (λ i. get_or (times ++ get_or times 0 0 ∷ []) i 0) at ∙ last in
              omega (arith, kept.low 0)
        ]
      ];
      few = omega arith;
      count = kept.count;
    }
