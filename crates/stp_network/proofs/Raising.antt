-- One point moves forward.
use Rattle.std.proofs.Common.{◌≡◌, ◌≢◌, ℕ, ◌+◌, ◌-◌, ◌<◌, ◌≤◌, Bool, true, false, List, get_or, set, length, ap, sym, ◌∙◌, inl, inr, arith}
use Rattle.std.proofs.lemmas.Bool.{cases_eq}
use Rattle.std.proofs.lemmas.List.{get_or-set_same, get_or-set_other, length-set}
use Rattle.stp_network.specs.declared.edge.Edge.{Edge}
use Rattle.stp_network.specs.Edges.{IsMetBy}
use Rattle.stp_network.specs.Raising.{HasNoPotential, IsForced, IsPrecedence, IsRaised}

-- where the new constraint's second point would have to move, no times meet all
pub came_back : (es : List Edge) (xs : List ℕ) (fresh : Edge) (ys : List ℕ) (marks : List Bool) (p q m l : ℕ) →
    IsRaised es xs fresh ys marks → IsForced es xs fresh ys p → IsPrecedence es xs p q m l →
    get_or ys q 0 + l < get_or ys p 0 + m → q ≡ fresh.to → HasNoPotential (length xs) es fresh
came_back es xs fresh ys marks p q m l way forced asks short here time potential met =
    let ahead : get_or ys p 0 + time fresh.to ≤ time p + get_or xs fresh.to 0 = forced time potential met in
    let always : time p + m ≤ time q + l = asks.always time potential in
    let same : time q ≡ time fresh.to = ap time here in
    let stays : get_or ys q 0 ≡ get_or xs fresh.to 0 = ap (λ i. get_or ys i 0) here ∙ way.still in
    absurd (omega arith)

-- no time falls where one point's rises
pub none_falls : (ys : List ℕ) (q t p : ℕ) → q < length ys → get_or ys q 0 ≤ t → get_or ys p 0 ≤ get_or (set ys q t) p 0
none_falls ys q t p lt up = elim (cases_eq p q) [
  | inl same ↦
      let e : get_or (set ys q t) p 0 ≡ t = ap (λ i. get_or (set ys q t) i 0) same ∙ get_or-set_same ys q t 0 lt in
      let f : get_or ys p 0 ≡ get_or ys q 0 = ap (λ i. get_or ys i 0) same in
      omega arith
  | inr other ↦ omega (arith, get_or-set_other ys q p t 0 other)
]

-- no mark goes where one is set
pub stay_marked : (marks : List Bool) (q p : ℕ) → q < length marks → get_or marks p false ≡ true → get_or (set marks q true) p false ≡ true
stay_marked marks q p lt marked = elim (cases_eq p q) [
  | inl same ↦ ap (λ i. get_or (set marks q true) i false) same ∙ get_or-set_same marks q true false lt
  | inr other ↦ get_or-set_other marks q p true false other ∙ marked
]

-- a point that is behind moves
pub moved_on : (es : List Edge) (xs : List ℕ) (fresh : Edge) (ys : List ℕ) (marks : List Bool) (p q m l : ℕ) →
    IsRaised es xs fresh ys marks → IsForced es xs fresh ys p → IsPrecedence es xs p q m l → p < length xs → q < length xs →
    get_or ys q 0 + l < get_or ys p 0 + m → q ≢ fresh.to →
    IsRaised es xs fresh (set ys q (get_or ys p 0 + m - l)) (set marks q true)
moved_on es xs fresh ys marks p q m l way forced asks pl ql short apart =
    let t : ℕ = get_or ys p 0 + m - l in
    let inside : q < length ys = omega (arith, way.count) in
    let mark_inside : q < length marks = omega (arith, way.flags) in
    let up : get_or ys q 0 ≤ t = omega arith in
    let other : fresh.to ≢ q = λ e. apart (sym e) in
    record {
      count = length-set ys q t ∙ way.count;
      flags = length-set marks q true ∙ way.flags;
      still = get_or-set_other ys q fresh.to t 0 other ∙ way.still;
      capped = λ r. elim (cases_eq r q) [
        | inl same ↦
            let e : get_or (set ys q t) r 0 ≡ t = ap (λ i. get_or (set ys q t) i 0) same ∙ get_or-set_same ys q t 0 inside in
            let f : get_or xs r 0 ≡ get_or xs q 0 = ap (λ i. get_or xs i 0) same in
            omega (arith, way.capped p, asks.kept)
        | inr different ↦ omega (arith, get_or-set_other ys q r t 0 different, way.capped r)
      ];
      forced = λ r marked. elim (cases_eq r q) [
        | inl same ↦ λ time potential met.
            let e : get_or (set ys q t) r 0 ≡ t = ap (λ i. get_or (set ys q t) i 0) same ∙ get_or-set_same ys q t 0 inside in
            let d : time r ≡ time q = ap time same in
            let a : get_or ys p 0 + time fresh.to ≤ time p + get_or xs fresh.to 0 = forced time potential met in
            let b : time p + m ≤ time q + l = asks.always time potential in
            omega arith
        | inr different ↦ λ time potential met.
            let a : get_or ys r 0 + time fresh.to ≤ time r + get_or xs fresh.to 0 =
            way.forced r (sym (get_or-set_other marks q r true false different) ∙ marked) time potential met in
            omega (arith, get_or-set_other ys q r t 0 different)
      ];
      met = λ k d lt clean. elim (cases_eq (get_or es k d).to q) [
        | inl same ↦ absurd (
            let e : true ≡ false = sym (get_or-set_same marks q true false mark_inside) ∙ (ap (λ i. get_or (set marks q true) i false) (sym same) ∙ clean) in cc)
        | inr different ↦
            let a : IsMetBy (λ i. get_or ys i 0) (get_or es k d) = way.met k d lt (sym (get_or-set_other marks q (get_or es k d).to true false different) ∙ clean) in
            omega (arith, get_or-set_other ys q (get_or es k d).to t 0 different, none_falls ys q t (get_or es k d).from inside up)
      ];
      origin = λ clean r lt. elim (cases_eq 0 q) [
        | inl same ↦ absurd (
            let e : true ≡ false = sym (get_or-set_same marks q true false mark_inside) ∙ (ap (λ i. get_or (set marks q true) i false) (sym same) ∙ clean) in cc)
        | inr different ↦
            let a : get_or ys 0 0 ≤ get_or ys r 0 = way.origin (sym (get_or-set_other marks q 0 true false different) ∙ clean) r lt in
            omega (arith, get_or-set_other ys q 0 t 0 different, none_falls ys q t r inside up)
      ];
    }
