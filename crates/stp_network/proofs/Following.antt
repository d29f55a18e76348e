-- A marked point is looked at: one edge to it after another, and the origin's point after point.
use Rattle.std.proofs.Common.{◌≡◌, ◌≢◌, ℕ, ◌+◌, ◌-◌, ◌<◌, ◌≤◌, ◌⊎◌, Bool, true, false, List, get_or, length, sum, ap, sym, subst, ◌∙◌, inl, inr, arith}
use Rattle.std.proofs.lemmas.Bool.{cases_order}
use Rattle.std.proofs.lemmas.List.{get_or_default}
use Rattle.stp_network.specs.declared.edge.Edge.{Edge}
use Rattle.stp_network.specs.declared.propagation.Propagation.{Propagation}
use Rattle.stp_network.specs.declared.propagation.Step.{Step}
use Rattle.stp_network.specs.declared.propagation.Step.TheVariants.{Cycle, Met, Raised}
use Rattle.stp_network.specs.Edges.{IsMetBy, lag_of, lead_of}
use Rattle.stp_network.specs.Propagation.{IsSet, IsUnderway, rise_of}
use Rattle.stp_network.specs.Raising.{IsLink, NoneFalls, StayMarked}

-- what every step keeps of the times and the marks with which a point was begun
pub record IsStepping (p : Propagation) (work0 : List ℕ) (marks0 : List Bool) (point : ℕ) (work : List ℕ) (marks : List Bool) (step : Step) : Type 0 where
  pub way : IsUnderway p work marks
  pub marked : get_or marks point false ≡ true
  pub same : get_or work point 0 ≡ get_or work0 point 0
  pub up : NoneFalls work0 work
  pub kept : StayMarked marks0 marks
  pub still : step ≡ Met → marks ≡ marks0
  pub grown : sum work0 + rise_of step ≤ sum work
  pub goes : step ≢ Cycle

-- how the step so far and that of one more point join
abbrev pub Joins : Step → Step → Step → Type 0
Joins step one next = ((one ≡ Met) × (next ≡ step)) ⊎ ((one ≡ Raised) × (next ≡ Raised))

pub goes_on : (step one next : Step) → Joins step one next → one ≢ Cycle
goes_on step one next ways cycle = elim ways [
  | inl (is, joined) ↦ let e : Met ≡ Cycle = sym is ∙ cycle in cc
  | inr (is, joined) ↦ let e : Raised ≡ Cycle = sym is ∙ cycle in cc
]

pub stepped : (p : Propagation) (work0 : List ℕ) (marks0 : List Bool) (point : ℕ) (work : List ℕ) (marks : List Bool) (step : Step) (after : List ℕ) (flags : List Bool) (one next : Step) →
    IsStepping p work0 marks0 point work marks step → IsUnderway p after flags → NoneFalls work after → get_or after point 0 ≡ get_or work point 0 →
    StayMarked marks flags → (one ≡ Met → flags ≡ marks) → sum work + rise_of one ≤ sum after → Joins step one next →
    IsStepping p work0 marks0 point after flags next
stepped p work0 marks0 point work marks step after flags one next old way up same kept still grown ways = record {
  way = way;
  marked = kept point old.marked;
  same = same ∙ old.same;
  up = λ q. omega (arith, old.up q, up q);
  kept = λ q marked. kept q (old.kept q marked);
  still = λ met. elim ways [
    | inl (is, joined) ↦ still is ∙ old.still (sym joined ∙ met)
    | inr (is, joined) ↦ absurd (let e : Raised ≡ Met = sym joined ∙ met in cc)
  ];
  grown = elim ways [
    | inl (is, joined) ↦ let e : rise_of next ≡ rise_of step = ap rise_of joined in omega (arith, old.grown)
    | inr (is, joined) ↦ let e : rise_of next ≡ 1 = ap rise_of joined in let f : rise_of one ≡ 1 = ap rise_of is in omega (arith, old.grown)
  ];
  goes = λ cycle. elim ways [
    | inl (is, joined) ↦ old.goes (sym joined ∙ cycle)
    | inr (is, joined) ↦ let e : Raised ≡ Cycle = sym joined ∙ cycle in cc
  ];
}

-- all edges to the point that stand from the link on are met
pub record IsFollowing (p : Propagation) (work0 : List ℕ) (marks0 : List Bool) (point : ℕ) (work : List ℕ) (marks : List Bool) (step : Step) (link : ℕ) : Type 0 where
  pub steps : IsStepping p work0 marks0 point work marks step
  pub within : link ≤ length p.edges.now
  pub here : (d : Edge) → 0 < link → (get_or p.edges.now (link - 1) d).to ≡ point
  pub met : (k : ℕ) (d : Edge) → link ≤ k → k < length p.edges.now → (get_or p.edges.now k d).to ≡ point → IsMetBy (λ q. get_or work q 0) (get_or p.edges.now k d)

pub followed : (p : Propagation) (work0 : List ℕ) (marks0 : List Bool) (point : ℕ) (work : List ℕ) (marks : List Bool) (step : Step) (link : ℕ) (d : Edge) (after : List ℕ) (flags : List Bool) (next : Step) →
    IsSet p → IsFollowing p work0 marks0 point work marks step link → 0 < link →
    IsStepping p work0 marks0 point after flags next → NoneFalls work after → get_or after point 0 ≡ get_or work point 0 →
    get_or after point 0 + lag_of (get_or p.edges.now (link - 1) d) ≤ get_or after (get_or p.edges.now (link - 1) d).from 0 + lead_of (get_or p.edges.now (link - 1) d) →
    IsFollowing p work0 marks0 point after flags next (get_or p.edges.now (link - 1) d).next
followed p work0 marks0 point work marks step link d after flags next setting old some steps up same asked =
    let at : link - 1 < length p.edges.now = omega (arith, old.within) in
    let e : Edge = get_or p.edges.now (link - 1) d in
    let to : e.to ≡ point = old.here d some in
    let linked : IsLink p.edges.now e.to (link - 1) e.next = setting.linked.next (link - 1) d at in
    record {
      steps = steps;
      within = omega (arith, linked.within);
      here = λ d2 more. linked.here d2 more ∙ to;
      met = λ k d2 from lt point_is. elim (cases_order k (link - 1)) [
        | inl this ↦
            let f : get_or p.edges.now k d2 ≡ e = ap (λ i. get_or p.edges.now i d2) this ∙ get_or_default p.edges.now (link - 1) d2 d at in
            let g : get_or after e.to 0 ≡ get_or after point 0 = ap (λ i. get_or after i 0) to in
            let here : IsMetBy (λ q. get_or after q 0) e = omega arith in
            let P : Edge → Type 0 = λ x. IsMetBy (λ q. get_or after q 0) x in
            subst P (sym f) here
        | inr (inl between) ↦ absurd (linked.none k d2 from between (point_is ∙ sym to))
        | inr (inr past) ↦
            let a : IsMetBy (λ q. get_or work q 0) (get_or p.edges.now k d2) = old.met k d2 (omega arith) lt point_is in
            let g : get_or after (get_or p.edges.now k d2).to 0 ≡ get_or after point 0 = ap (λ i. get_or after i 0) point_is in
            let h : get_or work (get_or p.edges.now k d2).to 0 ≡ get_or work point 0 = ap (λ i. get_or work i 0) point_is in
            omega (arith, up (get_or p.edges.now k d2).from)
      ];
    }

-- no point of those that were looked at is before the origin
pub record IsFollowingOrigin (p : Propagation) (work0 : List ℕ) (marks0 : List Bool) (work : List ℕ) (marks : List Bool) (step : Step) (point : ℕ) : Type 0 where
  pub steps : IsStepping p work0 marks0 0 work marks step
  pub met : (q : ℕ) → q < point → get_or work 0 0 ≤ get_or work q 0

pub followed_origin : (p : Propagation) (work0 : List ℕ) (marks0 : List Bool) (work : List ℕ) (marks : List Bool) (step : Step) (point : ℕ) (after : List ℕ) (flags : List Bool) (next : Step) →
    IsFollowingOrigin p work0 marks0 work marks step point → IsStepping p work0 marks0 0 after flags next → NoneFalls work after → get_or after 0 0 ≡ get_or work 0 0 →
    get_or after 0 0 + 0 ≤ get_or after point 0 + 0 → IsFollowingOrigin p work0 marks0 after flags next (point + 1)
followed_origin p work0 marks0 work marks step point after flags next old steps up same asked = record {
  steps = steps;
  met = λ q lt. elim (cases_order q point) [
    | inl this ↦ let e : get_or after q 0 ≡ get_or after point 0 = ap (λ i. get_or after i 0) this in omega arith
    | inr (inl before) ↦ omega (arith, old.met q before, up q)
    | inr (inr past) ↦ absurd (omega arith)
  ];
}
