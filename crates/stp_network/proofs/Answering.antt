-- From what a network keeps to what its contracts say.
use Rattle.std.proofs.Common.{◌≡◌, ℕ, zero, suc, ◌+◌, ◌^◌, ◌<◌, ◌≤◌, ◌↔◌, Bool, true, false, if◌then◌else◌, IsTrue, List, [], ◌∷◌, ◌++◌, get_or, take, max, map, length, All, refl, ap, sym, subst, ◌∙◌, arith}
use Rattle.std.proofs.Math.ListN.{get_or-map}
use Rattle.std.proofs.Math.Seq.{get_or-append_seam}
use Rattle.std.proofs.lemmas.List.{length-append, length-map, map-append, take-map}
use Rattle.std.proofs.lemmas.List.Elements.{All-map}
use Rattle.stp_network.specs.declared.edge.Edge.{Edge}
use Rattle.stp_base.specs.declared.limits.TheConstants.{MAX_POINTS}
use Rattle.stp_network.specs.declared.limits.TheConstants.{KEPT_GRID, LATEST_KEPT}
use Rattle.stp_network.specs.Network.{Constraint, IsEarliest, IsSatisfiable, IsOverPoints, PlainNetwork, Solves}
use Rattle.stp_network.specs.Demands.{IsMet}
use Rattle.stp_network.specs.Edges.{IsMetBy, constraint_of}
use Rattle.stp_network.specs.Lowest.{HasTimes, IsBelowAll, SolvesEdges}
use Rattle.stp_network.specs.Raising.{AreLinked, HasNoPotential}
use Rattle.stp_network.specs.Rows.{IsKept}
use Rattle.stp_network.proofs.Demands.{all_met, all_meet}
use Rattle.stp_network.proofs.Fractions.{moved, moved_low, moved_solves}
use Rattle.stp_network.proofs.Kept.{kept_has_times}
use Rattle.stp_network.proofs.Linked.{all_fewer, all_more}

-- what holds of all constraints that edges are holds of the edges
all_of_map : (P : Constraint → Type 0) (es : List Edge) → All P (map constraint_of es) → All (λ e. P (constraint_of e)) es
all_of_map P es all i d lt = subst P (get_or-map constraint_of es i d) (all i (constraint_of d) (omega (arith, length-map es constraint_of)))

solves_of : (grid : ℕ) (es : List Edge) (time : ℕ → ℕ) → SolvesEdges grid es time → Solves grid (map constraint_of es) time
solves_of grid es time solves = record {
  origin = solves.origin;
  meets = all_meet grid time (map constraint_of es) (All-map (IsMet grid time) constraint_of es solves.met);
}

edges_solved : (grid : ℕ) (es : List Edge) (time : ℕ → ℕ) → Solves grid (map constraint_of es) time → SolvesEdges grid es time
edges_solved grid es time solves = record {
  origin = solves.origin;
  met = all_of_map (IsMet grid time) es (all_met grid time (map constraint_of es) solves.meets);
}

within_of : (n : ℕ) (es : List Edge) → All (λ e. e.from < n) es → All (λ e. e.to < n) es → All (IsOverPoints n) (map constraint_of es)
within_of n es from to = All-map (IsOverPoints n) constraint_of es (λ i d lt. (from i d lt, to i d lt))

pub kept_within : (limit n : ℕ) (times heads : List ℕ) (es : List Edge) (cs : List Constraint) → IsKept limit times heads es → n ≡ max 1 (length times) → cs ≡ map constraint_of es → All (IsOverPoints n) cs
kept_within limit n times heads es cs kept is constraints =
    let P : List Constraint → Type 0 = λ x. All (IsOverPoints n) x in
    subst P (sym constraints)
    (within_of n es (λ i d lt. omega (arith, kept.linked.from i d lt)) (λ i d lt. omega (arith, kept.linked.to i d lt)))

pub edges_from : (n : ℕ) (es : List Edge) (cs : List Constraint) → cs ≡ map constraint_of es → All (IsOverPoints n) cs → All (λ e. e.from < n) es
edges_from n es cs is within =
    let P : List Constraint → Type 0 = λ x. All (IsOverPoints n) x in
    let all : All (λ e. IsOverPoints n (constraint_of e)) es = all_of_map (IsOverPoints n) es (subst P is within) in
    λ i d lt. (all i d lt).0

pub edges_to : (n : ℕ) (es : List Edge) (cs : List Constraint) → cs ≡ map constraint_of es → All (IsOverPoints n) cs → All (λ e. e.to < n) es
edges_to n es cs is within =
    let P : List Constraint → Type 0 = λ x. All (IsOverPoints n) x in
    let all : All (λ e. IsOverPoints n (constraint_of e)) es = all_of_map (IsOverPoints n) es (subst P is within) in
    λ i d lt. (all i d lt).1

kept_satisfiable : (limit : ℕ) (times heads : List ℕ) (es : List Edge) → IsKept limit times heads es → IsSatisfiable (map constraint_of es)
kept_satisfiable limit times heads es kept =
    let has : HasTimes KEPT_GRID es limit = kept_has_times limit times heads es kept in
    (KEPT_GRID, has.0, omega arith, solves_of KEPT_GRID es has.0 has.1)

not_satisfiable : (n : ℕ) (es : List Edge) (heads : List ℕ) (e : Edge) → n ≤ MAX_POINTS → AreLinked n es heads → e.from < n → e.to < n → HasNoPotential n es e → IsSatisfiable (map constraint_of (es ++ e ∷ [])) → ⊥
not_satisfiable n es heads e few linked from to none (grid, time, some, solves) =
    let all : List Edge = es ++ e ∷ [] in
    let within : All (IsOverPoints n) (map constraint_of all) = within_of n all (all_more (λ x. x.from < n) es e linked.from from) (all_more (λ x. x.to < n) es e linked.to to) in
    let t : ℕ → ℕ = moved n grid KEPT_GRID time in
    let there : SolvesEdges KEPT_GRID all t =
    edges_solved KEPT_GRID all t (moved_solves n grid KEPT_GRID (map constraint_of all) time some (omega arith) within solves) in
    let last : IsMetBy t e =
    let P : Edge → Type 0 = λ x. IsMetBy t x in
    subst P (get_or-append_seam es e [] e) (there.met (length es) e (omega (arith, length-append es (e ∷ [])))) in
    none t (record { origin = λ p lt. omega (arith, there.origin); met = all_fewer (λ x. IsMetBy t x) es e there.met }) last

pub constraints_are : (es : List Edge) (e : Edge) (cs : List Constraint) (b : Constraint) → cs ≡ map constraint_of es → b ≡ constraint_of e → cs ++ b ∷ [] ≡ map constraint_of (es ++ e ∷ [])
constraints_are es e cs b cs_is b_is =
    ap (λ x. x ++ b ∷ []) cs_is ∙ (ap (λ x. map constraint_of es ++ x ∷ []) b_is ∙ sym (map-append constraint_of es (e ∷ [])))

-- the edges after a call that adds one, or none
abbrev pub after : Bool → List Edge → Edge → List Edge
after added es e = if added then es ++ e ∷ [] else es

pub exact_answer : (added : Bool) (limit n : ℕ) (es news : List Edge) (heads : List ℕ) (e : Edge) (cs : List Constraint) (b : Constraint) (times tops : List ℕ) →
    cs ≡ map constraint_of es → b ≡ constraint_of e → news ≡ after added es e → IsKept limit times tops news →
    n ≤ MAX_POINTS → AreLinked n es heads → e.from < n → e.to < n → (added ≡ false → HasNoPotential n es e) →
    IsTrue added ↔ IsSatisfiable (cs ++ b ∷ [])
exact_answer true limit n es news heads e cs b times tops cs_is b_is news_is kept few linked from to none =
    let all : cs ++ b ∷ [] ≡ map constraint_of (es ++ e ∷ []) = constraints_are es e cs b cs_is b_is in (
      λ yes. let P : List Edge → Type 0 = λ x. IsSatisfiable (map constraint_of x) in
          subst IsSatisfiable (sym all) (subst P news_is (kept_satisfiable limit times tops news kept)),
      λ satisfiable. refl,
    )
exact_answer false limit n es news heads e cs b times tops cs_is b_is news_is kept few linked from to none =
    let all : cs ++ b ∷ [] ≡ map constraint_of (es ++ e ∷ []) = constraints_are es e cs b cs_is b_is in
    (λ yes. absurd (let x : false ≡ true = yes in cc), λ satisfiable. absurd (not_satisfiable n es heads e few linked from to (none refl) (subst IsSatisfiable all satisfiable)))

-- earlier than the kept grid allows no point moves far
pub finer_times : (n : ℕ) (times heads : List ℕ) (es : List Edge) → IsKept LATEST_KEPT times heads es → n ≡ max 1 (length times) → HasTimes (n + 1) es (2 ^ 126)
finer_times n times heads es kept is =
    let has : HasTimes KEPT_GRID es LATEST_KEPT = kept_has_times LATEST_KEPT times heads es kept in
    let t : ℕ → ℕ = moved n KEPT_GRID (n + 1) has.0 in
    let within : All (IsOverPoints n) (map constraint_of es) = kept_within LATEST_KEPT n times heads es (map constraint_of es) kept is refl in
    let few : n ≤ MAX_POINTS = omega (arith, kept.few) in (
      t,
      edges_solved (n + 1) es t (moved_solves n KEPT_GRID (n + 1) (map constraint_of es) has.0 (omega arith) (omega arith) within (solves_of KEPT_GRID es has.0 has.1)),
      λ p. omega (arith, moved_low n KEPT_GRID (n + 1) has.0 p LATEST_KEPT (omega arith) (omega arith) (has.2 p)),
    )

pub earliest_of : (grid points : ℕ) (es : List Edge) (cs : List Constraint) (row : List ℕ) → cs ≡ map constraint_of es → length row ≡ points → SolvesEdges grid es (λ p. get_or row p 0) → IsBelowAll grid es row →
    IsEarliest grid points cs row
earliest_of grid points es cs row is counted solves below =
    let P : List Constraint → Type 0 = λ x. IsEarliest grid points x row in
    subst P (sym is) (record {
      count = counted;
      solves = solves_of grid es (λ p. get_or row p 0) solves;
      least = λ time other p. below.least time (edges_solved grid es time other) p;
    })

-- where an edge is added, at most one comes
pub length_after : (added : Bool) (es news : List Edge) (e : Edge) → news ≡ after added es e → length news ≤ length es + 1
length_after true es news e is = omega (arith, ap length is, length-append es (e ∷ []))
length_after false es news e is = omega (arith, ap length is)

-- a network is its four parts
pub same_network : (p p2 : ℕ) (cs cs2 : List Constraint) (sp sp2 se se2 : ℕ) → p ≡ p2 → cs ≡ cs2 → sp ≡ sp2 → se ≡ se2 →
    let one : PlainNetwork = record { points = p; constraints = cs; spare_points = sp; spare_edges = se } in
    let other : PlainNetwork = record { points = p2; constraints = cs2; spare_points = sp2; spare_edges = se2 } in
    one ≡ other
same_network p p2 cs cs2 sp sp2 se se2 a b c d = cc

-- what is spare shows that there is a point
pub has_points : (points most : ℕ) → (points ≡ 0 → most ≡ 0) → 0 < most → 0 < points
has_points zero most rooted some = absurd (omega (arith, rooted refl))
has_points (suc points) most rooted some = omega arith

-- the first constraints are the first edges
pub first_constraints : (n : ℕ) (es firsts : List Edge) (cs : List Constraint) → cs ≡ map constraint_of es → firsts ≡ take n es → take n cs ≡ map constraint_of firsts
first_constraints n es firsts cs is first_is =
    ap (λ xs. take n xs) is ∙ (take-map constraint_of n es ∙ ap (λ xs. map constraint_of xs) (sym first_is))
