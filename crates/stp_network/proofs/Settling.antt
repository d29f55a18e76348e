-- A point whose demands are all met loses its mark, and the times rise no further than the shortfall.
use Rattle.std.proofs.Common.{◌≡◌, ◌≢◌, ℕ, suc, ◌+◌, ◌*◌, ◌<◌, ◌≤◌, Bool, true, false, List, [], ◌∷◌, get_or, set, length, sum, ap, sym, ◌∙◌, inl, inr, arith}
use Rattle.std.proofs.lemmas.Bool.{cases_eq}
use Rattle.std.proofs.lemmas.List.{get_or-set_same, get_or-set_other, length-set}
use Rattle.std.proofs.lemmas.List.Sums.{sum_by-cons}
use Rattle.stp_network.specs.declared.edge.Edge.{Edge}
use Rattle.stp_network.specs.declared.propagation.Propagation.{Propagation}
use Rattle.stp_network.specs.declared.propagation.Step.{Step}
use Rattle.stp_network.specs.declared.propagation.Step.TheVariants.{Cycle, Met}
use Rattle.stp_network.specs.Edges.{IsMetBy}
use Rattle.stp_network.specs.Propagation.{IsUnderway, rise_of}
use Rattle.stp_network.specs.Raising.{AreMetAt, IsFirst, IsRaised, NoneFalls}

-- the edges to a point that stays are still met when others rise
pub still_met_at : (es : List Edge) (point : ℕ) (work after : List ℕ) → AreMetAt es point work → NoneFalls work after → get_or after point 0 ≡ get_or work point 0 → AreMetAt es point after
still_met_at es point work after met up same k d lt here =
    let a : IsMetBy (λ q. get_or work q 0) (get_or es k d) = met k d lt here in
    let e : get_or after (get_or es k d).to 0 ≡ get_or after point 0 = ap (λ i. get_or after i 0) here in
    let f : get_or work (get_or es k d).to 0 ≡ get_or work point 0 = ap (λ i. get_or work i 0) here in
    omega (arith, up (get_or es k d).from)

pub unmarked : (es : List Edge) (xs : List ℕ) (fresh : Edge) (ys : List ℕ) (marks : List Bool) (p : ℕ) →
    IsRaised es xs fresh ys marks → p < length xs → AreMetAt es p ys → (p ≡ 0 → IsFirst (length xs) ys) → IsRaised es xs fresh ys (set marks p false)
unmarked es xs fresh ys marks p way lt here first =
    let inside : p < length marks = omega (arith, way.flags) in
    record {
      count = way.count;
      flags = length-set marks p false ∙ way.flags;
      still = way.still;
      capped = way.capped;
      forced = λ r marked. elim (cases_eq r p) [
        | inl same ↦ absurd (
            let e : false ≡ true = sym (get_or-set_same marks p false false inside) ∙ (ap (λ i. get_or (set marks p false) i false) (sym same) ∙ marked) in cc)
        | inr other ↦ way.forced r (sym (get_or-set_other marks p r false false other) ∙ marked)
      ];
      met = λ k d below clean. elim (cases_eq (get_or es k d).to p) [
        | inl same ↦ here k d below same
        | inr other ↦ way.met k d below (sym (get_or-set_other marks p (get_or es k d).to false false other) ∙ clean)
      ];
      origin = λ clean. elim (cases_eq 0 p) [
        | inl same ↦ first (sym same)
        | inr other ↦ way.origin (sym (get_or-set_other marks p 0 false false other) ∙ clean)
      ];
    }

-- what a round keeps: where nothing moved so far, no point that was looked at is marked
pub record IsRound (p : Propagation) (work0 work : List ℕ) (marks : List Bool) (step : Step) (point : ℕ) : Type 0 where
  pub way : IsUnderway p work marks
  pub up : NoneFalls work0 work
  pub clean : step ≡ Met → (q : ℕ) → q < point → get_or marks q false ≡ false
  pub grown : sum work0 + rise_of step ≤ sum work
  pub goes : step ≢ Cycle

-- what a run keeps: the new constraint is met
pub record IsRun (p : Propagation) (work : List ℕ) (marks : List Bool) : Type 0 where
  pub way : IsUnderway p work marks
  pub met : IsMetBy (λ q. get_or work q 0) p.fresh.now

pub sum_capped : (ys xs : List ℕ) (s : ℕ) → length ys ≡ length xs → ((p : ℕ) → get_or ys p 0 ≤ get_or xs p 0 + s) → sum ys ≤ sum xs + length xs * s
sum_capped [] xs s same capped = omega arith
sum_capped (y ∷ ys) [] s same capped = absurd (omega arith)
sum_capped (y ∷ ys) (x ∷ xs) s same capped =
    let counted : length ys ≡ length xs = omega arith in
    let rest : sum ys ≤ sum xs + length xs * s = sum_capped ys xs s counted (λ p. capped (suc p)) in
    let here : y ≤ x + s = capped 0 in
    let e : sum (y ∷ ys) ≡ y + sum ys = sum_by-cons (λ n. n) y ys in
    let f : sum (x ∷ xs) ≡ x + sum xs = sum_by-cons (λ n. n) x xs in
    let one_more : length (x ∷ xs) ≡ 1 + length xs = omega arith in
    let g : length (x ∷ xs) * s ≡ (1 + length xs) * s = ap (λ n. n * s) one_more in
    omega arith
