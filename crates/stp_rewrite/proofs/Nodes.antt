-- The nodes of an expansion are as they are counted without making it.
use Rattle.std.proofs.Common.{◌≡◌, ℕ, suc, ◌+◌, ◌-◌, ◌*◌, ◌^◌, Bool, true, false, cond, List, [], ◌∷◌, ◌++◌, length, map, filter, refl, sym, ap, ap₂, ◌∙◌, arith}
use Rattle.std.specs.List.{sum_by, range_with_len}
use Rattle.std.proofs.lemmas.Bool.Decides.{nat_tests}
use Rattle.std.proofs.lemmas.List.Sums.{sum_by-cons}
use Rattle.stp_cond.specs.Formulas.{Formula, Formulas, Always, Never, Atomic, Negation, Conjunction, Disjunction, NoMore, More, formulas_of}
use Rattle.stp_cond.specs.Substituted.{substituted, substituted_all}
use Rattle.stp_expand.specs.Expanded.{expanded, expanded_all, is_consistent, none_opened, not_opened, picked, set_formula, shadow_under, under_footprints}
use Rattle.stp_expand.specs.Footprints.{PlainFootprint, footprints_on}
use Rattle.stp_rewrite.specs.Counts.{closed_nodes, expanded_nodes, expanded_nodes_all, nodes_at, nodes_in, nodes_in_all, nodes_under, set_nodes}

mutual
  same_nodes : (image : ℕ → ℕ) (f : Formula) → nodes_in (substituted image f) ≡ nodes_in f
  same_nodes image Always = refl
  same_nodes image Never = refl
  same_nodes image (Atomic atom) = refl
  same_nodes image (Negation part) = ap (λ k. 1 + k) (same_nodes image part)
  same_nodes image (Conjunction parts) = ap (λ k. 1 + k) (same_nodes_all image parts)
  same_nodes image (Disjunction parts) = ap (λ k. 1 + k) (same_nodes_all image parts)

  same_nodes_all : (image : ℕ → ℕ) (fs : Formulas) → nodes_in_all (substituted_all image fs) ≡ nodes_in_all fs
  same_nodes_all image NoMore = refl
  same_nodes_all image (More part parts) = ap₂ (λ m k. m + k) (same_nodes image part) (same_nodes_all image parts)

negations : (os : List ℕ) → nodes_in_all (formulas_of (map not_opened os)) ≡ 2 * length os
negations [] = refl
negations (o ∷ os) = let rest = negations os in omega (arith, rest)

several : (n : ℕ) → closed_nodes (suc (suc n)) ≡ 1 + 2 * suc (suc n)
several n = grind (arith, nat_tests)

closed_is : (os : List ℕ) → nodes_in (none_opened os) ≡ closed_nodes (length os)
closed_is [] = refl
closed_is (o ∷ []) = refl
closed_is (o ∷ p ∷ os) = ap (λ k. 1 + k) (negations (o ∷ p ∷ os)) ∙ sym (several (length os))

set_parts : (set : List PlainFootprint) (last : Formula) → nodes_in_all (formulas_of (map (λ p. none_opened p.opened) set ++ last ∷ [])) ≡ sum_by (λ p. closed_nodes (length p.opened)) set + nodes_in last
set_parts [] last = omega arith
set_parts (p ∷ ps) last =
    let rest = set_parts ps last in
    let one = closed_is p.opened in
    let step = sum_by-cons (λ (q : PlainFootprint). closed_nodes (length q.opened)) p ps in
    omega (arith, rest, one, step)

set_is : (shadow : ℕ → ℕ) (f : Formula) (set : List PlainFootprint) → nodes_in (set_formula shadow f set) ≡ set_nodes (nodes_in f) set
set_is shadow f set =
    let parts = set_parts set (substituted (shadow_under shadow set) f) in
    let same = same_nodes (shadow_under shadow set) f in
    omega (arith, parts, same)

sets_are : (shadow : ℕ → ℕ) (f : Formula) (ps : List PlainFootprint) (xs : List ℕ) → nodes_in_all (formulas_of (map (set_formula shadow f) (filter is_consistent (map (picked ps) xs)))) ≡ sum_by (nodes_at (nodes_in f) ps) xs
sets_are shadow f ps [] = refl
sets_are shadow f ps (x ∷ xs) =
    by_test (is_consistent (picked ps x)) (sets_are shadow f ps xs) ∙ sym (sum_by-cons (nodes_at (nodes_in f) ps) x xs)
  where
    by_test : (b : Bool) → nodes_in_all (formulas_of (map (set_formula shadow f) (filter is_consistent (map (picked ps) xs)))) ≡ sum_by (nodes_at (nodes_in f) ps) xs →
        nodes_in_all (formulas_of (map (set_formula shadow f) (cond b (picked ps x ∷ filter is_consistent (map (picked ps) xs)) (filter is_consistent (map (picked ps) xs))))) ≡ cond b (set_nodes (nodes_in f) (picked ps x)) 0 + sum_by (nodes_at (nodes_in f) ps) xs
    by_test true h = ap₂ (λ m k. m + k) (set_is shadow f (picked ps x)) h
    by_test false h = omega (arith, h)

under_is : (shadow : ℕ → ℕ) (f : Formula) (ps : List PlainFootprint) → nodes_in (under_footprints shadow f ps) ≡ nodes_under (nodes_in f) ps
under_is shadow f [] = refl
under_is shadow f (p ∷ ps) =
    let sets = sets_are shadow f (p ∷ ps) (range_with_len 1 (2 ^ length (p ∷ ps) - 1)) in
    omega (arith, sets)

mutual
  pub nodes_of_expanded : (shadow : ℕ → ℕ) (ends : List PlainFootprint) (f : Formula) → nodes_in (expanded shadow ends f) ≡ expanded_nodes ends f
  nodes_of_expanded shadow ends Always = under_is shadow Always (footprints_on Always ends)
  nodes_of_expanded shadow ends Never = under_is shadow Never (footprints_on Never ends)
  nodes_of_expanded shadow ends (Atomic atom) = under_is shadow (Atomic atom) (footprints_on (Atomic atom) ends)
  nodes_of_expanded shadow ends (Negation part) = under_is shadow (Negation part) (footprints_on (Negation part) ends)
  nodes_of_expanded shadow ends (Conjunction parts) = ap (λ k. 1 + k) (nodes_of_all_expanded shadow ends parts)
  nodes_of_expanded shadow ends (Disjunction parts) = under_is shadow (Disjunction parts) (footprints_on (Disjunction parts) ends)

  nodes_of_all_expanded : (shadow : ℕ → ℕ) (ends : List PlainFootprint) (fs : Formulas) → nodes_in_all (expanded_all shadow ends fs) ≡ expanded_nodes_all ends fs
  nodes_of_all_expanded shadow ends NoMore = refl
  nodes_of_all_expanded shadow ends (More part parts) = ap₂ (λ m k. m + k) (nodes_of_expanded shadow ends part) (nodes_of_all_expanded shadow ends parts)
