-- The formulas of the used sets, number by number.
use Rattle.std.proofs.Common.{◌≡◌, ℕ, zero, suc, ◌+◌, ◌-◌, ◌<◌, ◌≤◌, ◌^◌, length, append_assoc, arith, ◌/◌, ◌%◌, ◌==◌, Bool, true, false, cond, List, [], ◌∷◌, ◌++◌, map, filter, refl, sym, ap, ◌∙◌}
use Rattle.std.specs.List.{flat_map, range_with_len}
use Rattle.std.proofs.lemmas.List.{append-nil}
use Rattle.stp_cond.specs.Formulas.{Formula}
use Rattle.stp_expand.specs.declared.footprint.Footprint.{Footprint}
use Rattle.stp_expand.specs.Footprints.{PlainFootprint}
use Rattle.stp_expand.specs.Expanded.{picked, is_consistent, set_formula, used_sets}
use Rattle.stp_expand.specs.Views.{footprint_of, footprints_of}

-- what is made for a set
abbrev pub made_for : (ℕ → ℕ) → Formula → List PlainFootprint → List Formula
made_for shadow f set = cond (is_consistent set) (set_formula shadow f set ∷ []) []

-- what is made for that many numbers from one on
abbrev pub made_from : (ℕ → ℕ) → Formula → List PlainFootprint → ℕ → ℕ → List Formula
made_from shadow f ps first count = flat_map (λ n. made_for shadow f (picked ps n)) (range_with_len first count)

pub made_is : (shadow : ℕ → ℕ) (f : Formula) (ps : List PlainFootprint) (first count : ℕ) → made_from shadow f ps first count ≡ map (set_formula shadow f) (filter is_consistent (map (picked ps) (range_with_len first count)))
made_is shadow f ps first zero = refl
made_is shadow f ps first (suc count) = ap (λ l. made_for shadow f (picked ps first) ++ l) (made_is shadow f ps (first + 1) count) ∙ by_test (is_consistent (picked ps first)) (filter is_consistent (map (picked ps) (range_with_len (first + 1) count)))
  where
    by_test : (b : Bool) (sets : List (List PlainFootprint)) → cond b (set_formula shadow f (picked ps first) ∷ []) [] ++ map (set_formula shadow f) sets ≡ map (set_formula shadow f) (cond b (picked ps first ∷ sets) sets)
    by_test true sets = refl
    by_test false sets = refl

pub picked_views : (ps : List Footprint) (n : ℕ) → footprints_of (picked ps n) ≡ picked (footprints_of ps) n
picked_views [] n = refl
picked_views (p ∷ ps) n = by_test (n % 2 == 1) (picked ps (n / 2)) ∙ ap (λ l. cond (n % 2 == 1) (footprint_of p ∷ l) l) (picked_views ps (n / 2))
  where
    by_test : (b : Bool) (l : List Footprint) → footprints_of (cond b (p ∷ l) l) ≡ cond b (footprint_of p ∷ footprints_of l) (footprints_of l)
    by_test true l = refl
    by_test false l = refl

-- one number more
pub next_number : (shadow : ℕ → ℕ) (f : Formula) (ps : List PlainFootprint) (old new whole : List Formula) (n end : ℕ) → n < end → new ≡ old ++ made_for shadow f (picked ps n) →
    old ++ made_from shadow f ps n (end - n) ≡ whole → new ++ made_from shadow f ps (n + 1) (end - (n + 1)) ≡ whole
next_number shadow f ps old new whole n end below e h =
    let d : end - n ≡ suc (end - (n + 1)) = omega arith in
    ap (λ l. l ++ made_from shadow f ps (n + 1) (end - (n + 1))) e
    ∙ (append_assoc old (made_for shadow f (picked ps n)) (made_from shadow f ps (n + 1) (end - (n + 1)))
    ∙ (ap (λ k. old ++ made_from shadow f ps n k) (sym d) ∙ h))

length_views : (ps : List Footprint) → length ps ≡ length (footprints_of ps)
length_views [] = refl
length_views (p ∷ ps) = ap suc (length_views ps)

-- all numbers
pub all_numbers : (shadow : ℕ → ℕ) (f : Formula) (ps : List Footprint) (made : List Formula) (n end : ℕ) → end ≤ n →
    made ++ made_from shadow f (footprints_of ps) n (end - n) ≡ f ∷ made_from shadow f (footprints_of ps) 1 (2 ^ length ps - 1) → made ≡ f ∷ map (set_formula shadow f) (used_sets (footprints_of ps))
all_numbers shadow f ps made n end past h =
    let z : end - n ≡ 0 = omega arith in
    sym (append-nil made)
    ∙ (ap (λ k. made ++ made_from shadow f (footprints_of ps) n k) (sym z)
    ∙ (h
    ∙ (ap (λ k. f ∷ made_from shadow f (footprints_of ps) 1 (2 ^ k - 1)) (length_views ps)
    ∙ ap (λ l. f ∷ l) (made_is shadow f (footprints_of ps) 1 (2 ^ length (footprints_of ps) - 1)))))
