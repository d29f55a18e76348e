-- An expansion looks only at the shadows of atoms that the ends write.
use Rattle.std.proofs.Common.{◌≡◌, ℕ, ◌-◌, ◌^◌, Bool, true, false, cond, List, [], ◌∷◌, ◌++◌, length, map, filter, Contains, inl, inr, refl, sym, ap, ap₂, ◌∙◌, subst}
use Rattle.std.proofs.Math.Path.{fun_ext}
use Rattle.std.specs.List.{fold, list_any, range_with_len}
use Rattle.stp_cond.specs.Atoms.{has}
use Rattle.stp_cond.specs.Formulas.{Formula, Formulas, Always, Never, Atomic, Negation, Conjunction, Disjunction, NoMore, More, atoms_in, formulas_of}
use Rattle.stp_cond.specs.Substituted.{substituted}
use Rattle.stp_cond.proofs.Interferes.{either}
use Rattle.stp_expand.specs.Expanded.{expanded, expanded_all, is_consistent, none_opened, picked, set_formula, shadow_under, under_footprints}
use Rattle.stp_expand.specs.Footprints.{PlainFootprint, footprints_on, is_same, part_of, with_footprint, with_part, writes, writes_nothing}
use Rattle.stp_expand.proofs.Members.{and_right, here, member_cases, member_nil, or_left, or_right, passing_member, there}
use Rattle.stp_expand.proofs.Merged.{part_adds, part_dels}
use Rattle.stp_expand.proofs.UsedSets.{picked_member}

module _ (s t : ℕ → ℕ) where
  abbrev pub Agrees : PlainFootprint → Type 0
  Agrees p = (a : ℕ) → writes p a ≡ true → s a ≡ t a

  abbrev pub AllAgree : List PlainFootprint → Type 0
  AllAgree ps = (p : PlainFootprint) → Contains ps p → Agrees p

  part_agrees : (atoms : List ℕ) (p : PlainFootprint) → Agrees p → Agrees (part_of atoms p)
  part_agrees atoms p h a w = h a (elim (either (has (part_of atoms p).adds a) (has (part_of atoms p).dels a) w) [
    | inl m ↦ or_left (has p.adds a) (has p.dels a) (and_right (has atoms a) (has p.adds a) (sym (part_adds atoms p a) ∙ m))
    | inr m ↦ or_right (has p.adds a) (has p.dels a) (and_right (has atoms a) (has p.dels a) (sym (part_dels atoms p a) ∙ m))
  ])

  put_agrees : (p : PlainFootprint) (qs : List PlainFootprint) → Agrees p → AllAgree qs → AllAgree (with_footprint p qs)
  put_agrees p [] h k = λ q i. elim (member_cases p [] q i) [ inl e ↦ subst Agrees e h | inr m ↦ absurd (member_nil q m) ]
  put_agrees p (g ∷ gs) h k = by_test (is_same p g) (put_agrees p gs h (λ q i. k q (there g gs q i)))
    where
      by_test : (b : Bool) → AllAgree (with_footprint p gs) → AllAgree (cond b (record g { opened = g.opened ++ p.opened } ∷ gs) (g ∷ with_footprint p gs))
      by_test true rest = λ q i. elim (member_cases (record g { opened = g.opened ++ p.opened }) gs q i) [ inl e ↦ subst Agrees e (k g (here g gs)) | inr m ↦ k q (there g gs q m) ]
      by_test false rest = λ q i. elim (member_cases g (with_footprint p gs) q i) [ inl e ↦ subst Agrees e (k g (here g gs)) | inr m ↦ rest q m ]

  with_part_agrees : (p : PlainFootprint) (qs : List PlainFootprint) → Agrees p → AllAgree qs → AllAgree (with_part qs p)
  with_part_agrees p qs h k = by_test (writes_nothing p)
    where
      by_test : (b : Bool) → AllAgree (cond b qs (with_footprint p qs))
      by_test true = k
      by_test false = put_agrees p qs h k

  folded_agree : (atoms : List ℕ) (ends qs : List PlainFootprint) → AllAgree ends → AllAgree qs → AllAgree (fold with_part qs (map (part_of atoms) ends))
  folded_agree atoms [] qs h k = k
  folded_agree atoms (e ∷ es) qs h k = folded_agree atoms es (with_part qs (part_of atoms e)) (λ p i. h p (there e es p i)) (with_part_agrees (part_of atoms e) qs (part_agrees atoms e (h e (here e es))) k)

  same_under : (set : List PlainFootprint) → AllAgree set → shadow_under s set ≡ shadow_under t set
  same_under set h = fun_ext (λ a. by_test a (list_any (λ p. writes p a) set) refl)
    where
      by_test : (a : ℕ) (b : Bool) → list_any (λ p. writes p a) set ≡ b → cond b (s a) a ≡ cond b (t a) a
      by_test a true e = let m = passing_member (λ p. writes p a) set e in h m.0 m.1 a m.2
      by_test a false e = refl

  same_sets : (f : Formula) (ps : List PlainFootprint) (xs : List ℕ) → AllAgree ps → map (set_formula s f) (filter is_consistent (map (picked ps) xs)) ≡ map (set_formula t f) (filter is_consistent (map (picked ps) xs))
  same_sets f ps [] h = refl
  same_sets f ps (x ∷ xs) h = by_test (is_consistent (picked ps x)) (same_sets f ps xs h)
    where
      one : set_formula s f (picked ps x) ≡ set_formula t f (picked ps x)
      one = ap (λ image. Disjunction (formulas_of (map (λ p. none_opened p.opened) (picked ps x) ++ substituted image f ∷ []))) (same_under (picked ps x) (λ p i. h p (picked_member ps x p i)))

      by_test : (b : Bool) → map (set_formula s f) (filter is_consistent (map (picked ps) xs)) ≡ map (set_formula t f) (filter is_consistent (map (picked ps) xs)) →
          map (set_formula s f) (cond b (picked ps x ∷ filter is_consistent (map (picked ps) xs)) (filter is_consistent (map (picked ps) xs))) ≡ map (set_formula t f) (cond b (picked ps x ∷ filter is_consistent (map (picked ps) xs)) (filter is_consistent (map (picked ps) xs)))
      by_test true k = ap₂ (λ g gs. g ∷ gs) one k
      by_test false k = k

  same_whole : (f : Formula) (ps : List PlainFootprint) → AllAgree ps → under_footprints s f ps ≡ under_footprints t f ps
  same_whole f [] h = refl
  same_whole f (p ∷ ps) h = ap (λ fs. Conjunction (formulas_of (f ∷ fs))) (same_sets f (p ∷ ps) (range_with_len 1 (2 ^ length (p ∷ ps) - 1)) h)

  module _ (ends : List PlainFootprint) (agree : AllAgree ends) where
    whole : (f : Formula) → under_footprints s f (footprints_on f ends) ≡ under_footprints t f (footprints_on f ends)
    whole f = same_whole f (footprints_on f ends) (folded_agree (atoms_in f) ends [] agree (λ p i. absurd (member_nil p i)))

    mutual
      pub same_expanded : (f : Formula) → expanded s ends f ≡ expanded t ends f
      same_expanded Always = whole Always
      same_expanded Never = whole Never
      same_expanded (Atomic atom) = whole (Atomic atom)
      same_expanded (Negation part) = whole (Negation part)
      same_expanded (Conjunction parts) = ap Conjunction (same_expanded_all parts)
      same_expanded (Disjunction parts) = whole (Disjunction parts)

      same_expanded_all : (fs : Formulas) → expanded_all s ends fs ≡ expanded_all t ends fs
      same_expanded_all NoMore = refl
      same_expanded_all (More part parts) = ap₂ More (same_expanded part) (same_expanded_all parts)
