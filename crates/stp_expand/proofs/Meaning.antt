-- An expanded condition holds exactly where the condition holds whichever of the opened ends have come.
use Rattle.std.proofs.Common.{◌≡◌, ℕ, ◌↔◌, Bool, true, false, not, ◌&&◌, ◌||◌, cond, List, [], ◌∷◌, ◌++◌, map, filter, All, Contains, inl, inr, refl, ap, ap₂, sym, ◌∙◌, subst, arith, true≢false}
use Rattle.std.specs.List.{list_any, list_all}
use Rattle.std.proofs.lemmas.Bool.{cases_Bool, cases_lt}
use Rattle.std.proofs.lemmas.List.Elements.{All-contains}
use Rattle.std.proofs.lemmas.List.Folds.{list_any-append}
use Rattle.stp_cond.specs.Atoms.{has, have_common}
use Rattle.stp_cond.specs.Formulas.{Formula, Formulas, Always, Never, Atomic, Negation, Conjunction, Disjunction, NoMore, More, formulas_of, holds_in, all_hold, atoms_in}
use Rattle.stp_cond.specs.Substituted.{substituted}
use Rattle.stp_cond.proofs.Holding.{holds_alike}
use Rattle.stp_cond.proofs.Interferes.{common_atom}
use Rattle.stp_cond.proofs.Meaning.{substitution_keeps_truth}
use Rattle.stp_cond.proofs.Viewing.{some_holds_of}
use Rattle.stp_expand.specs.Footprints.{PlainFootprint, writes, is_same, part_of, footprints_on}
use Rattle.stp_expand.specs.Expanded.{picked, is_consistent, used_sets, not_opened, none_opened, shadow_under, set_formula, under_footprints, expanded_whole, expanded, expanded_all}
use Rattle.stp_expand.specs.Laws.{is_opened, AgreeIfOpened, once_come, ExpansionMeansWhicheverCame}
use Rattle.stp_expand.proofs.Members.{not_true, passing_member, any_passes, all_pass, any_filter, passed, and_left, and_right, and_both, or_cases, or_left, or_right}
use Rattle.stp_expand.proofs.Merged.{end_of, footprint_of_end, same_adds, same_dels, same_writes, part_adds, part_dels, part_writes}
use Rattle.stp_expand.proofs.UsedSets.{number_of, picked_number, number_below, picked_none, picked_member, of_used, in_used}

same_tests : (b c : Bool) → (b ≡ true → c ≡ true) → (c ≡ true → b ≡ true) → b ≡ c
same_tests true true f g = refl
same_tests true false f g = sym (f refl)
same_tests false true f g = g refl
same_tests false false f g = refl

-- ---- the formulas that are made

neither : (b c : Bool) → (not b && not c) ≡ not (b || c)
neither true c = refl
neither false c = refl

or_false : (b : Bool) → b ≡ (b || false)
or_false true = refl
or_false false = refl

each_closed : (state : ℕ → Bool) (opened : List ℕ) → all_hold state (formulas_of (map not_opened opened)) ≡ not (list_any state opened)
each_closed state [] = refl
each_closed state (o ∷ os) = ap (λ b. not (state o) && b) (each_closed state os) ∙ neither (state o) (list_any state os)

none_opened_means : (state : ℕ → Bool) (opened : List ℕ) → holds_in state (none_opened opened) ≡ not (list_any state opened)
none_opened_means state [] = refl
none_opened_means state (o ∷ []) = ap not (or_false (state o))
none_opened_means state (o ∷ p ∷ os) = each_closed state (o ∷ p ∷ os)

some_closed : (state : ℕ → Bool) (set : List PlainFootprint) → list_any (holds_in state) (map (λ p. none_opened p.opened) set) ≡ list_any (λ p. not (is_opened state p)) set
some_closed state [] = refl
some_closed state (p ∷ ps) = ap₂ (λ b c. b || c) (none_opened_means state p.opened) (some_closed state ps)

-- the formula of a set: one of its footprints has no opened action, or the formula holds with shadows
abbrev holds_for_set : (ℕ → ℕ) → (ℕ → Bool) → Formula → List PlainFootprint → Bool
holds_for_set shadow state f set = list_any (λ p. not (is_opened state p)) set || holds_in state (substituted (shadow_under shadow set) f)

set_formula_means : (shadow : ℕ → ℕ) (state : ℕ → Bool) (f : Formula) (set : List PlainFootprint) → holds_in state (set_formula shadow f set) ≡ holds_for_set shadow state f set
set_formula_means shadow state f set =
    some_holds_of state (map (λ p. none_opened p.opened) set ++ substituted (shadow_under shadow set) f ∷ [])
    ∙ (list_any-append (holds_in state) (map (λ p. none_opened p.opened) set) (substituted (shadow_under shadow set) f ∷ [])
    ∙ ap₂ (λ b c. b || c) (some_closed state set) (sym (or_false (holds_in state (substituted (shadow_under shadow set) f)))))

sets_mean : (shadow : ℕ → ℕ) (state : ℕ → Bool) (f : Formula) (sets : List (List PlainFootprint)) → all_hold state (formulas_of (map (set_formula shadow f) sets)) ≡ list_all (holds_for_set shadow state f) sets
sets_mean shadow state f [] = refl
sets_mean shadow state f (s ∷ ss) = ap₂ (λ b c. b && c) (set_formula_means shadow state f s) (sets_mean shadow state f ss)

and_true : (b : Bool) → b ≡ (b && true)
and_true true = refl
and_true false = refl

under_means : (shadow : ℕ → ℕ) (state : ℕ → Bool) (f : Formula) (ps : List PlainFootprint) → holds_in state (under_footprints shadow f ps) ≡ (holds_in state f && list_all (holds_for_set shadow state f) (used_sets ps))
under_means shadow state f [] = and_true (holds_in state f)
under_means shadow state f (p ∷ ps) = ap (λ b. holds_in state f && b) (sets_mean shadow state f (used_sets (p ∷ ps)))

-- ---- a set that writes what the chosen ends write

-- whether an end has come: it is opened and among the chosen ones
abbrev has_come : (ℕ → Bool) → (PlainFootprint → Bool) → PlainFootprint → Bool
has_come state chosen p = chosen p && is_opened state p

abbrev Matches : List PlainFootprint → (ℕ → Bool) → (PlainFootprint → Bool) → Formula → List PlainFootprint → Type 0
Matches ends state chosen f set = (a : ℕ) → has (atoms_in f) a ≡ true → list_any (λ p. writes p a) set ≡ list_any (λ p. has_come state chosen p && writes p a) ends

either_value : (state : ℕ → Bool) (x y : ℕ) (b c : Bool) → b ≡ c → state (cond b x y) ≡ cond c (state x) (state y)
either_value state x y true c e = subst (λ d. state x ≡ cond d (state x) (state y)) e refl
either_value state x y false c e = subst (λ d. state y ≡ cond d (state x) (state y)) e refl

with_shadows_means : (shadow : ℕ → ℕ) (ends : List PlainFootprint) (state : ℕ → Bool) (chosen : PlainFootprint → Bool) (f : Formula) (set : List PlainFootprint) → Matches ends state chosen f set →
    holds_in state (substituted (shadow_under shadow set) f) ≡ holds_in (once_come shadow ends state chosen) f
with_shadows_means shadow ends state chosen f set same =
    substitution_keeps_truth (shadow_under shadow set) state f
    ∙ holds_alike (λ a. state (shadow_under shadow set a)) (once_come shadow ends state chosen) f
    (λ a i. either_value state (shadow a) a (list_any (λ p. writes p a) set) (list_any (λ p. has_come state chosen p && writes p a) ends) (same a i))

-- ---- whichever have come, where the expanded formula holds

-- the footprint of an end that has come
abbrev is_taken : Formula → List PlainFootprint → (ℕ → Bool) → (PlainFootprint → Bool) → PlainFootprint → Bool
is_taken f ends state chosen q = is_opened state q && list_any (λ p. has_come state chosen p && is_same (part_of (atoms_in f) p) q) ends

abbrev taken : Formula → List PlainFootprint → (ℕ → Bool) → (PlainFootprint → Bool) → List PlainFootprint
taken f ends state chosen = filter (is_taken f ends state chosen) (footprints_on f ends)

-- of a footprint that is taken, an end that has come
taken_end : (f : Formula) (ends : List PlainFootprint) (state : ℕ → Bool) (chosen : PlainFootprint → Bool) (q : PlainFootprint) → is_taken f ends state chosen q ≡ true →
    (p : PlainFootprint) × Contains ends p × (has_come state chosen p ≡ true) × (is_same (part_of (atoms_in f) p) q ≡ true)
taken_end f ends state chosen q h =
    let m = passing_member (λ p. has_come state chosen p && is_same (part_of (atoms_in f) p) q) ends (and_right (is_opened state q) (list_any (λ p. has_come state chosen p && is_same (part_of (atoms_in f) p) q) ends) h) in
    (m.0, m.1, and_left (has_come state chosen m.0) (is_same (part_of (atoms_in f) m.0) q) m.2, and_right (has_come state chosen m.0) (is_same (part_of (atoms_in f) m.0) q) m.2)

taken_matches : (f : Formula) (ends : List PlainFootprint) (state : ℕ → Bool) (chosen : PlainFootprint → Bool) → Matches ends state chosen f (taken f ends state chosen)
taken_matches f ends state chosen a i = same_tests (list_any (λ q. writes q a) (taken f ends state chosen)) (list_any (λ p. has_come state chosen p && writes p a) ends)
    (λ h. let m = passing_member (λ q. writes q a) (taken f ends state chosen) h in
    let k = passed (is_taken f ends state chosen) (footprints_on f ends) m.0 m.1 in
    let e = taken_end f ends state chosen m.0 k.1 in
    any_passes (λ p. has_come state chosen p && writes p a) ends e.0 e.1
    (and_both (has_come state chosen e.0) (writes e.0 a) e.2 (sym (part_writes (atoms_in f) e.0 a i) ∙ (same_writes (part_of (atoms_in f) e.0) m.0 a e.3 ∙ m.2))))
    (λ h. let m = passing_member (λ p. has_come state chosen p && writes p a) ends h in
    let come = and_left (has_come state chosen m.0) (writes m.0 a) m.2 in
    let w = part_writes (atoms_in f) m.0 a i ∙ and_right (has_come state chosen m.0) (writes m.0 a) m.2 in
    let q = footprint_of_end state f ends m.0 a m.1 w (and_right (chosen m.0) (is_opened state m.0) come) in
    any_filter (is_taken f ends state chosen) (λ q. writes q a) (footprints_on f ends)
    ∙ any_passes (λ q. is_taken f ends state chosen q && writes q a) (footprints_on f ends) q.0 q.1
    (and_both (is_taken f ends state chosen q.0) (writes q.0 a)
    (and_both (is_opened state q.0) (list_any (λ p. has_come state chosen p && is_same (part_of (atoms_in f) p) q.0) ends) q.3
    (any_passes (λ p. has_come state chosen p && is_same (part_of (atoms_in f) p) q.0) ends m.0 m.1 (and_both (has_come state chosen m.0) (is_same (part_of (atoms_in f) m.0) q.0) come q.2)))
    (sym (same_writes (part_of (atoms_in f) m.0) q.0 a q.2) ∙ w)))

-- ends that have come do not write an atom both ways
taken_apart : (f : Formula) (ends : List PlainFootprint) (state : ℕ → Bool) (chosen : PlainFootprint → Bool) → All (λ p. All (AgreeIfOpened state p) ends) ends → (q s : PlainFootprint) → is_taken f ends state chosen q ≡ true → is_taken f ends state chosen s ≡ true → have_common q.adds s.dels ≡ true → ⊥
taken_apart f ends state chosen agree q s h k common =
    let m = common_atom q.adds s.dels common in
    let d = taken_end f ends state chosen q h in
    let e = taken_end f ends state chosen s k in
    let added : has d.0.adds m.0 ≡ true = and_right (has (atoms_in f) m.0) (has d.0.adds m.0) (sym (part_adds (atoms_in f) d.0 m.0) ∙ (ap (λ l. has l m.0) (same_adds (part_of (atoms_in f) d.0) q d.3) ∙ m.1)) in
    let deleted : has e.0.dels m.0 ≡ true = and_right (has (atoms_in f) m.0) (has e.0.dels m.0) (sym (part_dels (atoms_in f) e.0 m.0) ∙ (ap (λ l. has l m.0) (same_dels (part_of (atoms_in f) e.0) s e.3) ∙ m.2)) in
    All-contains (AgreeIfOpened state d.0) ends e.0 (All-contains (λ p. All (AgreeIfOpened state p) ends) ends d.0 agree d.1) e.1
    (and_right (chosen d.0) (is_opened state d.0) d.2) (and_right (chosen e.0) (is_opened state e.0) e.2) m.0 added deleted

taken_consistent : (f : Formula) (ends : List PlainFootprint) (state : ℕ → Bool) (chosen : PlainFootprint → Bool) → All (λ p. All (AgreeIfOpened state p) ends) ends → is_consistent (taken f ends state chosen) ≡ true
taken_consistent f ends state chosen agree =
    let set = taken f ends state chosen in
    all_pass (λ p. list_all (λ q. not (have_common p.adds q.dels)) set) set (λ p i. all_pass (λ q. not (have_common p.adds q.dels)) set (λ q j.
    ap not (not_true (have_common p.adds q.dels) (taken_apart f ends state chosen agree p q (passed (is_taken f ends state chosen) (footprints_on f ends) p i).1 (passed (is_taken f ends state chosen) (footprints_on f ends) q j).1))))

all_taken_opened : (f : Formula) (ends : List PlainFootprint) (state : ℕ → Bool) (chosen : PlainFootprint → Bool) → list_any (λ p. not (is_opened state p)) (taken f ends state chosen) ≡ true → ⊥
all_taken_opened f ends state chosen h =
    let m = passing_member (λ p. not (is_opened state p)) (taken f ends state chosen) h in
    let k = passed (is_taken f ends state chosen) (footprints_on f ends) m.0 m.1 in
    turned (is_opened state m.0) (and_left (is_opened state m.0) (list_any (λ p. has_come state chosen p && is_same (part_of (atoms_in f) p) m.0) ends) k.1) m.2
  where
    turned : (b : Bool) → b ≡ true → not b ≡ true → ⊥
    turned b e g = true≢false (sym g ∙ ap not e)

whichever_came : (shadow : ℕ → ℕ) (ends : List PlainFootprint) (state : ℕ → Bool) (f : Formula) → All (λ p. All (AgreeIfOpened state p) ends) ends →
    holds_in state (expanded_whole shadow ends f) ≡ true → (chosen : PlainFootprint → Bool) → holds_in (once_come shadow ends state chosen) f ≡ true
whichever_came shadow ends state f agree h chosen =
    let ps = footprints_on f ends in
    let set = taken f ends state chosen in
    let n = number_of (is_taken f ends state chosen) ps in
    let is : picked ps n ≡ set = picked_number (is_taken f ends state chosen) ps in
    let both = sym (under_means shadow state f ps) ∙ h in
    let plain = and_left (holds_in state f) (list_all (holds_for_set shadow state f) (used_sets ps)) both in
    let sets = and_right (holds_in state f) (list_all (holds_for_set shadow state f) (used_sets ps)) both in
    let with_shadows : holds_in state (substituted (shadow_under shadow set) f) ≡ true = elim (cases_lt 0 n) [
      | inl l ↦ elim (or_cases (list_any (λ p. not (is_opened state p)) set) (holds_in state (substituted (shadow_under shadow set) f))
          (ap (holds_for_set shadow state f) (sym is) ∙ of_used (holds_for_set shadow state f) ps sets n (omega arith) (number_below (is_taken f ends state chosen) ps) (ap is_consistent is ∙ taken_consistent f ends state chosen agree))) [
            | inl g ↦ absurd (all_taken_opened f ends state chosen g)
            | inr g ↦ g
          ]
      | inr l ↦ let z : n ≡ 0 = omega arith in
          let e : set ≡ [] = sym is ∙ (ap (picked ps) z ∙ picked_none ps) in
          ap (λ s. holds_in state (substituted (shadow_under shadow s) f)) e ∙ (substitution_keeps_truth (shadow_under shadow []) state f ∙ plain)
    ] in
    sym (with_shadows_means shadow ends state chosen f set (taken_matches f ends state chosen)) ∙ with_shadows

-- ---- where it holds whichever have come, the expanded formula holds

none_came : (ends : List PlainFootprint) (state : ℕ → Bool) (f : Formula) → Matches ends state (λ p. false) f []
none_came ends state f a i = nobody ends
  where
    nobody : (ps : List PlainFootprint) → false ≡ list_any (λ p. has_come state (λ q. false) p && writes p a) ps
    nobody [] = refl
    nobody (p ∷ ps) = nobody ps

-- the ends whose footprints are in a set
abbrev is_of : Formula → List PlainFootprint → PlainFootprint → Bool
is_of f set p = list_any (λ q. is_same (part_of (atoms_in f) p) q) set

opened_matches : (f : Formula) (ends : List PlainFootprint) (state : ℕ → Bool) (set : List PlainFootprint) → ((q : PlainFootprint) → Contains set q → Contains (footprints_on f ends) q) → ((q : PlainFootprint) → Contains set q → is_opened state q ≡ true) →
    Matches ends state (is_of f set) f set
opened_matches f ends state set among opened a i = same_tests (list_any (λ q. writes q a) set) (list_any (λ p. has_come state (is_of f set) p && writes p a) ends)
    (λ h. let m = passing_member (λ q. writes q a) set h in
    let e = end_of state f ends m.0 (among m.0 m.1) (opened m.0 m.1) in
    any_passes (λ p. has_come state (is_of f set) p && writes p a) ends e.0 e.1
    (and_both (has_come state (is_of f set) e.0) (writes e.0 a)
    (and_both (is_of f set e.0) (is_opened state e.0) (any_passes (λ q. is_same (part_of (atoms_in f) e.0) q) set m.0 m.1 e.2) e.3)
    (sym (part_writes (atoms_in f) e.0 a i) ∙ (same_writes (part_of (atoms_in f) e.0) m.0 a e.2 ∙ m.2))))
    (λ h. let m = passing_member (λ p. has_come state (is_of f set) p && writes p a) ends h in
    let come = and_left (has_come state (is_of f set) m.0) (writes m.0 a) m.2 in
    let q = passing_member (λ q. is_same (part_of (atoms_in f) m.0) q) set (and_left (is_of f set m.0) (is_opened state m.0) come) in
    any_passes (λ q. writes q a) set q.0 q.1
    (sym (same_writes (part_of (atoms_in f) m.0) q.0 a q.2) ∙ (part_writes (atoms_in f) m.0 a i ∙ and_right (has_come state (is_of f set) m.0) (writes m.0 a) m.2)))

set_holds : (shadow : ℕ → ℕ) (ends : List PlainFootprint) (state : ℕ → Bool) (f : Formula) → ((chosen : PlainFootprint → Bool) → holds_in (once_come shadow ends state chosen) f ≡ true) → (n : ℕ) →
    holds_for_set shadow state f (picked (footprints_on f ends) n) ≡ true
set_holds shadow ends state f h n =
    let set = picked (footprints_on f ends) n in
    elim (cases_Bool (list_any (λ p. not (is_opened state p)) set)) [
      | inl e ↦ or_left (list_any (λ p. not (is_opened state p)) set) (holds_in state (substituted (shadow_under shadow set) f)) e
      | inr e ↦ or_right (list_any (λ p. not (is_opened state p)) set) (holds_in state (substituted (shadow_under shadow set) f))
          (with_shadows_means shadow ends state (is_of f set) f set
          (opened_matches f ends state set (λ q i. picked_member (footprints_on f ends) n q i) (λ q i. all_opened set e q i))
          ∙ h (is_of f set))
    ]
  where
    turned : (b : Bool) → (not b ≡ true → ⊥) → b ≡ true
    turned true g = refl
    turned false g = absurd (g refl)

    all_opened : (set : List PlainFootprint) → list_any (λ p. not (is_opened state p)) set ≡ false → (q : PlainFootprint) → Contains set q → is_opened state q ≡ true
    all_opened set e q i = turned (is_opened state q) (λ g. true≢false (sym (any_passes (λ p. not (is_opened state p)) set q i g) ∙ e))

expanded_holds : (shadow : ℕ → ℕ) (ends : List PlainFootprint) (state : ℕ → Bool) (f : Formula) → ((chosen : PlainFootprint → Bool) → holds_in (once_come shadow ends state chosen) f ≡ true) →
    holds_in state (expanded_whole shadow ends f) ≡ true
expanded_holds shadow ends state f h =
    let ps = footprints_on f ends in
    under_means shadow state f ps
    ∙ and_both (holds_in state f) (list_all (holds_for_set shadow state f) (used_sets ps))
    (sym (substitution_keeps_truth (shadow_under shadow []) state f) ∙ (with_shadows_means shadow ends state (λ p. false) f [] (none_came ends state f) ∙ h (λ p. false)))
    (in_used (holds_for_set shadow state f) ps (set_holds shadow ends state f h))

-- ---- member by member

whole : (shadow : ℕ → ℕ) (ends : List PlainFootprint) (state : ℕ → Bool) (f : Formula) → All (λ p. All (AgreeIfOpened state p) ends) ends →
    holds_in state (expanded_whole shadow ends f) ≡ true ↔ ((chosen : PlainFootprint → Bool) → holds_in (once_come shadow ends state chosen) f ≡ true)
whole shadow ends state f agree = (whichever_came shadow ends state f agree, expanded_holds shadow ends state f)

mutual
  pub expansion_means_whichever_came : ExpansionMeansWhicheverCame
  expansion_means_whichever_came shadow ends state Always agree = whole shadow ends state Always agree
  expansion_means_whichever_came shadow ends state Never agree = whole shadow ends state Never agree
  expansion_means_whichever_came shadow ends state (Atomic atom) agree = whole shadow ends state (Atomic atom) agree
  expansion_means_whichever_came shadow ends state (Negation part) agree = whole shadow ends state (Negation part) agree
  expansion_means_whichever_came shadow ends state (Conjunction parts) agree = each_member shadow ends state parts agree
  expansion_means_whichever_came shadow ends state (Disjunction parts) agree = whole shadow ends state (Disjunction parts) agree

  each_member : (shadow : ℕ → ℕ) (ends : List PlainFootprint) (state : ℕ → Bool) (fs : Formulas) → All (λ p. All (AgreeIfOpened state p) ends) ends →
      all_hold state (expanded_all shadow ends fs) ≡ true ↔ ((chosen : PlainFootprint → Bool) → all_hold (once_come shadow ends state chosen) fs ≡ true)
  each_member shadow ends state NoMore agree = (λ h chosen. refl, λ h. refl)
  each_member shadow ends state (More f fs) agree =
      let one = expansion_means_whichever_came shadow ends state f agree in
      let more = each_member shadow ends state fs agree in (
        λ h chosen. and_both (holds_in (once_come shadow ends state chosen) f) (all_hold (once_come shadow ends state chosen) fs)
            (one.0 (and_left (holds_in state (expanded shadow ends f)) (all_hold state (expanded_all shadow ends fs)) h) chosen)
            (more.0 (and_right (holds_in state (expanded shadow ends f)) (all_hold state (expanded_all shadow ends fs)) h) chosen),
        λ h. and_both (holds_in state (expanded shadow ends f)) (all_hold state (expanded_all shadow ends fs))
            (one.1 (λ chosen. and_left (holds_in (once_come shadow ends state chosen) f) (all_hold (once_come shadow ends state chosen) fs) (h chosen)))
            (more.1 (λ chosen. and_right (holds_in (once_come shadow ends state chosen) f) (all_hold (once_come shadow ends state chosen) fs) (h chosen))),
      )
