-- Splitting judges as the plain test does.
use Rattle.std.proofs.Common.{◌≡◌, ℕ, ◌==◌, nat_lt, nat_le, Bool, true, false, not, ◌&&◌, ◌||◌, cond, List, [], ◌∷◌, ◌++◌, map, Contains, ◌⊎◌, inl, inr, refl, ap, ap₂, sym, ◌∙◌, subst, true≢false}
use mathlib.Core.Path.{fun_ext}
use Rattle.std.specs.List.{list_any, list_all}
use Rattle.std.proofs.lemmas.Bool.{cases_Bool}
use Rattle.std.proofs.lemmas.List.{map-append}
use Rattle.std.proofs.lemmas.List.Folds.{list_all-append}
use Rattle.stp_cond.specs.Atoms.{changed_by, has}
use Rattle.stp_happen.proofs.Members.{here, there, member_cases, member_nil, member_map, mapped_member, each_pair, same_tests, and_left, and_right, and_both, passing_member, any_passes, each_passes, all_pass, member_of_kept}
use Rattle.stp_window.specs.Windows.{Point, OpenSpan, WindowBox, IsProper, ArePartedIfOne, is_unsettled}
use Rattle.stp_window.specs.States.{certain, state_at}
use Rattle.stp_strength.specs.Failures.{sublists, others, of_steps, all_calm}
use Rattle.stp_window.specs.Certain.{sets, NoneClash}
use Rattle.stp_strength.specs.Parts.{by_parts}
use Rattle.stp_strength.specs.Splitting.{applied, passes_all, other_points, SplittingAgrees}
use Rattle.stp_strength.proofs.Sublists.{member_had, has_member, choice_within}
use Rattle.stp_strength.proofs.Gaps.{meet_at, unsettled_told}
use Rattle.stp_strength.proofs.Parts.{calm_boxes_do_not_clash, unsettled_agree, is_chosen_writer, is_chosen_adder, adder_of_writer, states_go_by_parts}

-- ---- events one after another

passes_told : (over : (ℕ → Bool) → Bool) (ps : List Point) (state : ℕ → Bool) → passes_all over ps state ≡ list_all (λ qs. over (applied qs state)) (sublists ps)
passes_told over [] state = sym (and_true (over state))
  where
    and_true : (b : Bool) → (b && true) ≡ b
    and_true true = refl
    and_true false = refl
passes_told over (p ∷ ps) state =
    ap₂ (λ b c. b && c) (passes_told over ps state) (passes_told over ps (changed_by p.event state) ∙ sym (all_mapped_pass (λ qs. over (applied qs state)) p (sublists ps)))
    ∙ sym (list_all-append (λ qs. over (applied qs state)) (sublists ps) (map (λ l. p ∷ l) (sublists ps)))
  where
    all_mapped_pass : (test : List Point → Bool) (p : Point) (ls : List (List Point)) → list_all test (map (λ l. p ∷ l) ls) ≡ list_all (λ l. test (p ∷ l)) ls
    all_mapped_pass test p [] = refl
    all_mapped_pass test p (l ∷ ls) = ap (λ b. test (p ∷ l) && b) (all_mapped_pass test p ls)

pub unwritten : (p : Point) (state : ℕ → Bool) (a : ℕ) → sets p a ≡ false → changed_by p.event state a ≡ state a
unwritten p state a h = by (has p.event.adds a) (has p.event.dels a) (state a) h
  where
    by : (b c d : Bool) → (b || c) ≡ false → (b || (not c && d)) ≡ d
    by true c d h = absurd (true≢false h)
    by false true d h = absurd (true≢false h)
    by false false d h = refl

pub written : (p : Point) (state : ℕ → Bool) (a : ℕ) → sets p a ≡ true → changed_by p.event state a ≡ has p.event.adds a
written p state a h = by (has p.event.adds a) (has p.event.dels a) (state a) h
  where
    by : (b c d : Bool) → (b || c) ≡ true → (b || (not c && d)) ≡ b
    by true c d h = refl
    by false true d h = refl
    by false false d h = absurd (true≢false (sym h))

none_applied : (ps : List Point) (state : ℕ → Bool) (a : ℕ) → ((p : Point) → Contains ps p → sets p a ≡ false) → applied ps state a ≡ state a
none_applied [] state a h = refl
none_applied (p ∷ ps) state a h = none_applied ps (changed_by p.event state) a (λ q i. h q (there p ps q i)) ∙ unwritten p state a (h p (here p ps))

-- where all writers of an atom write it one way, and it has it already
stays : (ps : List Point) (state : ℕ → Bool) (a : ℕ) (way : Bool) → state a ≡ way → ((p : Point) → Contains ps p → sets p a ≡ true → has p.event.adds a ≡ way) → applied ps state a ≡ way
stays [] state a way e h = e
stays (p ∷ ps) state a way e h = stays ps (changed_by p.event state) a way (by_first p state a way e (h p (here p ps)) (cases_Bool (sets p a))) (λ q i. h q (there p ps q i))
  where
    by_first : (p : Point) (state : ℕ → Bool) (a : ℕ) (way : Bool) → state a ≡ way → (sets p a ≡ true → has p.event.adds a ≡ way) → (sets p a ≡ true) ⊎ (sets p a ≡ false) → changed_by p.event state a ≡ way
    by_first p state a way e h (inl s) = written p state a s ∙ h s
    by_first p state a way e h (inr s) = unwritten p state a s ∙ e

one_applied : (ps : List Point) (state : ℕ → Bool) (a : ℕ) (way : Bool) (m : Point) → Contains ps m → sets m a ≡ true → ((p : Point) → Contains ps p → sets p a ≡ true → has p.event.adds a ≡ way) → applied ps state a ≡ way
one_applied [] state a way m i s h = absurd (member_nil m i)
one_applied (p ∷ ps) state a way m i s h = elim (member_cases p ps m i) [
  | inl e ↦
      let w : sets p a ≡ true = subst (λ (x : Point). sets x a ≡ true) (sym e) s in
      stays ps (changed_by p.event state) a way (written p state a w ∙ h p (here p ps) w) (λ q j. h q (there p ps q j))
  | inr j ↦ one_applied ps (changed_by p.event state) a way m j s (λ q k. h q (there p ps q k))
]

-- ---- choices out of the unsettled points

abbrev steps_in : List Point → List ℕ
steps_in ps = map (λ p. p.step) ps

sublists_mapped : (ps : List Point) → sublists (steps_in ps) ≡ map steps_in (sublists ps)
sublists_mapped [] = refl
sublists_mapped (p ∷ ps) =
    ap (λ ls. ls ++ map (λ l. p.step ∷ l) ls) (sublists_mapped ps)
    ∙ (ap (λ ls. map steps_in (sublists ps) ++ ls) (turned p (sublists ps)) ∙ sym (map-append steps_in (sublists ps) (map (λ l. p ∷ l) (sublists ps))))
  where
    turned : (p : Point) (ls : List (List Point)) → map (λ l. p.step ∷ l) (map steps_in ls) ≡ map steps_in (map (λ l. p ∷ l) ls)
    turned p [] = refl
    turned p (l ∷ ls) = ap (λ xs. (p.step ∷ steps_in l) ∷ xs) (turned p ls)

-- an unsettled point of a chosen step is one of the chosen points
chosen_there : (b : WindowBox) → IsProper b → (t : ℕ) (qs : List Point) → ((q : Point) → Contains qs q → Contains b.points q × (is_unsettled t q ≡ true)) →
    (p : Point) → Contains b.points p → is_unsettled t p ≡ true → of_steps (steps_in qs) p ≡ true → Contains qs p
chosen_there b proper t qs within p i begun h =
    let r = mapped_member (λ (q : Point). q.step) qs p.step (member_had (steps_in qs) p.step h) in
    let k = within r.0 r.1 in
    subst (Contains qs) (each_pair ArePartedIfOne b.points b.points proper.parted r.0 p k.0 i r.2 (meet_at t r.0 p (unsettled_told t r.0 k.1) (unsettled_told t p begun))) r.1

applied_by_parts : (b : WindowBox) → IsProper b → (a : ℕ) → NoneClash b a → (t : ℕ) (qs : List Point) → ((q : Point) → Contains qs q → Contains b.points q × (is_unsettled t q ≡ true)) →
    applied qs (certain b t) a ≡ by_parts b t (of_steps (steps_in qs)) a
applied_by_parts b proper a none t qs within = by_writer b proper a none t qs within (list_any (is_chosen_writer t (of_steps (steps_in qs)) a) b.points) refl
  where
    in_choice : (qs : List Point) (q : Point) → Contains qs q → of_steps (steps_in qs) q ≡ true
    in_choice qs q i = has_member (steps_in qs) q.step (member_map (λ (p : Point). p.step) qs q i)

    by_writer : (b : WindowBox) → IsProper b → (a : ℕ) → NoneClash b a → (t : ℕ) (qs : List Point) → ((q : Point) → Contains qs q → Contains b.points q × (is_unsettled t q ≡ true)) →
        (x : Bool) → list_any (is_chosen_writer t (of_steps (steps_in qs)) a) b.points ≡ x →
        applied qs (certain b t) a ≡ cond (list_any (is_chosen_writer t (of_steps (steps_in qs)) a) b.points) (list_any (is_chosen_adder t (of_steps (steps_in qs)) a) b.points) (certain b t a)
    by_writer b proper a none t qs within false e = rw e (none_applied qs (certain b t) a (λ q i. elim (cases_Bool (sets q a)) [
      | inl s ↦
          let k = within q i in
          let picked = and_both (of_steps (steps_in qs) q && is_unsettled t q) (sets q a) (and_both (of_steps (steps_in qs) q) (is_unsettled t q) (in_choice qs q i) k.1) s in
          absurd (true≢false (sym (any_passes (is_chosen_writer t (of_steps (steps_in qs)) a) b.points q k.0 picked) ∙ e))
      | inr s ↦ s
    ]))
    by_writer b proper a none t qs within true e =
        let r = passing_member (is_chosen_writer t (of_steps (steps_in qs)) a) b.points e in
        let both = and_left (of_steps (steps_in qs) r.0 && is_unsettled t r.0) (sets r.0 a) r.2 in
        let writes = and_right (of_steps (steps_in qs) r.0 && is_unsettled t r.0) (sets r.0 a) r.2 in
        let begun = and_right (of_steps (steps_in qs) r.0) (is_unsettled t r.0) both in
        let inside = chosen_there b proper t qs within r.0 r.1 begun (and_left (of_steps (steps_in qs) r.0) (is_unsettled t r.0) both) in
        rw e (one_applied qs (certain b t) a (has r.0.event.adds a) r.0 inside writes (λ q i s. let k = within q i in unsettled_agree b a none t q r.0 k.0 r.1 k.1 begun s writes)
        ∙ sym (adder_of_writer b a none t (of_steps (steps_in qs)) r.0 r.1 r.2))

applied_is_state : (b : WindowBox) → IsProper b → all_calm b ≡ true → (s : OpenSpan) (t : ℕ) (qs : List Point) → Contains (sublists (other_points b s t)) qs → applied qs (certain b t) ≡ state_at b t (of_steps (steps_in qs))
applied_is_state b proper calm s t qs i = fun_ext (λ a.
    let none = calm_boxes_do_not_clash b proper calm a in
    applied_by_parts b proper a none t qs (λ q j.
    let k = member_of_kept (λ p. is_unsettled t p && not (p.step == s.end.step)) b.points q (choice_within (other_points b s t) qs i q j) in
    (k.0, and_left (is_unsettled t q) (not (q.step == s.end.step)) k.1))
    ∙ sym (states_go_by_parts b proper a none t (of_steps (steps_in qs))))

-- ---- the test

tests_alike : {X : Type 0} (p q : X → Bool) (xs : List X) → ((x : X) → Contains xs x → p x ≡ q x) → list_all p xs ≡ list_all q xs
tests_alike p q xs h = same_tests (list_all p xs) (list_all q xs) (λ e. all_pass q xs (λ x i. sym (h x i) ∙ each_passes p xs e x i)) (λ e. all_pass p xs (λ x i. h x i ∙ each_passes q xs e x i))

all_of_mapped : (test : List ℕ → Bool) (ls : List (List Point)) → list_all test (map steps_in ls) ≡ list_all (λ l. test (steps_in l)) ls
all_of_mapped test [] = refl
all_of_mapped test (l ∷ ls) = ap (λ b. test (steps_in l) && b) (all_of_mapped test ls)

pub splitting_agrees : SplittingAgrees
splitting_agrees b proper calm s t =
    let test : List ℕ → Bool = λ steps. s.over (state_at b t (of_steps steps)) in
    let same : passes_all s.over (other_points b s t) (certain b t) ≡ list_all test (sublists (others b s t)) =
    passes_told s.over (other_points b s t) (certain b t)
    ∙ (tests_alike (λ qs. s.over (applied qs (certain b t))) (λ qs. test (steps_in qs)) (sublists (other_points b s t)) (λ qs i. ap s.over (applied_is_state b proper calm s t qs i))
    ∙ (sym (all_of_mapped test (sublists (other_points b s t))) ∙ ap (list_all test) (sym (sublists_mapped (other_points b s t))))) in
    ap (λ x. not (nat_le s.from t && nat_lt t s.end.high) || x) same
