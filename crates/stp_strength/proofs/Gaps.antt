-- The tests of the static facts, and where a box fails that does not pass them.
use Rattle.std.proofs.Common.{◌≡◌, ℕ, ◌<◌, ◌≤◌, ◌==◌, nat_lt, nat_le, Bool, true, false, not, ◌&&◌, ◌||◌, cond, List, [], ◌∷◌, map, filter, Contains, ◌⊎◌, inl, inr, refl, ap, sym, ◌∙◌, subst, arith, true≢false, eqb-true, eq-eqb}
use Rattle.std.specs.List.{list_any, list_all}
use Rattle.std.proofs.lemmas.Bool.{cases_Bool}
use Rattle.std.proofs.lemmas.Bool.Decides.{nat_tests}
use Rattle.stp_cond.specs.Atoms.{has, interfere}
use Rattle.stp_happen.specs.Plain.{state_after}
use Rattle.stp_happen.proofs.Members.{here, there, each_of, all_of, all_pairs, each_pair, member_map, mapped_member, same_tests, and_left, and_right, and_both, passing_member, any_passes, each_passes, all_pass, kept_member, member_of_kept}
use Rattle.stp_window.specs.Windows.{Point, OpenSpan, WindowBox, entry_at, IsProper, ArePartedIfOne, IsOwn, Meet, is_unsettled}
use Rattle.stp_window.specs.States.{left_by, came_by, state_at, at_last}
use Rattle.stp_strength.specs.Facts.{StayApart, StayCalm, IsFedAlways, IsKeptAt, lows, IsSound}
use Rattle.stp_strength.specs.Failures.{all_pairs_pass, stay_apart, stay_calm, all_calm, is_fed, sublists, others, of_steps, is_kept, is_sound, Gap, NotApart, NotCalm, NotFed, NotKept, NotReached}
use Rattle.stp_strength.specs.Checks.{TestsTellFacts, TestsShowGaps}
use Rattle.stp_strength.proofs.Apart.{AreCalm}
use Rattle.stp_strength.proofs.Sublists.{has_member, member_had, kept_is_choice, choice_within}

-- ---- tests of lists

pub failing_member : {X : Type 0} (p : X → Bool) (xs : List X) → list_all p xs ≡ false → (x : X) × Contains xs x × (p x ≡ false)
failing_member p [] h = absurd (true≢false h)
failing_member p (x ∷ xs) h = by_first p x xs (p x) refl h (failing_member p xs)
  where
    by_first : {X : Type 0} (p : X → Bool) (x : X) (xs : List X) (b : Bool) → p x ≡ b → (b && list_all p xs) ≡ false → (list_all p xs ≡ false → (y : X) × Contains xs y × (p y ≡ false)) → (y : X) × Contains (x ∷ xs) y × (p y ≡ false)
    by_first p x xs false e h more = (x, here x xs, e)
    by_first p x xs true e h more = let r = more h in (r.0, there x xs r.0 r.1, r.2)

failing_pair : {X : Type 0} (test : X → X → Bool) (xs : List X) → all_pairs_pass test xs ≡ false → (x : X) × (y : X) × Contains xs x × Contains xs y × (test x y ≡ false)
failing_pair test xs h =
    let r = failing_member (λ x. list_all (test x) xs) xs h in
    let q = failing_member (test r.0) xs r.2 in
    (r.0, q.0, r.1, q.1, q.2)

pub each_pair_passes : {X : Type 0} (test : X → X → Bool) (xs : List X) → all_pairs_pass test xs ≡ true → (x y : X) → Contains xs x → Contains xs y → test x y ≡ true
each_pair_passes test xs h x y i j = each_passes (test x) xs (each_passes (λ z. list_all (test z) xs) xs h x i) y j

pub all_pairs_do : {X : Type 0} (test : X → X → Bool) (xs : List X) → ((x y : X) → Contains xs x → Contains xs y → test x y ≡ true) → all_pairs_pass test xs ≡ true
all_pairs_do test xs h = all_pass (λ z. list_all (test z) xs) xs (λ x i. all_pass (test x) xs (λ y j. h x y i j))

-- ---- tests of pairs

pub apart_test : (s o : OpenSpan) → StayApart s o → stay_apart s o ≡ true
apart_test s o h = by_numbers s.end.step o.end.step s.key o.key s.end.high o.from o.end.high s.from h
  where
    by_numbers : (m n k l a b c d : ℕ) → (m < n → k ≡ l → (a < b) ⊎ (c < d)) → (not (nat_lt m n && k == l) || (nat_lt a b || nat_lt c d)) ≡ true
    by_numbers m n k l a b c d h = grind (arith, nat_tests)

pub apart_told : (s o : OpenSpan) → stay_apart s o ≡ true → StayApart s o
apart_told s o h = by_numbers s.end.step o.end.step s.key o.key s.end.high o.from o.end.high s.from h
  where
    by_numbers : (m n k l a b c d : ℕ) → (not (nat_lt m n && k == l) || (nat_lt a b || nat_lt c d)) ≡ true → m < n → k ≡ l → (a < b) ⊎ (c < d)
    by_numbers m n k l a b c d h below same = grind (arith, nat_tests)

pub calm_test : (p q : Point) → StayCalm p q → stay_calm p q ≡ true
calm_test p q h = by_numbers p.step q.step p.low q.high q.low p.high (interfere p.event q.event) h
  where
    by_numbers : (m n a b c d : ℕ) (x : Bool) → (m < n → (a ≤ b) × (c ≤ d) → x ≡ false) → (not (nat_lt m n && (nat_le a b && nat_le c d)) || not x) ≡ true
    by_numbers m n a b c d true h = grind (arith, nat_tests)
    by_numbers m n a b c d false h = grind (arith, nat_tests)

calm_told : (p q : Point) → stay_calm p q ≡ true → StayCalm p q
calm_told p q h = by_numbers p.step q.step p.low q.high q.low p.high (interfere p.event q.event) h
  where
    by_numbers : (m n a b c d : ℕ) (x : Bool) → (not (nat_lt m n && (nat_le a b && nat_le c d)) || not x) ≡ true → m < n → (a ≤ b) × (c ≤ d) → x ≡ false
    by_numbers m n a b c d true h l meet = grind (arith, nat_tests)
    by_numbers m n a b c d false h l meet = refl

pub calm_facts : (b : WindowBox) → all_calm b ≡ true → AreCalm b
calm_facts b h = all_pairs StayCalm b.points b.points (λ p q i j. calm_told p q (each_pair_passes stay_calm b.points h p q i j))

pub calm_tests : (b : WindowBox) → AreCalm b → all_calm b ≡ true
calm_tests b calm = all_pairs_do stay_calm b.points (λ p q i j. calm_test p q (each_pair StayCalm b.points b.points calm p q i j))

-- ---- the test of a span at a moment

kept_started : (s : OpenSpan) (t : ℕ) (x : Bool) → (not (nat_le s.from t && nat_lt t s.end.high) || x) ≡ false → (s.from ≤ t) × (t < s.end.high) × (x ≡ false)
kept_started s t x h = by_numbers s.from t s.end.high x h
  where
    by_numbers : (a t b : ℕ) (x : Bool) → (not (nat_le a t && nat_lt t b) || x) ≡ false → (a ≤ t) × (t < b) × (x ≡ false)
    by_numbers a t b x h = grind (arith, nat_tests)

kept_inside : (a t b : ℕ) (x : Bool) → (a ≤ t → t < b → x ≡ true) → (not (nat_le a t && nat_lt t b) || x) ≡ true
kept_inside a t b true h = grind (arith, nat_tests)
kept_inside a t b false h = grind (arith, nat_tests)

kept_told : (a t b : ℕ) (x : Bool) → (not (nat_le a t && nat_lt t b) || x) ≡ true → a ≤ t → t < b → x ≡ true
kept_told a t b true h l k = refl
kept_told a t b false h l k = grind (arith, nat_tests)

other_step : (m n : ℕ) → not (m == n) ≡ true → m ≡ n → ⊥
other_step m n h e = grind (arith, nat_tests)

not_other : (m n : ℕ) → (m ≡ n → ⊥) → not (m == n) ≡ true
not_other m n h = grind (arith, nat_tests)

-- a step out of the others is not the span's own
not_own : (b : WindowBox) (s : OpenSpan) (t : ℕ) (l : List ℕ) → Contains (sublists (others b s t)) l → of_steps l s.end ≡ false
not_own b s t l i = elim (cases_Bool (has l s.end.step)) [
  | inl h ↦
      let j = choice_within (others b s t) l i s.end.step (member_had l s.end.step h) in
      let r = mapped_member (λ (p : Point). p.step) (filter (λ p. is_unsettled t p && not (p.step == s.end.step)) b.points) s.end.step j in
      let k = member_of_kept (λ p. is_unsettled t p && not (p.step == s.end.step)) b.points r.0 r.1 in
      absurd (other_step r.0.step s.end.step (and_right (is_unsettled t r.0) (not (r.0.step == s.end.step)) k.1) r.2)
  | inr h ↦ h
]

pub kept_test : (b : WindowBox) (s : OpenSpan) (t : ℕ) → IsKeptAt b s t → is_kept b s t ≡ true
kept_test b s t h =
    kept_inside s.from t s.end.high (list_all (λ steps. s.over (state_at b t (of_steps steps))) (sublists (others b s t)))
    (λ from to. all_pass (λ steps. s.over (state_at b t (of_steps steps))) (sublists (others b s t)) (λ l i. h from to (of_steps l) (not_own b s t l i)))

-- whether a step has an unsettled end among the chosen points
abbrev is_chosen_step : WindowBox → ℕ → (Point → Bool) → ℕ → Bool
is_chosen_step b t chosen n = list_any (λ p. p.step == n && (chosen p && is_unsettled t p)) b.points

abbrev steps_of_choice : WindowBox → OpenSpan → ℕ → (Point → Bool) → List ℕ
steps_of_choice b s t chosen = filter (is_chosen_step b t chosen) (others b s t)

pub unsettled_told : (t : ℕ) (p : Point) → is_unsettled t p ≡ true → (p.low ≤ t) × (t < p.high)
unsettled_told t p h = by_numbers t p.low p.high h
  where
    by_numbers : (t a b : ℕ) → (nat_le a t && nat_lt t b) ≡ true → (a ≤ t) × (t < b)
    by_numbers t a b h = grind (arith, nat_tests)

pub meet_at : (t : ℕ) (p q : Point) → (p.low ≤ t) × (t < p.high) → (q.low ≤ t) × (t < q.high) → Meet p q
meet_at t p q h k = (omega arith, omega arith)

-- of the unsettled points those are of the chosen steps that are chosen
chosen_alike : (b : WindowBox) → IsProper b → (s : OpenSpan) → Contains b.spans s → (t : ℕ) → s.from ≤ t → (chosen : Point → Bool) → chosen s.end ≡ false →
    (p : Point) → Contains b.points p → is_unsettled t p ≡ true → of_steps (steps_of_choice b s t chosen) p ≡ chosen p
chosen_alike b proper s j t from chosen other p i begun = same_tests (has (steps_of_choice b s t chosen) p.step) (chosen p) (was_chosen b proper s t chosen p i begun) (is_among b proper s j t from chosen other p i begun)
  where
    was_chosen : (b : WindowBox) → IsProper b → (s : OpenSpan) (t : ℕ) (chosen : Point → Bool) → (p : Point) → Contains b.points p → is_unsettled t p ≡ true →
        has (steps_of_choice b s t chosen) p.step ≡ true → chosen p ≡ true
    was_chosen b proper s t chosen p i begun h =
        let k = member_of_kept (is_chosen_step b t chosen) (others b s t) p.step (member_had (steps_of_choice b s t chosen) p.step h) in
        let r = passing_member (λ q. q.step == p.step && (chosen q && is_unsettled t q)) b.points k.1 in
        let e : r.0.step ≡ p.step = eqb-true r.0.step p.step (and_left (r.0.step == p.step) (chosen r.0 && is_unsettled t r.0) r.2) in
        let both = and_right (r.0.step == p.step) (chosen r.0 && is_unsettled t r.0) r.2 in
        let same : r.0 ≡ p = each_pair ArePartedIfOne b.points b.points proper.parted r.0 p r.1 i e (meet_at t r.0 p (unsettled_told t r.0 (and_right (chosen r.0) (is_unsettled t r.0) both)) (unsettled_told t p begun)) in
        subst (λ q. chosen q ≡ true) same (and_left (chosen r.0) (is_unsettled t r.0) both)

    not_the_end : (s : OpenSpan) (t : ℕ) (chosen : Point → Bool) (p : Point) → s.from ≤ t → chosen s.end ≡ false → chosen p ≡ true → t < p.high → (p ≡ s.end) ⊎ (p.high ≤ s.from) → ⊥
    not_the_end s t chosen p from other h late (inl e) = true≢false (sym h ∙ (ap chosen e ∙ other))
    not_the_end s t chosen p from other h late (inr l) = omega arith

    is_among : (b : WindowBox) → IsProper b → (s : OpenSpan) → Contains b.spans s → (t : ℕ) → s.from ≤ t → (chosen : Point → Bool) → chosen s.end ≡ false →
        (p : Point) → Contains b.points p → is_unsettled t p ≡ true → chosen p ≡ true → has (steps_of_choice b s t chosen) p.step ≡ true
    is_among b proper s j t from chosen other p i begun h =
        let late : t < p.high = (unsettled_told t p begun).1 in
        let foreign : not (p.step == s.end.step) ≡ true = not_other p.step s.end.step (λ e. not_the_end s t chosen p from other h late (each_pair IsOwn b.spans b.points proper.owned s p j i e)) in
        let there : Contains (others b s t) p.step = member_map (λ (q : Point). q.step) (filter (λ q. is_unsettled t q && not (q.step == s.end.step)) b.points) p
        (kept_member (λ q. is_unsettled t q && not (q.step == s.end.step)) b.points p i (and_both (is_unsettled t p) (not (p.step == s.end.step)) begun foreign)) in
        let picked : is_chosen_step b t chosen p.step ≡ true = any_passes (λ q. q.step == p.step && (chosen q && is_unsettled t q)) b.points p i
        (and_both (p.step == p.step) (chosen p && is_unsettled t p) (eq-eqb p.step p.step refl) (and_both (chosen p) (is_unsettled t p) h begun)) in
        has_member (steps_of_choice b s t chosen) p.step (kept_member (is_chosen_step b t chosen) (others b s t) p.step there picked)

-- what has come depends only on which of the unsettled points are chosen
came_by_alike : (t : ℕ) (one other : Point → Bool) (p : Point) → (is_unsettled t p ≡ true → one p ≡ other p) → came_by t one p ≡ came_by t other p
came_by_alike t one other p h = by_numbers t p.low p.high (one p) (other p) h
  where
    by_numbers : (t a b : ℕ) (x y : Bool) → ((nat_le a t && nat_lt t b) ≡ true → x ≡ y) → (nat_le b t || (x && nat_le a t)) ≡ (nat_le b t || (y && nat_le a t))
    by_numbers t a b true true h = refl
    by_numbers t a b false false h = refl
    by_numbers t a b true false h = grind (arith, nat_tests)
    by_numbers t a b false true h = grind (arith, nat_tests)

filter_alike : {X : Type 0} (p q : X → Bool) (xs : List X) → ((x : X) → Contains xs x → p x ≡ q x) → filter p xs ≡ filter q xs
filter_alike p q [] h = refl
filter_alike p q (x ∷ xs) h = ap (λ b. cond b (x ∷ filter p xs) (filter p xs)) (h x (here x xs)) ∙ ap (λ l. cond (q x) (x ∷ l) l) (filter_alike p q xs (λ y i. h y (there x xs y i)))

pub left_alike : (b : WindowBox) (c d : Point → Bool) → ((p : Point) → Contains b.points p → c p ≡ d p) → left_by b c ≡ left_by b d
left_alike b c d same = ap (λ ps. state_after b.initial (map (entry_at (λ p. p.high)) ps)) (filter_alike c d b.points same)

pub kept_fact : (b : WindowBox) → IsProper b → (s : OpenSpan) → Contains b.spans s → (t : ℕ) → is_kept b s t ≡ true → IsKeptAt b s t
kept_fact b proper s j t h from to chosen other =
    ap s.over (left_alike b (came_by t chosen) (came_by t (of_steps (steps_of_choice b s t chosen)))
    (λ p i. sym (came_by_alike t (of_steps (steps_of_choice b s t chosen)) chosen p (chosen_alike b proper s j t from chosen other p i))))
    ∙ each_passes (λ steps. s.over (state_at b t (of_steps steps))) (sublists (others b s t))
    (kept_told s.from t s.end.high (list_all (λ steps. s.over (state_at b t (of_steps steps))) (sublists (others b s t))) h from to)
    (steps_of_choice b s t chosen) (kept_is_choice (is_chosen_step b t chosen) (others b s t))

-- ---- all tests

pub sound_test : (b : WindowBox) → IsSound b → is_sound b ≡ true
sound_test b sound =
    and_both (all_pairs_pass stay_apart b.spans) (all_calm b && (list_all (is_fed b) b.points && (list_all (λ s. list_all (is_kept b s) (lows b)) b.spans && b.goal (at_last b))))
    (all_pairs_do stay_apart b.spans (λ s o i j. apart_test s o (each_pair StayApart b.spans b.spans sound.apart s o i j)))
    (and_both (all_calm b) (list_all (is_fed b) b.points && (list_all (λ s. list_all (is_kept b s) (lows b)) b.spans && b.goal (at_last b)))
    (calm_tests b sound.calm)
    (and_both (list_all (is_fed b) b.points) (list_all (λ s. list_all (is_kept b s) (lows b)) b.spans && b.goal (at_last b))
    (all_pass (is_fed b) b.points (each_of (IsFedAlways b) b.points sound.fed))
    (and_both (list_all (λ s. list_all (is_kept b s) (lows b)) b.spans) (b.goal (at_last b))
    (all_pass (λ s. list_all (is_kept b s) (lows b)) b.spans (λ s i. all_pass (is_kept b s) (lows b) (λ t j. kept_test b s t (each_pair (IsKeptAt b) b.spans (lows b) sound.kept s t i j))))
    sound.reached)))

-- each test, or a gap
pub shown : (b : WindowBox) → is_sound b ≡ false → Gap b
shown b h = apart_or_gap b (all_pairs_pass stay_apart b.spans) refl h
  where
    goal_or_gap : (b : WindowBox) → all_calm b ≡ true → b.goal (at_last b) ≡ false → Gap b
    goal_or_gap b calm h = NotReached calm h

    kept_gap : (b : WindowBox) → all_calm b ≡ true → (s : OpenSpan) → Contains b.spans s → (t : ℕ) → is_kept b s t ≡ false → Gap b
    kept_gap b calm s i t h =
        let k = kept_started s t (list_all (λ steps. s.over (state_at b t (of_steps steps))) (sublists (others b s t))) h in
        let r = failing_member (λ steps. s.over (state_at b t (of_steps steps))) (sublists (others b s t)) k.2 in
        NotKept s t (of_steps r.0) i calm k.0 k.1 (not_own b s t r.0 r.1) r.2

    kept_or_gap : (b : WindowBox) → all_calm b ≡ true → (x : Bool) → list_all (λ s. list_all (is_kept b s) (lows b)) b.spans ≡ x → (x && b.goal (at_last b)) ≡ false → Gap b
    kept_or_gap b calm true e h = goal_or_gap b calm h
    kept_or_gap b calm false e h =
        let r = failing_member (λ s. list_all (is_kept b s) (lows b)) b.spans e in
        let q = failing_member (is_kept b r.0) (lows b) r.2 in
        kept_gap b calm r.0 r.1 q.0 q.2

    fed_or_gap : (b : WindowBox) → all_calm b ≡ true → (x : Bool) → list_all (is_fed b) b.points ≡ x → (x && (list_all (λ s. list_all (is_kept b s) (lows b)) b.spans && b.goal (at_last b))) ≡ false → Gap b
    fed_or_gap b calm true e h = kept_or_gap b calm (list_all (λ s. list_all (is_kept b s) (lows b)) b.spans) refl h
    fed_or_gap b calm false e h = let r = failing_member (is_fed b) b.points e in NotFed r.0 r.1 calm r.2

    calm_or_gap : (b : WindowBox) → (x : Bool) → all_calm b ≡ x → (x && (list_all (is_fed b) b.points && (list_all (λ s. list_all (is_kept b s) (lows b)) b.spans && b.goal (at_last b)))) ≡ false → Gap b
    calm_or_gap b true e h = fed_or_gap b e (list_all (is_fed b) b.points) refl h
    calm_or_gap b false e h = let r = failing_pair stay_calm b.points e in NotCalm r.0 r.1 r.2 r.3 r.4

    apart_or_gap : (b : WindowBox) → (x : Bool) → all_pairs_pass stay_apart b.spans ≡ x → (x && (all_calm b && (list_all (is_fed b) b.points && (list_all (λ s. list_all (is_kept b s) (lows b)) b.spans && b.goal (at_last b))))) ≡ false → Gap b
    apart_or_gap b true e h = calm_or_gap b (all_calm b) refl h
    apart_or_gap b false e h = let r = failing_pair stay_apart b.spans e in NotApart r.0 r.1 r.2 r.3 r.4

pub sound_facts : (b : WindowBox) → IsProper b → is_sound b ≡ true → IsSound b
sound_facts b proper h =
    let kept_and = list_all (λ s. list_all (is_kept b s) (lows b)) b.spans in
    let first = and_right (all_pairs_pass stay_apart b.spans) (all_calm b && (list_all (is_fed b) b.points && (kept_and && b.goal (at_last b)))) h in
    let second = and_right (all_calm b) (list_all (is_fed b) b.points && (kept_and && b.goal (at_last b))) first in
    let third = and_right (list_all (is_fed b) b.points) (kept_and && b.goal (at_last b)) second in
    record {
      apart = all_pairs StayApart b.spans b.spans (λ s o i j. apart_told s o (each_pair_passes stay_apart b.spans (and_left (all_pairs_pass stay_apart b.spans) (all_calm b && (list_all (is_fed b) b.points && (kept_and && b.goal (at_last b)))) h) s o i j));
      calm = calm_facts b (and_left (all_calm b) (list_all (is_fed b) b.points && (kept_and && b.goal (at_last b))) first);
      fed = all_of (IsFedAlways b) b.points (each_passes (is_fed b) b.points (and_left (list_all (is_fed b) b.points) (kept_and && b.goal (at_last b)) second));
      kept = all_pairs (IsKeptAt b) b.spans (lows b) (λ s t i j. kept_fact b proper s i t (each_passes (is_kept b s) (lows b) (each_passes (λ s. list_all (is_kept b s) (lows b)) b.spans (and_left kept_and (b.goal (at_last b)) third) s i) t j));
      reached = and_right kept_and (b.goal (at_last b)) third;
    }

pub tests_tell_facts : TestsTellFacts
tests_tell_facts b proper = (sound_facts b proper, sound_test b)

pub tests_show_gaps : TestsShowGaps
tests_show_gaps b proper h = shown b h
