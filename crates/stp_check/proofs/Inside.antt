-- What has to hold inside a step, member by member.
use Rattle.std.proofs.Common.{◌≡◌, ℕ, ◌==◌, ◌+◌, ◌<◌, ◌≤◌, Bool, true, false, not, ◌||◌, List, [], ◌∷◌, map, drop, length, filter, get_or, Contains, Option, Some, None, MatchOption, inl, inr, refl, ap, sym, ◌∙◌, subst, arith, true≢false, eq-eqb}
use Rattle.std.specs.List.{list_any}
use Rattle.std.proofs.lemmas.Bool.{cases_Bool}
use Rattle.std.proofs.lemmas.List.{at_drop_more}
use Rattle.stp_base.specs.declared.ids.StepId.{StepId}
use Rattle.stp_cond.specs.declared.cond.Cond.{Cond}
use Rattle.stp_cond.specs.Atoms.{has, interfere}
use Rattle.stp_cond.specs.Truth.{is_below, reads_only, state_of_row}
use Rattle.stp_cond.specs.Truth.{all_of as every_of}
use Rattle.stp_cond.proofs.Shapes.{reads_are_of_shape}
use Rattle.stp_happen.proofs.Members.{all_of, any_passes, any_alike, kept_alike, kept_member, member_map}
use Rattle.stp_window.specs.declared.windows.Window.{Window}
use Rattle.stp_window.specs.Certain.{sets}
use Rattle.stp_window.specs.Views.{point_of, points_of, span_of}
use Rattle.stp_window.specs.Windows.{Point, OpenSpan, WindowBox, is_unsettled}
use Rattle.stp_strength.specs.Facts.{IsKeptAt}
use Rattle.stp_window.specs.Sweep.{NoneMeet, AreMet, HaveMet}
use Rattle.stp_strength.specs.Failures.{all_pairs_pass, stay_calm}
use Rattle.stp_strength.proofs.Gaps.{all_pairs_do, calm_test}
use Rattle.stp_split.specs.Cases.{without_step, atoms_read}
use Rattle.stp_split.specs.Judged.{IsAlways, FailsAt}
use Rattle.stp_split.proofs.Answered.{all_true, all_false}
use Rattle.stp_split.proofs.Loops.{cond_below}
use Rattle.stp_split.proofs.Turned.{none_of}
use Rattle.stp_check.specs.declared.over_all.OverAll.{OverAll}
use Rattle.stp_check.specs.Ends.{touches, beginning, IsPartKept, IsJudged, AreJudged, IsSeenAt, steps_in, IsLateWithout}
use Rattle.stp_check.specs.Late.{numbers_of, IsBroken}
use Rattle.stp_check.proofs.OpenEnds.{other_ends, kept_where_always, broken_where_fails}

-- ---- which formulas an end writes an atom of

pub leaves_is : (cond : Cond) (p : Point) → reads_only (λ a. not (sets p a)) cond ≡ not (touches cond p)
leaves_is cond p = reads_are_of_shape (λ a. not (sets p a)) cond ∙ none_of (sets p) (atoms_read cond)

not_left : (b : Bool) → not b ≡ false → b ≡ true
not_left true h = refl
not_left false h = absurd (true≢false h)

left : (b : Bool) → not b ≡ true → b ≡ false
left true h = absurd (true≢false (sym h))
left false h = refl

pub touching_here : (cond : Cond) (p : Point) → reads_only (λ a. not (sets p a)) cond ≡ false → touches cond p ≡ true
touching_here cond p h = not_left (touches cond p) (sym (leaves_is cond p) ∙ h)

pub not_touching : (cond : Cond) (p : Point) → reads_only (λ a. not (sets p a)) cond ≡ true → touches cond p ≡ false
not_touching cond p h = left (touches cond p) (sym (leaves_is cond p) ∙ h)

-- ---- a member that has not to be judged

or_none : (b c : Bool) → (b || c) ≡ false → (b ≡ false) × (c ≡ false)
or_none false c h = (refl, h)
or_none true c h = absurd (true≢false h)

same_low : (m n : ℕ) → m ≡ n → (m == n) ≡ true
same_low m n e = eq-eqb m n e

or_right : (b c : Bool) → c ≡ true → true ≡ (b || c)
or_right true c h = refl
or_right false c h = sym h

-- a window that touches the formula
pub due_here : (cond : Cond) (begins : List Window) (i : ℕ) (w : Window) (b : Bool) → i < length begins → w ≡ get_or begins i w → reads_only (λ a. not (sets (point_of w) a)) cond ≡ false → true ≡ (b || list_any (λ v. touches cond (point_of v)) begins)
due_here cond begins i w b l is h = or_right b (list_any (λ v. touches cond (point_of v)) begins) (any_passes (λ v. touches cond (point_of v)) begins w (i, l, sym is) (touching_here cond (point_of w) h))

pub not_due_here : (cond : Cond) (begins : List Window) (i : ℕ) (w : Window) → i < length begins → w ≡ get_or begins i w → reads_only (λ a. not (sets (point_of w) a)) cond ≡ true → list_any (λ v. touches cond (point_of v)) (drop i begins) ≡ list_any (λ v. touches cond (point_of v)) begins →
    list_any (λ v. touches cond (point_of v)) (drop (i + 1) begins) ≡ list_any (λ v. touches cond (point_of v)) begins
not_due_here cond begins i w l is h so_far =
    sym (ap (λ b. b || list_any (λ v. touches cond (point_of v)) (drop (i + 1) begins)) (sym (ap (λ v. touches cond (point_of v)) is) ∙ not_touching cond (point_of w) h))
    ∙ (sym (at_drop_more (list_any (λ v. touches cond (point_of v))) begins i w l) ∙ so_far)

pub not_due : (b : WindowBox) (s : OpenSpan) (t : ℕ) (cond : Cond) (begins : List Window) → points_of begins ≡ beginning t b.points → ((s.from == t) || list_any (λ w. touches cond (point_of w)) begins) ≡ false → IsJudged b s t cond
not_due b s t cond begins are h (inl e) = let none = or_none (s.from == t) (list_any (λ w. touches cond (point_of w)) begins) h in absurd (true≢false (sym (eq-eqb s.from t (sym e)) ∙ none.0))
not_due b s t cond begins are h (inr (p, i, touching, low)) =
    let none = or_none (s.from == t) (list_any (λ w. touches cond (point_of w)) begins) h in
    let there : Contains (points_of begins) p = subst (λ ps. Contains ps p) (sym are) (kept_member (λ (q : Point). q.low == t) b.points p i (same_low p.low t low)) in
    absurd (true≢false (sym (any_passes (touches cond) (points_of begins) p there touching) ∙ (any_alike point_of (touches cond) (λ w. touches cond (point_of w)) begins (λ w j. refl) ∙ none.1)))

-- ---- a member that is judged

others_are : (b : WindowBox) (s : OpenSpan) (t : ℕ) (unsettled : List Window) → points_of unsettled ≡ filter (is_unsettled t) b.points → without_step s.end.step (points_of unsettled) ≡ other_ends b s t
others_are b s t unsettled are = ap (without_step s.end.step) are

pub member_answered : (b : WindowBox) (h : OverAll) (t : ℕ) (row : List Bool) (unsettled begins : List Window) → IsSeenAt b t row (points_of unsettled) (points_of begins) → Contains b.spans (span_of h.lasting) → h.lasting.owner.start ≤ t → t < h.lasting.owner.high →
    (c : Cond) → Contains h.members c → (r : Option (List StepId)) →
    MatchOption r (IsAlways c true (without_step h.lasting.owner.number (points_of unsettled)) (state_of_row row)) (λ late. IsLateWithout c h.lasting.owner.number (without_step h.lasting.owner.number (points_of unsettled)) (state_of_row row) (numbers_of late)) →
    MatchOption r (IsJudged b (span_of h.lasting) t c) (λ late. IsBroken b t (numbers_of late))
member_answered b h t row unsettled begins seen there from to c i None always =
    let at_row = seen.view.at_row in
    λ moment. kept_where_always b at_row.proper at_row.calm (span_of h.lasting) there t (state_of_row row) at_row.is_certain c (subst (λ ps. IsAlways c true ps (state_of_row row)) (others_are b (span_of h.lasting) t unsettled seen.view.are_unsettled) always)
member_answered b h t row unsettled begins seen there from to c i (Some late) found =
    let at_row = seen.view.at_row in
    broken_where_fails b at_row.proper at_row.calm (span_of h.lasting) there t from to (state_of_row row) at_row.is_certain c
    (λ any fails. h.are.same any ∙ all_false any h.members c i fails) (numbers_of late)
    (subst (λ ps. IsLateWithout c h.lasting.owner.number ps (state_of_row row) (numbers_of late)) (others_are b (span_of h.lasting) t unsettled seen.view.are_unsettled) found)

pub members_below : (n : ℕ) (h : OverAll) (given : List Cond) (i : ℕ) (c : Cond) → given ≡ h.members → i < length given → c ≡ get_or given i c → is_below n h.lasting.inside.over.now ≡ true → is_below n c ≡ true
members_below n h given i c e l is below = cond_below n given i c l is (subst (λ cs. every_of (map (is_below n) cs) ≡ true) (sym e) (sym (h.are.below n) ∙ below))

-- no member has to hold outside of its step
pub outside_judged : (b : WindowBox) (h : OverAll) (t : ℕ) → (h.lasting.owner.start ≤ t → t < h.lasting.owner.high → ⊥) → AreJudged b t h
outside_judged b h t outside = all_of (IsJudged b (span_of h.lasting) t) h.members (λ c i moment from to. absurd (outside from to))

-- ---- all members at all moments

pub kept_by_members : (b : WindowBox) (h : OverAll) → ((c : Cond) → Contains h.members c → (t : ℕ) → IsPartKept b (span_of h.lasting) c t) → (t : ℕ) → IsKeptAt b (span_of h.lasting) t
kept_by_members b h kept t from to came own = h.are.same _ ∙ all_true _ h.members (λ c i. kept c i t from to came own)

-- ---- late steps in the lists of the code

numbers_of_points : (ws : List Window) → map (λ w. w.step) ws ≡ steps_in (points_of ws)
numbers_of_points [] = refl
numbers_of_points (w ∷ ws) = ap (λ ns. w.step ∷ ns) (numbers_of_points ws)

rest_is : (ends given rest : List Window) (number : ℕ) → given ≡ rest → rest ≡ filter (λ w. not (w.step == number)) ends → points_of given ≡ without_step number (points_of ends)
rest_is ends given rest number f e = ap points_of (f ∙ e) ∙ sym (kept_alike point_of (λ p. not (p.step == number)) (λ w. not (w.step == number)) ends (λ w i. refl))

pub late_from : (cond : Cond) (number : ℕ) (ends given again rest : List Window) (state : ℕ → Bool) (steps read : List ℕ) (late : List StepId) → given ≡ rest → again ≡ rest → rest ≡ filter (λ w. not (w.step == number)) ends → read ≡ steps →
    FailsAt cond true (points_of given) state steps → numbers_of late ≡ number ∷ filter (λ n. not (has read n)) (map (λ w. w.step) again) → IsLateWithout cond number (without_step number (points_of ends)) state (numbers_of late)
late_from cond number ends given again rest state steps read late f g e h found is = (
  steps,
  subst (λ ps. FailsAt cond true ps state steps) (rest_is ends given rest number f e) found,
  is ∙ (ap (λ ns. number ∷ filter (λ n. not (has ns n)) (map (λ w. w.step) again)) h ∙ ap (λ ns. number ∷ filter (λ n. not (has steps n)) ns) (numbers_of_points again ∙ ap steps_in (rest_is ends again rest number g e))),
)

pub always_from : (cond : Cond) (number : ℕ) (ends given rest : List Window) (state : ℕ → Bool) → given ≡ rest → rest ≡ filter (λ w. not (w.step == number)) ends → IsAlways cond true (points_of given) state → IsAlways cond true (without_step number (points_of ends)) state
always_from cond number ends given rest state f e always = subst (λ ps. IsAlways cond true ps state) (rest_is ends given rest number f e) always

-- ---- meetings

pub calm_if_none_meet : (points : List Point) → NoneMeet points → all_pairs_pass stay_calm points ≡ true
calm_if_none_meet points none = all_pairs_do stay_calm points (λ p q i j. calm_test p q (λ below meet. elim (cases_Bool (interfere p.event q.event)) [
  | inl e ↦ absurd (none p q i j (record { other = λ same. (let l : p.step < q.step = below in omega (arith, l, same)); meet = meet; interfere = e }))
  | inr e ↦ e
]))

pub windows_are_met : (windows : List Window) (v w : Window) → HaveMet windows v w → AreMet (points_of windows) (point_of v) (point_of w)
windows_are_met windows v w h = (member_map point_of windows v h.0, member_map point_of windows w h.1, h.2)
