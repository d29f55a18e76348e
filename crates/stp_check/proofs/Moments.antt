-- Steps one after another, and moments one after another.
use Rattle.std.proofs.Common.{◌≡◌, ℕ, suc, ◌+◌, ◌<◌, ◌≤◌, nat_lt, ◌==◌, Bool, true, List, [], ◌∷◌, map, take, drop, length, filter, get_or, All, Contains, IsPermutation, Option, None, Some, MatchOption, inl, inr, refl, ap, sym, ◌∙◌, subst, arith, zero, add-one}
use Rattle.std.specs.List.{list_all}
use Rattle.std.specs.List.Sorted.{IsNonDecreasingBy}
use Rattle.std.proofs.lemmas.Bool.{cases_lt, ltb-true, and_parts}
use Rattle.std.proofs.lemmas.List.{take_all}
use Rattle.std.proofs.lemmas.List.Elements.{All-more}
use Rattle.std.proofs.lemmas.List.Sorted.{All-permutation}
use Rattle.stp_strength.specs.Splitting.{applied}
use Rattle.stp_cond.specs.declared.cond.Cond.{Cond}
use Rattle.stp_cond.specs.Atoms.{set_of}
use Rattle.stp_cond.specs.Events.{IsEventInRange}
use Rattle.stp_cond.specs.Truth.{is_below, state_of_row}
use Rattle.stp_cond.proofs.Rising.{rises, set_rises, has_set, has_from_Contains, Contains_from_has}
use Rattle.stp_happen.proofs.Members.{here, member_map, mapped_member, each_of, all_of, all_pairs, each_passes, kept_alike}
use Rattle.stp_window.specs.Views.{point_of, points_of, span_of, spans_of}
use Rattle.stp_window.specs.Windows.{Point, OpenSpan, WindowBox, IsProper, is_unsettled}
use Rattle.stp_window.proofs.LastWay.{started}
use Rattle.stp_strength.specs.Facts.{IsKeptAt, lows}
use Rattle.stp_strength.specs.Failures.{all_calm}
use Rattle.stp_strength.proofs.Checked.{lows_of}
use Rattle.stp_split.specs.Cases.{AreCases}
use Rattle.stp_check.specs.Ends.{beginning, IsMoment, IsJudged, AreJudged, IsSeenAt}
use Rattle.stp_check.specs.Late.{box_inside, IsKept, IsRowAt}
use Rattle.stp_check.proofs.OpenEnds.{few_moments_suffice}
use Rattle.stp_check.proofs.Inside.{kept_by_members}
use Rattle.stp_check.proofs.Carried.{row_is_certain}
use Rattle.stp_window.specs.declared.windows.Window.{Window}
use Rattle.stp_window.specs.declared.windows.Lasting.{Lasting}
use Rattle.stp_check.specs.declared.over_all.OverAll.{OverAll}

-- ---- what an answer says

pub found_some : {X : Type 0} (P : Type 0) (Q : X → Type 0) (o : Option X) (x : X) → o ≡ Some x → MatchOption o P Q → Q x
found_some P Q o x e h = subst (λ r. MatchOption r P Q) e h

pub found_none : {X : Type 0} (P : Type 0) (Q : X → Type 0) (o : Option X) → o ≡ None → MatchOption o P Q → P
found_none P Q o e h = subst (λ r. MatchOption r P Q) e h

-- ---- steps

abbrev pub lasting_in : List OverAll → List Lasting
lasting_in over_alls = map (λ h. h.lasting) over_alls

pub span_there : (over_alls : List OverAll) (i : ℕ) (h : OverAll) → i < length over_alls → h ≡ get_or over_alls i h → Contains (spans_of (lasting_in over_alls)) (span_of h.lasting)
span_there over_alls i h l is = member_map span_of (lasting_in over_alls) h.lasting (member_map (λ (o : OverAll). o.lasting) over_alls h (i, l, sym is))

pub seen_at : (b : WindowBox) (t : ℕ) (row : List Bool) (windows given begun : List Window) → b.points ≡ points_of windows → given ≡ filter (λ w. is_unsettled t (point_of w)) windows → begun ≡ filter (λ w. w.low == t) windows → IsRowAt b t row →
    IsSeenAt b t row (points_of given) (points_of begun)
seen_at b t row windows given begun are e f at_row = record {
  view = record {
    at_row = at_row;
    are_unsettled = ap points_of e ∙ (sym (kept_alike point_of (is_unsettled t) (λ w. is_unsettled t (point_of w)) windows (λ w i. refl)) ∙ ap (filter (is_unsettled t)) (sym are));
  };
  are_beginning = ap points_of f ∙ (sym (kept_alike point_of (λ p. p.low == t) (λ w. w.low == t) windows (λ w i. refl)) ∙ ap (beginning t) (sym are));
}

-- the windows that are unsettled are cases
pub open_cases : (t : ℕ) (windows given : List Window) → given ≡ filter (λ w. is_unsettled t (point_of w)) windows → AreCases (filter (is_unsettled t) (points_of windows)) → AreCases (points_of given)
open_cases t windows given e cases = subst AreCases (kept_alike point_of (is_unsettled t) (λ w. is_unsettled t (point_of w)) windows (λ w i. refl) ∙ ap points_of (sym e)) cases

pub held_below : (n : ℕ) (over_alls : List OverAll) (spans : List Lasting) → lasting_in over_alls ≡ spans → All (λ s. is_below n s.inside.over.now ≡ true) spans → All (λ h. is_below n h.lasting.inside.over.now ≡ true) over_alls
held_below n over_alls spans e all =
    all_of (λ (h : OverAll). is_below n h.lasting.inside.over.now ≡ true) over_alls
    (λ h i. each_of (λ (s : Lasting). is_below n s.inside.over.now ≡ true) (lasting_in over_alls) (subst (All (λ (s : Lasting). is_below n s.inside.over.now ≡ true)) (sym e) all) h.lasting (member_map (λ (o : OverAll). o.lasting) over_alls h i))

pub events_in_order : (m n : ℕ) (windows ordered given : List Window) → IsPermutation windows ordered → given ≡ ordered → m ≡ n → All (λ w. IsEventInRange n w.event) windows → All (λ w. IsEventInRange m w.event) given
events_in_order m n windows ordered given moved e f all =
    subst (λ k. All (λ (w : Window). IsEventInRange k w.event) given) (sym f)
    (subst (All (λ (w : Window). IsEventInRange n w.event)) (sym e) (All-permutation (λ (w : Window). IsEventInRange n w.event) windows ordered moved all))

-- ---- moments

-- a moment of rising ones is no later than one that follows
later_moment : (ts : List ℕ) (i u : ℕ) → rises ts ≡ true → i < length ts → Contains (drop (suc i) ts) u → get_or ts i 0 ≤ u
later_moment [] i u up l j = absurd (omega arith)
later_moment (t ∷ ts) zero u up l j = let h : t < u = ltb-true t u (each_passes (nat_lt t) ts (and_parts (list_all (nat_lt t) ts) (rises ts) up).0 u j) in omega arith
later_moment (t ∷ ts) (suc i) u up l j = later_moment ts i u (and_parts (list_all (nat_lt t) ts) (rises ts) up).1 (omega arith) j

this_moment : (ts : List ℕ) (i : ℕ) → i < length ts → Contains (drop i ts) (get_or ts i 0)
this_moment [] i l = absurd (omega arith)
this_moment (t ∷ ts) zero l = here t ts
this_moment (t ∷ ts) (suc i) l = this_moment ts i (omega arith)

-- the windows before a place have ended by each of these moments
abbrev pub HaveEnded : List Window → ℕ → List ℕ → Type 0
HaveEnded ordered place ts = (k : ℕ) (d : Window) → k < place → (u : ℕ) → Contains ts u → (get_or ordered k d).high ≤ u

pub ended_now : (ordered : List Window) (start place i : ℕ) (ts : List ℕ) → i < length ts → HaveEnded ordered start (drop i ts) → ((k : ℕ) (d : Window) → start ≤ k → k < place → (get_or ordered k d).high ≤ get_or ts i 0) →
    (k : ℕ) (d : Window) → k < place → (get_or ordered k d).high ≤ get_or ts i 0
ended_now ordered start place i ts l before now k d h = elim (cases_lt k start) [ inl m ↦ before k d m (get_or ts i 0) (this_moment ts i l) | inr m ↦ now k d m h ]

pub ended_later : (ordered : List Window) (start place i : ℕ) (ts begins : List ℕ) → ts ≡ set_of begins → i < length ts → HaveEnded ordered start (drop i ts) → ((k : ℕ) (d : Window) → start ≤ k → k < place → (get_or ordered k d).high ≤ get_or ts i 0) →
    HaveEnded ordered place (drop (i + 1) ts)
ended_later ordered start place i ts begins e l before now k d h u j =
    let first : (get_or ordered k d).high ≤ get_or ts i 0 = ended_now ordered start place i ts l before now k d h in
    let second : get_or ts i 0 ≤ u = later_moment ts i u (ap rises e ∙ set_rises begins) l (subst (λ n. Contains (drop n ts) u) (add-one i) j) in
    omega arith

pub row_at : (windows ordered : List Window) (spans : List Lasting) (initial row : List Bool) (place t : ℕ) → IsProper (box_inside windows spans initial) → all_calm (box_inside windows spans initial) ≡ true →
    IsPermutation windows ordered → IsNonDecreasingBy (λ w. w.high) ordered → place ≤ length ordered → ((k : ℕ) (d : Window) → k < place → (get_or ordered k d).high ≤ t) → ((d : Window) → place < length ordered → t < (get_or ordered place d).high) →
    ((a : ℕ) → state_of_row row a ≡ applied (points_of (take place ordered)) (state_of_row initial) a) → IsRowAt (box_inside windows spans initial) t row
row_at windows ordered spans initial row place t proper calm moved up fits ended later is = record {
  proper = proper;
  calm = calm;
  is_certain = λ a. is a ∙ row_is_certain (box_inside windows spans initial) proper calm windows ordered refl moved up place t fits ended later a;
}

-- each moment of a member is one at which a window begins
moment_is_low : (b : WindowBox) → IsProper b → (s : OpenSpan) → Contains b.spans s → (cond : Cond) (u : ℕ) → IsMoment b s cond u → Contains (lows b) u
moment_is_low b proper s there cond u (inl e) =
    let p = (started b proper s there).2 in
    subst (Contains (lows b)) (p.2 ∙ sym e) (member_map (λ (q : Point). q.low) b.points p.0 p.1)
moment_is_low b proper s there cond u (inr (p, i, touching, e)) = subst (Contains (lows b)) e (member_map (λ (q : Point). q.low) b.points p i)

pub all_moments : (windows : List Window) (spans : List Lasting) (over_alls : List OverAll) (initial : List Bool) (i : ℕ) (ts : List ℕ) → IsProper (box_inside windows spans initial) → all_calm (box_inside windows spans initial) ≡ true → lasting_in over_alls ≡ spans →
    ts ≡ set_of (map (λ w. w.low) windows) → length ts ≤ i → All (λ t. All (AreJudged (box_inside windows spans initial) t) over_alls) (take i ts) → IsKept (box_inside windows spans initial)
all_moments windows spans over_alls initial i ts proper calm same e l all =
    let b = box_inside windows spans initial in
    all_pairs (IsKeptAt b) b.spans (lows b) (λ s t j k.
    let n = mapped_member span_of spans s j in
    let h = mapped_member (λ (o : OverAll). o.lasting) over_alls n.0 (subst (λ ns. Contains ns n.0) (sym same) n.1) in
    let is : span_of h.0.lasting ≡ s = ap span_of h.2 ∙ n.2 in
    let there : Contains b.spans (span_of h.0.lasting) = subst (Contains b.spans) (sym is) j in
    subst (λ x. IsKeptAt b x t) is
    (kept_by_members b h.0 (λ c m. few_moments_suffice b proper calm (span_of h.0.lasting) c (λ u moment.
    let low : Contains (map (λ w. w.low) windows) u = subst (λ ns. Contains ns u) (sym (lows_of windows)) (moment_is_low b proper (span_of h.0.lasting) there c u moment) in
    let at : Contains ts u = subst (λ ns. Contains ns u) (sym e) (Contains_from_has (set_of (map (λ w. w.low) windows)) u (has_set (map (λ w. w.low) windows) u ∙ has_from_Contains (map (λ w. w.low) windows) u low)) in
    let judged = each_of (λ v. All (AreJudged b v) over_alls) ts (subst (All (λ v. All (AreJudged b v) over_alls)) (take_all i ts l) all) u at in
    each_of (IsJudged b (span_of h.0.lasting) u) h.0.members (each_of (AreJudged b u) over_alls judged h.0 h.1) c m moment)) t))

-- ---- one more moment, in the lists of the code

-- what carrying a row up to a moment has done, from a place to another
pub record IsCarried (given : List Window) (start place t : ℕ) (initial new : List Bool) : Type 0 where
  pub fits : place ≤ length given
  pub ended : (k : ℕ) (d : Window) → start ≤ k → k < place → (get_or given k d).high ≤ t
  pub later : (d : Window) → place < length given → t < (get_or given place d).high
  pub state : (a : ℕ) → state_of_row new a ≡ applied (points_of (take place given)) (state_of_row initial) a

pub row_now : (windows ordered given : List Window) (spans kept : List Lasting) (initial new : List Bool) (start place i : ℕ) (ts : List ℕ) → IsProper (box_inside windows spans initial) → all_calm (box_inside windows spans initial) ≡ true →
    IsPermutation windows ordered → IsNonDecreasingBy (λ w. w.high) ordered → given ≡ ordered → kept ≡ spans → i < length ts → HaveEnded ordered start (drop i ts) → IsCarried given start place (get_or ts i 0) initial new → IsRowAt (box_inside windows kept initial) (get_or ts i 0) new
row_now windows ordered given spans kept initial new start place i ts proper calm moved up e f l before done =
    let now : IsCarried ordered start place (get_or ts i 0) initial new = subst (λ ws. IsCarried ws start place (get_or ts i 0) initial new) e done in
    subst (λ ss. IsRowAt (box_inside windows ss initial) (get_or ts i 0) new) (sym f)
    (row_at windows ordered spans initial new place (get_or ts i 0) proper calm moved up now.fits (ended_now ordered start place i ts l before now.ended) now.later now.state)

pub next_ended : (ordered given : List Window) (start place i : ℕ) (ts begins : List ℕ) (initial new : List Bool) → given ≡ ordered → ts ≡ set_of begins → i < length ts → HaveEnded ordered start (drop i ts) → IsCarried given start place (get_or ts i 0) initial new →
    HaveEnded ordered place (drop (i + 1) ts)
next_ended ordered given start place i ts begins initial new e f l before done =
    let now : IsCarried ordered start place (get_or ts i 0) initial new = subst (λ ws. IsCarried ws start place (get_or ts i 0) initial new) e done in
    ended_later ordered start place i ts begins f l before now.ended

pub next_judged : (windows : List Window) (spans kept : List Lasting) (over_alls given : List OverAll) (initial : List Bool) (i : ℕ) (ts : List ℕ) → kept ≡ spans → given ≡ over_alls → i < length ts → All (λ t. All (AreJudged (box_inside windows spans initial) t) over_alls) (take i ts) →
    All (AreJudged (box_inside windows kept initial) (get_or ts i 0)) given → All (λ t. All (AreJudged (box_inside windows spans initial) t) over_alls) (take (i + 1) ts)
next_judged windows spans kept over_alls given initial i ts f g l before now =
    All-more (λ t. All (AreJudged (box_inside windows spans initial) t) over_alls) ts i 0 l before
    (subst (λ ss. All (AreJudged (box_inside windows ss initial) (get_or ts i 0)) over_alls) f (subst (All (AreJudged (box_inside windows kept initial) (get_or ts i 0))) g now))
