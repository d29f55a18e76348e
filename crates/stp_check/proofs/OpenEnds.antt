-- The unsettled ends of a box at a moment, of which each may have come or not.
use Rattle.std.proofs.Common.{◌≡◌, ℕ, ◌==◌, ◌<◌, ◌≤◌, nat_le, Bool, true, false, not, ◌&&◌, ◌||◌, cond, List, filter, Contains, ◌⊎◌, inl, inr, refl, ap, sym, ◌∙◌, subst, arith, true≢false, eq-eqb}
use Rattle.std.specs.List.{list_any}
use Rattle.std.proofs.lemmas.Bool.{leb-true, le-leb}
use Rattle.std.proofs.lemmas.Bool.Decides.{nat_tests}
use Rattle.stp_cond.specs.declared.cond.Cond.{Cond}
use Rattle.stp_cond.specs.Atoms.{has}
use Rattle.stp_cond.specs.Truth.{truth}
use Rattle.stp_cond.proofs.Rising.{Contains_from_has}
use Rattle.stp_happen.proofs.Members.{member_cases, member_map, mapped_member, all_of, each_pair, same_tests, and_left, and_right, and_both, passing_member, any_passes, kept_member, member_of_kept}
use Rattle.stp_happen.proofs.Tops.{IsTop, NonePasses, top}
use Rattle.stp_window.specs.Certain.{sets}
use Rattle.stp_window.specs.States.{certain, came_by, state_at}
use Rattle.stp_window.specs.Windows.{Point, OpenSpan, WindowBox, IsProper, IsOwn, ArePartedIfOne, is_unsettled}
use Rattle.stp_window.proofs.LastWay.{ordered, agree_by_clash, in_order}
use Rattle.stp_window.proofs.LatestPoints.{placed_alike}
use Rattle.stp_strength.specs.Failures.{all_calm}
use Rattle.stp_strength.proofs.Gaps.{unsettled_told, meet_at}
use Rattle.stp_strength.proofs.Parts.{calm_boxes_do_not_clash, unsettled_agree, is_chosen_adder, states_go_by_parts}
use Rattle.stp_strength.proofs.Sublists.{has_member, member_had}
use Rattle.stp_split.specs.Cases.{AreCases, written, have_come, without_step, atoms_read}
use Rattle.stp_split.specs.Judged.{IsAlways}
use Rattle.stp_split.proofs.Written.{truth_alike, written_alike, rest_cases, rest_within}
use Rattle.stp_check.specs.Ends.{touches, IsMoment, IsPartKept, steps_in, late_with, IsLateWithout}
use Rattle.stp_check.specs.Late.{is_on_time, IsUnsettledStep, IsBrokenAt, IsBroken}

-- ---- the unsettled ends are cases

pub unsettled_cases : (b : WindowBox) → IsProper b → all_calm b ≡ true → (t : ℕ) → AreCases (filter (is_unsettled t) b.points)
unsettled_cases b proper calm t = record {
  one_each = λ p q i j e.
      let m = member_of_kept (is_unsettled t) b.points p i in
      let n = member_of_kept (is_unsettled t) b.points q j in
      each_pair ArePartedIfOne b.points b.points proper.parted p q m.0 n.0 e (meet_at t p q (unsettled_told t p m.1) (unsettled_told t q n.1));
  alike = λ a p q i j s r.
      let m = member_of_kept (is_unsettled t) b.points p i in
      let n = member_of_kept (is_unsettled t) b.points q j in
      unsettled_agree b a (calm_boxes_do_not_clash b proper calm a) t p q m.0 n.0 m.1 n.1 s r;
}

-- the unsettled ends of other steps
abbrev pub other_ends : WindowBox → OpenSpan → ℕ → List Point
other_ends b s t = without_step s.end.step (filter (is_unsettled t) b.points)

pub other_cases : (b : WindowBox) → IsProper b → all_calm b ≡ true → (s : OpenSpan) (t : ℕ) → AreCases (other_ends b s t)
other_cases b proper calm s t = rest_cases s.end.step (filter (is_unsettled t) b.points) (unsettled_cases b proper calm t)

is_other : (m n : ℕ) → (m ≡ n → ⊥) → not (m == n) ≡ true
is_other m n h = grind (arith, nat_tests)

-- an end is one of them
pub among_others : (b : WindowBox) (s : OpenSpan) (t : ℕ) (p : Point) → Contains b.points p → is_unsettled t p ≡ true → (p.step ≡ s.end.step → ⊥) → Contains (other_ends b s t) p
among_others b s t p i u other = kept_member (λ q. not (q.step == s.end.step)) (filter (is_unsettled t) b.points) p (kept_member (is_unsettled t) b.points p i u) (is_other p.step s.end.step other)

pub others_told : (b : WindowBox) (s : OpenSpan) (t : ℕ) (p : Point) → Contains (other_ends b s t) p → Contains b.points p × (is_unsettled t p ≡ true) × (p.step ≡ s.end.step → ⊥)
others_told b s t p i =
    let r = rest_within s.end.step (filter (is_unsettled t) b.points) p i in
    let k = member_of_kept (is_unsettled t) b.points p r.0 in (k.0, k.1, r.1)

-- an unsettled end that has come where the step's own end has not is of another step
foreign : (b : WindowBox) → IsProper b → (s : OpenSpan) → Contains b.spans s → (t : ℕ) → s.from ≤ t → (came : Point → Bool) → came s.end ≡ false → (p : Point) → Contains b.points p → is_unsettled t p ≡ true → came p ≡ true → p.step ≡ s.end.step → ⊥
foreign b proper s there t from came own p i u h e = not_own s t from came own p (unsettled_told t p u).1 h (each_pair IsOwn b.spans b.points proper.owned s p there i e)
  where
    not_own : (s : OpenSpan) (t : ℕ) → s.from ≤ t → (came : Point → Bool) → came s.end ≡ false → (p : Point) → t < p.high → came p ≡ true → (p ≡ s.end) ⊎ (p.high ≤ s.from) → ⊥
    not_own s t from came own p late h (inl e) = true≢false (sym h ∙ (ap came e ∙ own))
    not_own s t from came own p late h (inr l) = omega arith

-- ---- the state at a moment, by which of them have come

open_any : (b : WindowBox) → IsProper b → (s : OpenSpan) → Contains b.spans s → (t : ℕ) → s.from ≤ t → (came : Point → Bool) → came s.end ≡ false → (test : Point → Bool) →
    list_any (λ p. (came p && is_unsettled t p) && test p) b.points ≡ list_any (λ p. came p && test p) (other_ends b s t)
open_any b proper s there t from came own test =
    same_tests (list_any (λ p. (came p && is_unsettled t p) && test p) b.points) (list_any (λ p. came p && test p) (other_ends b s t))
    (λ e.
    let r = passing_member (λ p. (came p && is_unsettled t p) && test p) b.points e in
    let both = and_left (came r.0 && is_unsettled t r.0) (test r.0) r.2 in
    let h = and_left (came r.0) (is_unsettled t r.0) both in
    let u = and_right (came r.0) (is_unsettled t r.0) both in
    any_passes (λ p. came p && test p) (other_ends b s t) r.0 (among_others b s t r.0 r.1 u (foreign b proper s there t from came own r.0 r.1 u h)) (and_both (came r.0) (test r.0) h (and_right (came r.0 && is_unsettled t r.0) (test r.0) r.2)))
    (λ e.
    let r = passing_member (λ p. came p && test p) (other_ends b s t) e in
    let k = others_told b s t r.0 r.1 in
    any_passes (λ p. (came p && is_unsettled t p) && test p) b.points r.0 k.0 (and_both (came r.0 && is_unsettled t r.0) (test r.0) (and_both (came r.0) (is_unsettled t r.0) (and_left (came r.0) (test r.0) r.2) k.1) (and_right (came r.0) (test r.0) r.2)))

state_is_written : (b : WindowBox) → IsProper b → all_calm b ≡ true → (s : OpenSpan) → Contains b.spans s → (t : ℕ) → s.from ≤ t → (came : Point → Bool) → came s.end ≡ false → (state : ℕ → Bool) → ((a : ℕ) → state a ≡ certain b t a) → (a : ℕ) →
    state_at b t came a ≡ written (other_ends b s t) came state a
state_is_written b proper calm s there t from came own state is a =
    states_go_by_parts b proper a (calm_boxes_do_not_clash b proper calm a) t came
    ∙ (ap (λ x. cond x (list_any (is_chosen_adder t came a) b.points) (certain b t a)) (open_any b proper s there t from came own (λ p. sets p a))
    ∙ (ap (λ x. cond (list_any (λ p. came p && sets p a) (other_ends b s t)) x (certain b t a)) (open_any b proper s there t from came own (λ p. has p.event.adds a))
    ∙ ap (λ x. cond (list_any (λ p. came p && sets p a) (other_ends b s t)) (list_any (λ p. came p && has p.event.adds a) (other_ends b s t)) x) (sym (is a))))

-- ---- where a formula always holds

pub kept_where_always : (b : WindowBox) → IsProper b → all_calm b ≡ true → (s : OpenSpan) → Contains b.spans s → (t : ℕ) (state : ℕ → Bool) → ((a : ℕ) → state a ≡ certain b t a) → (c : Cond) → IsAlways c true (other_ends b s t) state → IsPartKept b s c t
kept_where_always b proper calm s there t state is c always = λ from to came own.
    truth_alike c (state_at b t came) (written (other_ends b s t) came state) (λ a h. state_is_written b proper calm s there t from came own state is a) ∙ always came

-- ---- where it fails

kept_number : (g : ℕ → Bool) (ns : List ℕ) (m : ℕ) → Contains ns m → has (filter g ns) m ≡ g m
kept_number g ns m i = same_tests (has (filter g ns) m) (g m) (λ e. (member_of_kept g ns m (member_had (filter g ns) m e)).1) (λ e. has_member (filter g ns) m (kept_member g ns m i e))

not_twice : (b : Bool) → not (not b) ≡ b
not_twice true = refl
not_twice false = refl

unlike : (m n : ℕ) → (n ≡ m → ⊥) → (m == n) ≡ false
unlike m n h = grind (arith, nat_tests)

-- of those ends these have come whose steps are not late
on_time_is_come : (b : WindowBox) (s : OpenSpan) (t : ℕ) (steps : List ℕ) (p : Point) → Contains (other_ends b s t) p → is_on_time (late_with s.end.step (other_ends b s t) steps) p ≡ have_come steps p
on_time_is_come b s t steps p i =
    ap (λ x. not (x || has (filter (λ n. not (has steps n)) (steps_in (other_ends b s t))) p.step)) (unlike s.end.step p.step (others_told b s t p i).2)
    ∙ (ap not (kept_number (λ n. not (has steps n)) (steps_in (other_ends b s t)) p.step (member_map (λ (q : Point). q.step) (other_ends b s t) p i)) ∙ not_twice (has steps p.step))

few_late : (b : WindowBox) (s : OpenSpan) (t : ℕ) (steps : List ℕ) (m : ℕ) → Contains (late_with s.end.step (other_ends b s t) steps) m → (m ≡ s.end.step) ⊎ IsUnsettledStep b t m
few_late b s t steps m i = elim (member_cases s.end.step (filter (λ n. not (has steps n)) (steps_in (other_ends b s t))) m i) [
  | inl e ↦ inl (sym e)
  | inr j ↦
      let r = mapped_member (λ (p : Point). p.step) (other_ends b s t) m (member_of_kept (λ n. not (has steps n)) (steps_in (other_ends b s t)) m j).0 in
      let k = others_told b s t r.0 r.1 in
      inr (r.0, k.0, k.1, r.2)
]

pub broken_where_fails : (b : WindowBox) → IsProper b → all_calm b ≡ true → (s : OpenSpan) → Contains b.spans s → (t : ℕ) → s.from ≤ t → t < s.end.high → (state : ℕ → Bool) → ((a : ℕ) → state a ≡ certain b t a) →
    (c : Cond) → ((any : ℕ → Bool) → truth any c ≡ false → s.over any ≡ false) → (late : List ℕ) → IsLateWithout c s.end.step (other_ends b s t) state late → IsBroken b t late
broken_where_fails b proper calm s there t from to state is c member late found =
    let ends = other_ends b s t in
    let steps = found.0 in
    let own : is_on_time (late_with s.end.step ends steps) s.end ≡ false = ap (λ x. not (x || has (filter (λ m. not (has steps m)) (steps_in ends)) s.end.step)) (eq-eqb s.end.step s.end.step refl) in
    let cases = other_cases b proper calm s t in
    let broken : IsBrokenAt b (late_with s.end.step ends steps) s t = record {
      there = there;
      from = from;
      to = to;
      own = own;
      fails =
          member (state_at b t (is_on_time (late_with s.end.step ends steps)))
          (truth_alike c (state_at b t (is_on_time (late_with s.end.step ends steps))) (written ends (have_come steps) state) (λ a h.
          state_is_written b proper calm s there t from (is_on_time (late_with s.end.step ends steps)) own state is a
          ∙ written_alike ends cases (is_on_time (late_with s.end.step ends steps)) (have_come steps) state a (on_time_is_come b s t steps))
          ∙ found.1.fails);
      few = all_of (λ m. (m ≡ s.end.step) ⊎ IsUnsettledStep b t m) (late_with s.end.step ends steps) (few_late b s t steps);
    } in
    subst (IsBroken b t) (sym found.2) (s, broken)

-- ---- few moments suffice

-- a later moment by an earlier one, for a point that may be chosen
same_come : (t u l h : ℕ) (x : Bool) → u ≤ t → l ≤ h → (l ≤ t → l ≤ u) → (nat_le h t || (x && nat_le l t)) ≡ (nat_le h u || ((nat_le h t || x) && nat_le l u))
same_come t u l h true a b c = grind (arith, nat_tests)
same_come t u l h false a b c = grind (arith, nat_tests)

-- what has come by a later moment is what has come by an earlier one, with what ends between chosen
abbrev earlier : ℕ → (Point → Bool) → Point → Bool
earlier t came p = nat_le p.high t || came p

-- the states agree on the atoms of a formula none of whose points begins between
states_agree : (b : WindowBox) → IsProper b → all_calm b ≡ true → (c : Cond) (t u : ℕ) → u ≤ t → ((p : Point) → Contains b.points p → touches c p ≡ true → p.low ≤ t → p.low ≤ u) → (came : Point → Bool) → (a : ℕ) → has (atoms_read c) a ≡ true →
    state_at b t came a ≡ state_at b u (earlier t came) a
states_agree b proper calm c t u l none came a h =
    let clash = calm_boxes_do_not_clash b proper calm a in
    placed_alike b.initial b.points (λ p. p.high) (λ p. p.high) (came_by t came) (came_by u (earlier t came)) a
    (λ p i s. same_come t u p.low p.high (came p) l (ordered b proper p i) (none p i (any_passes (sets p) (atoms_read c) a (Contains_from_has (atoms_read c) a h) s)))
    (λ p q i j s r. in_order a p q (ordered b proper p i) (ordered b proper q j) (agree_by_clash b a clash p q i j s r))

-- the latest moment of a formula by a moment
latest_moment : (b : WindowBox) (s : OpenSpan) (c : Cond) (t : ℕ) → s.from ≤ t → (u : ℕ) × IsMoment b s c u × (s.from ≤ u) × (u ≤ t) × ((p : Point) → Contains b.points p → touches c p ≡ true → p.low ≤ t → p.low ≤ u)
latest_moment b s c t from = by_top b s c t from (top (λ p. p.low) (λ p. touches c p && nat_le p.low t) b.points)
  where
    compare : (m n : ℕ) → (m ≤ n) ⊎ (n < m)
    compare m n = grind arith

    by_top : (b : WindowBox) (s : OpenSpan) (c : Cond) (t : ℕ) → s.from ≤ t → NonePasses (λ p. touches c p && nat_le p.low t) b.points ⊎ ((m : Point) × IsTop (λ p. p.low) (λ p. touches c p && nat_le p.low t) b.points m) →
        (u : ℕ) × IsMoment b s c u × (s.from ≤ u) × (u ≤ t) × ((p : Point) → Contains b.points p → touches c p ≡ true → p.low ≤ t → p.low ≤ u)
    by_top b s c t from (inl none) = (s.from, inl refl, omega arith, from, λ p i h l. absurd (none p i (and_both (touches c p) (nat_le p.low t) h (le-leb p.low t l))))
    by_top b s c t from (inr (m, best)) =
        let touching : touches c m ≡ true = and_left (touches c m) (nat_le m.low t) best.passes in
        let begun : m.low ≤ t = leb-true m.low t (and_right (touches c m) (nat_le m.low t) best.passes) in
        let most : (p : Point) → Contains b.points p → touches c p ≡ true → p.low ≤ t → p.low ≤ m.low = λ p i h l. best.most p i (and_both (touches c p) (nat_le p.low t) h (le-leb p.low t l)) in
        elim (compare m.low s.from) [
          | inl l ↦ (s.from, inl refl, omega arith, from, λ p i h k. let n : p.low ≤ m.low = most p i h k in omega (arith, n, l))
          | inr l ↦ (m.low, inr (m, best.there, touching, refl), omega (arith, l), begun, most)
        ]

pub few_moments_suffice : (b : WindowBox) → IsProper b → all_calm b ≡ true → (s : OpenSpan) (c : Cond) → ((u : ℕ) → IsMoment b s c u → IsPartKept b s c u) → (t : ℕ) → IsPartKept b s c t
few_moments_suffice b proper calm s c judged t = λ from to came own.
    let r = latest_moment b s c t from in
    let end : earlier t came s.end ≡ false = not_ended s.end.high t (came s.end) to own in
    let before : r.0 < s.end.high = let l : r.0 ≤ t = r.3 in omega (arith, l, to) in
    truth_alike c (state_at b t came) (state_at b r.0 (earlier t came)) (states_agree b proper calm c t r.0 r.3 r.4 came) ∙ judged r.0 r.1 r.2 before (earlier t came) end
  where
    not_ended : (h t : ℕ) (x : Bool) → t < h → x ≡ false → (nat_le h t || x) ≡ false
    not_ended h t x l e = grind (arith, nat_tests)
