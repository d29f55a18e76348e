-- A box is sound exactly where the run of every choice of moments executes.
use Rattle.std.proofs.Common.{◌≡◌, ℕ, ◌<◌, ◌≤◌, nat_le, Bool, true, false, cond, max, All, Contains, ◌⊎◌, inl, inr, ap, sym, ◌∙◌, subst, arith}
use Rattle.std.proofs.lemmas.Bool.{leb-true, le-leb, lt-leb}
use Rattle.std.proofs.lemmas.Bool.Decides.{nat_tests}
use Rattle.stp_cond.specs.Atoms.{interfere}
use Rattle.stp_happen.specs.Plain.{Executes, AreCalm, IsFed, IsKept, AreApart, after}
use Rattle.stp_happen.proofs.Members.{each_of, each_pair, all_of, all_pairs, member_map, all_mapped, of_mapped, all_mapped_pairs, of_mapped_pairs}
use Rattle.stp_window.specs.Windows.{Point, OpenSpan, WindowBox, run_when, entry_at, span_at, IsInWindow, IsChoice, IsProper, IsStarted, Meet}
use Rattle.stp_window.specs.States.{came_by, state_at, at_last}
use Rattle.stp_strength.specs.Facts.{StayApart, StayCalm, IsFedAlways, IsKeptAt, lows, IsSound}
use Rattle.stp_strength.specs.Choices.{latest, corner, nearest}
use Rattle.stp_strength.specs.WindowLaws.{ExecutesAlways, ExecutesAlwaysExactlyWhereSound, KeptAtEveryMoment}
use Rattle.stp_happen.proofs.Tops.{IsTop, NonePasses, top}
use Rattle.stp_happen.proofs.Interfering.{interfere_turned}
use Rattle.stp_window.proofs.LastWay.{ordered, started}
use Rattle.stp_strength.proofs.Apart.{AreCalm as AreCalmPoints, three_ways}
use Rattle.stp_strength.proofs.Certainty.{after_is_state, end_is_last, before_is_certain, came_in_run, came_in_corner}

-- ---- parts of what is known

in_window : (b : WindowBox) (v : Point → ℕ) → IsChoice b v → (p : Point) → Contains b.points p → IsInWindow v p
in_window b v choice p i = each_of (IsInWindow v) b.points choice.0 p i

end_in_window : (b : WindowBox) (v : Point → ℕ) → IsChoice b v → (s : OpenSpan) → Contains b.spans s → IsInWindow v s.end
end_in_window b v choice s i = each_of (λ o. IsInWindow v o.end) b.spans choice.1 s i

-- ---- the facts give that each choice executes

-- an over-all condition of a sound box holds at every moment inside, whichever points have come
pub kept_anywhere : (b : WindowBox) → IsProper b → AreCalmPoints b → All (λ s. All (IsKeptAt b s) (lows b)) b.spans → (v : Point → ℕ) → IsChoice b v →
    (s : OpenSpan) → Contains b.spans s → (u : ℕ) → s.from ≤ u → u < v s.end → s.over (after (run_when b v) u) ≡ true
kept_anywhere b proper calm kept v choice s i u from to =
    by_last b proper calm kept v choice s i u from to (started b proper s i) (top (λ t. t) (λ t. nat_le t u) (lows b))
  where
    by_last : (b : WindowBox) → IsProper b → AreCalmPoints b → All (λ s. All (IsKeptAt b s) (lows b)) b.spans → (v : Point → ℕ) → IsChoice b v →
        (s : OpenSpan) → Contains b.spans s → (u : ℕ) → s.from ≤ u → u < v s.end → IsStarted b.points s →
        NonePasses (λ t. nat_le t u) (lows b) ⊎ ((t : ℕ) × IsTop (λ t. t) (λ t. nat_le t u) (lows b) t) → s.over (after (run_when b v) u) ≡ true
    by_last b proper calm kept v choice s i u from to start (inl none) =
        absurd (none s.from (subst (Contains (lows b)) start.2.2 (member_map (λ p. p.low) b.points start.2.0 start.2.1)) (le-leb s.from u from))
    by_last b proper calm kept v choice s i u from to start (inr (t, m)) =
        let chosen : Point → Bool = λ p. nat_le (v p) u in
        let upto : t ≤ u = leb-true t u m.passes in
        let since : s.from ≤ t = m.most s.from (subst (Contains (lows b)) start.2.2 (member_map (λ p. p.low) b.points start.2.0 start.2.1)) (le-leb s.from u from) in
        let high : v s.end ≤ s.end.high = (end_in_window b v choice s i).1 in
        ap s.over (after_is_state b proper calm v choice u t chosen (λ p j. came_in_run v t u p (in_window b v choice p j) upto (λ l. m.most p.low (member_map (λ q. q.low) b.points p j) (le-leb p.low u l))))
        ∙ each_pair (IsKeptAt b) b.spans (lows b) kept s t i m.there since (omega arith) chosen (lt-leb (v s.end) u to)

apart_in_run : (v : Point → ℕ) (s o : OpenSpan) → IsInWindow v s.end → IsInWindow v o.end → (s.end.high < o.from) ⊎ (o.end.high < s.from) → (v s.end < o.from) ⊎ (v o.end < s.from)
apart_in_run v s o in_s in_o (inl l) = inl (omega arith)
apart_in_run v s o in_s in_o (inr l) = inr (omega arith)

common_moment : (v : Point → ℕ) (p q : Point) → IsInWindow v p → IsInWindow v q → v p ≡ v q → Meet p q
common_moment v p q in_p in_q e = (omega arith, omega arith)

-- points of two different steps are calm, and spans apart, whichever of the two has the lesser number
calm_either : (b : WindowBox) → AreCalmPoints b → (p q : Point) → Contains b.points p → Contains b.points q → (p.step ≡ q.step → ⊥) → Meet p q → interfere p.event q.event ≡ false
calm_either b calm p q i j other meet = elim (three_ways p.step q.step) [
  | inl l ↦ each_pair StayCalm b.points b.points calm p q i j l meet
  | inr r ↦ elim r [ inl l ↦ interfere_turned p.event q.event ∙ each_pair StayCalm b.points b.points calm q p j i l (meet.1, meet.0) | inr e ↦ absurd (other e) ]
]

turned : {X Y : Type 0} → X ⊎ Y → Y ⊎ X
turned (inl x) = inr x
turned (inr y) = inl y

apart_either : (b : WindowBox) → All (λ s. All (StayApart s) b.spans) b.spans → (s o : OpenSpan) → Contains b.spans s → Contains b.spans o → (s.end.step ≡ o.end.step → ⊥) → s.key ≡ o.key → (s.end.high < o.from) ⊎ (o.end.high < s.from)
apart_either b apart s o i j other k = elim (three_ways s.end.step o.end.step) [
  | inl l ↦ each_pair StayApart b.spans b.spans apart s o i j l k
  | inr r ↦ elim r [ inl l ↦ turned (each_pair StayApart b.spans b.spans apart o s j i l (sym k)) | inr e ↦ absurd (other e) ]
]

less_differs : (m n : ℕ) → m < n → m ≡ n → ⊥
less_differs m n l e = omega arith

pub sound_executes : (b : WindowBox) → IsProper b → IsSound b → ExecutesAlways b
sound_executes b proper sound v choice = record {
  calm = all_mapped_pairs (entry_at v) (entry_at v) AreCalm b.points b.points
      (λ p q i j l e. calm_either b sound.calm p q i j l (common_moment v p q (in_window b v choice p i) (in_window b v choice q j) e));
  fed = all_mapped (entry_at v) (IsFed (run_when b v)) b.points
      (λ p i. before_is_certain b proper sound.calm v choice p i ∙ each_of (IsFedAlways b) b.points sound.fed p i);
  kept = all_mapped_pairs (entry_at v) (span_at v) (IsKept (run_when b v)) b.points b.spans
      (λ p s i j from to. kept_anywhere b proper sound.calm sound.kept v choice s j (v p) from to);
  apart = all_mapped_pairs (span_at v) (span_at v) AreApart b.spans b.spans
      (λ s o i j l k. apart_in_run v s o (end_in_window b v choice s i) (end_in_window b v choice o j) (apart_either b sound.apart s o i j l k));
  reached = ap b.goal (end_is_last b proper sound.calm v choice) ∙ sound.reached;
}

-- ---- the choices at which a missing fact shows

pub latest_is_choice : (b : WindowBox) → IsProper b → IsChoice b latest
latest_is_choice b proper = (all_of (IsInWindow latest) b.points (λ p i. (ordered b proper p i, omega arith)), all_of (λ s. IsInWindow latest s.end) b.spans (λ s i. ((started b proper s i).1, omega arith)))

pub near_window : (t : ℕ) (p : Point) → p.low ≤ p.high → IsInWindow (nearest t) p
near_window t p l = (omega arith, omega arith)

pub nearest_is_choice : (b : WindowBox) → IsProper b → (t : ℕ) → IsChoice b (nearest t)
nearest_is_choice b proper t = (all_of (IsInWindow (nearest t)) b.points (λ p i. near_window t p (ordered b proper p i)), all_of (λ s. IsInWindow (nearest t) s.end) b.spans (λ s i. near_window t s.end (started b proper s i).1))

corner_window : (chosen : Point → Bool) (p : Point) → p.low ≤ p.high → IsInWindow (corner chosen) p
corner_window chosen p l = by_choice p.low p.high (chosen p) l
  where
    by_choice : (m n : ℕ) (b : Bool) → m ≤ n → (m ≤ cond b m n) × (cond b m n ≤ n)
    by_choice m n true l = (omega arith, l)
    by_choice m n false l = (l, omega arith)

pub corner_is_choice : (b : WindowBox) → IsProper b → (chosen : Point → Bool) → IsChoice b (corner chosen)
corner_is_choice b proper chosen = (all_of (IsInWindow (corner chosen)) b.points (λ p i. corner_window chosen p (ordered b proper p i)), all_of (λ s. IsInWindow (corner chosen) s.end) b.spans (λ s i. corner_window chosen s.end (started b proper s i).1))

-- ---- what executes at them has the facts

pub apart_or_fails : (b : WindowBox) → Executes (run_when b latest) → (s o : OpenSpan) → Contains b.spans s → Contains b.spans o → StayApart s o
apart_or_fails b x s o i j l k = of_mapped_pairs (span_at latest) (span_at latest) AreApart b.spans b.spans x.apart s o i j (less_differs s.end.step o.end.step l) k

at_the_later_low : (p q : Point) → p.low ≤ p.high → q.low ≤ q.high → Meet p q → nearest (max p.low q.low) p ≡ nearest (max p.low q.low) q
at_the_later_low p q l k meet = omega arith

pub calm_or_fails : (b : WindowBox) → IsProper b → (p q : Point) → Contains b.points p → Contains b.points q → Executes (run_when b (nearest (max p.low q.low))) → StayCalm p q
calm_or_fails b proper p q i j x l meet =
    let v = nearest (max p.low q.low) in
    of_mapped_pairs (entry_at v) (entry_at v) AreCalm b.points b.points x.calm p q i j (less_differs p.step q.step l) (at_the_later_low p q (ordered b proper p i) (ordered b proper q j) meet)

pub fed_or_fails : (b : WindowBox) → IsProper b → AreCalmPoints b → Executes (run_when b latest) → (p : Point) → Contains b.points p → IsFedAlways b p
fed_or_fails b proper calm x p i =
    sym (before_is_certain b proper calm latest (latest_is_choice b proper) p i) ∙ of_mapped (entry_at latest) (IsFed (run_when b latest)) b.points x.fed p i

-- where a run executes, and by a moment these points have come, what has to hold inside a step that lasts past it does
pub kept_in_run : (b : WindowBox) → IsProper b → AreCalmPoints b → (v : Point → ℕ) → IsChoice b v → (s : OpenSpan) → Contains b.spans s → (t : ℕ) (came : Point → Bool) → s.from ≤ t → t < v s.end →
    ((p : Point) → Contains b.points p → nat_le (v p) t ≡ came_by t came p) → Executes (run_when b v) → s.over (state_at b t came) ≡ true
kept_in_run b proper calm v choice s i t came from to these x = by_last b proper calm v choice s i t came from to these x (started b proper s i) (top v (λ p. nat_le (v p) t) b.points)
  where
    same_upto : (y u t : ℕ) → u ≤ t → (y ≤ t → y ≤ u) → nat_le y u ≡ nat_le y t
    same_upto y u t l h = grind (arith, nat_tests)

    by_last : (b : WindowBox) → IsProper b → AreCalmPoints b → (v : Point → ℕ) → IsChoice b v → (s : OpenSpan) → Contains b.spans s → (t : ℕ) (came : Point → Bool) → s.from ≤ t → t < v s.end →
        ((p : Point) → Contains b.points p → nat_le (v p) t ≡ came_by t came p) → Executes (run_when b v) → IsStarted b.points s →
        NonePasses (λ p. nat_le (v p) t) b.points ⊎ ((m : Point) × IsTop v (λ p. nat_le (v p) t) b.points m) → s.over (state_at b t came) ≡ true
    by_last b proper calm v choice s i t came from to these x start (inl none) =
        let to_start : v start.2.0 ≤ start.2.0.high = (in_window b v choice start.2.0 start.2.1).1 in
        let high : start.2.0.high ≡ s.from = start.2.3 in
        absurd (none start.2.0 start.2.1 (le-leb (v start.2.0) t (omega arith)))
    by_last b proper calm v choice s i t came from to these x start (inr (m, h)) =
        let w = in_window b v choice start.2.0 start.2.1 in
        let low : start.2.0.low ≤ v start.2.0 = w.0 in
        let high : v start.2.0 ≤ start.2.0.high = w.1 in
        let at_low : start.2.0.low ≡ s.from = start.2.2 in
        let at_high : start.2.0.high ≡ s.from = start.2.3 in
        let upto : v m ≤ t = leb-true (v m) t h.passes in
        let since : s.from ≤ v m = let k : v start.2.0 ≤ v m = h.most start.2.0 start.2.1 (le-leb (v start.2.0) t (omega arith)) in omega arith in
        ap s.over (sym (after_is_state b proper calm v choice (v m) t came (λ p j. same_upto (v p) (v m) t upto (λ l. h.most p j (le-leb (v p) t l)) ∙ these p j)))
        ∙ of_mapped_pairs (entry_at v) (span_at v) (IsKept (run_when b v)) b.points b.spans x.kept m s h.there i since (omega arith)

pub kept_or_fails : (b : WindowBox) → IsProper b → AreCalmPoints b → (s : OpenSpan) → Contains b.spans s → (t : ℕ) (chosen : Point → Bool) → Executes (run_when b (corner chosen)) →
    s.from ≤ t → t < s.end.high → chosen s.end ≡ false → s.over (state_at b t chosen) ≡ true
kept_or_fails b proper calm s i t chosen x from to late =
    let ends : corner chosen s.end ≡ s.end.high = ap (λ c. cond c s.end.low s.end.high) late in
    kept_in_run b proper calm (corner chosen) (corner_is_choice b proper chosen) s i t chosen from (omega arith) (λ p j. came_in_corner chosen p t (ordered b proper p j)) x

pub reached_or_fails : (b : WindowBox) → IsProper b → AreCalmPoints b → Executes (run_when b latest) → b.goal (at_last b) ≡ true
reached_or_fails b proper calm x = ap b.goal (sym (end_is_last b proper calm latest (latest_is_choice b proper))) ∙ x.reached

pub executes_sound : (b : WindowBox) → IsProper b → ExecutesAlways b → IsSound b
executes_sound b proper always =
    let late : Executes (run_when b latest) = always latest (latest_is_choice b proper) in
    let calm : AreCalmPoints b = all_pairs StayCalm b.points b.points (λ p q i j. calm_or_fails b proper p q i j (always (nearest (max p.low q.low)) (nearest_is_choice b proper (max p.low q.low)))) in
    record {
      apart = all_pairs StayApart b.spans b.spans (λ s o i j. apart_or_fails b late s o i j);
      calm = calm;
      fed = all_of (IsFedAlways b) b.points (λ p i. fed_or_fails b proper calm late p i);
      kept = all_pairs (IsKeptAt b) b.spans (lows b) (λ s t i j from to chosen other. kept_or_fails b proper calm s i t chosen (always (corner chosen) (corner_is_choice b proper chosen)) from to other);
      reached = reached_or_fails b proper calm late;
    }

pub executes_always_exactly_where_sound : ExecutesAlwaysExactlyWhereSound
executes_always_exactly_where_sound b proper = (executes_sound b proper, sound_executes b proper)

-- ---- over-all conditions at every moment

pub kept_at_every_moment : KeptAtEveryMoment
kept_at_every_moment b proper sound s i t from to chosen other =
    let v = corner chosen in
    let ends : v s.end ≡ s.end.high = ap (λ c. cond c s.end.low s.end.high) other in
    ap s.over (sym (after_is_state b proper sound.calm v (corner_is_choice b proper chosen) t t chosen (λ p j. came_in_corner chosen p t (ordered b proper p j))))
    ∙ kept_anywhere b proper sound.calm sound.kept v (corner_is_choice b proper chosen) s i t from (omega arith)
