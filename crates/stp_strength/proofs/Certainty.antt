-- The states of a run of chosen moments, by the points that have come.
use Rattle.std.proofs.Common.{◌≡◌, ℕ, ◌<◌, ◌≤◌, nat_lt, nat_le, Bool, true, false, ◌&&◌, ◌||◌, cond, List, [], ◌∷◌, ◌==◌, eq-eqb, map, filter, Contains, ◌⊎◌, inl, inr, refl, ap, sym, ◌∙◌, subst, arith}
use mathlib.Core.Path.{fun_ext}
use Rattle.std.proofs.lemmas.Bool.Decides.{nat_tests}
use Rattle.stp_cond.specs.Atoms.{ReadsAlone}
use Rattle.stp_happen.specs.Plain.{state_after, before, after, at_end}
use Rattle.stp_happen.proofs.Members.{any_passes, each_of, all_of, kept_alike}
use Rattle.stp_window.specs.Windows.{Point, WindowBox, run_when, entry_at, IsInWindow, IsChoice, IsProper}
use Rattle.stp_window.specs.States.{left_by, certain_before, came_by, state_at, at_last}
use Rattle.stp_strength.specs.Choices.{corner}
use Rattle.stp_window.specs.Certain.{sets}
use Rattle.stp_window.proofs.LatestPoints.{same_left}
use Rattle.stp_window.proofs.LastWay.{AreWindowsApart}
use Rattle.stp_happen.proofs.Interfering.{reads_interfere}
use Rattle.stp_strength.proofs.Apart.{AreCalm, apart_if_interfering, agree_or_apart}

-- ---- states of a run

late_in_window : (b : WindowBox) → IsProper b → (p : Point) → Contains b.points p → IsInWindow (λ q. q.high) p
late_in_window b proper p i = (each_of (λ q. q.low ≤ q.high) b.points proper.ordered p i, omega arith)

pub moments_in_windows : (b : WindowBox) (v : Point → ℕ) → IsChoice b v → (p : Point) → Contains b.points p → IsInWindow v p
moments_in_windows b v choice p i = each_of (IsInWindow v) b.points choice.0 p i

-- what the points leave that have come in a run, and what points leave that have come by a test of windows
came_alike : (b : WindowBox) → IsProper b → AreCalm b → (v : Point → ℕ) → IsChoice b v → (c d : Point → Bool) (a : ℕ) → ((p : Point) → Contains b.points p → sets p a ≡ true → c p ≡ d p) →
    state_after b.initial (map (entry_at v) (filter c b.points)) a ≡ left_by b d a
came_alike b proper calm v choice c d a same =
    same_left b.initial b.points v (λ p. p.high) c d a (moments_in_windows b v choice) (late_in_window b proper) same (λ p q i j s r. agree_or_apart b proper calm a p q i j s r)

before_of : (b : WindowBox) (v : Point → ℕ) (t : ℕ) → before (run_when b v) t ≡ state_after b.initial (map (entry_at v) (filter (λ p. nat_lt (v p) t) b.points))
before_of b v t = ap (state_after b.initial) (kept_alike (entry_at v) (λ e. nat_lt e.time t) (λ p. nat_lt (v p) t) b.points (λ p i. refl))

after_of : (b : WindowBox) (v : Point → ℕ) (t : ℕ) → after (run_when b v) t ≡ state_after b.initial (map (entry_at v) (filter (λ p. nat_le (v p) t) b.points))
after_of b v t = ap (state_after b.initial) (kept_alike (entry_at v) (λ e. nat_le e.time t) (λ p. nat_le (v p) t) b.points (λ p i. refl))

pub filter_true : {X : Type 0} (xs : List X) → filter (λ x. true) xs ≡ xs
filter_true [] = refl
filter_true (x ∷ xs) = ap (λ l. x ∷ l) (filter_true xs)

-- the state after a moment, where the points that have come are those of a static state
pub after_is_state : (b : WindowBox) → IsProper b → AreCalm b → (v : Point → ℕ) → IsChoice b v → (u t : ℕ) (chosen : Point → Bool) →
    ((p : Point) → Contains b.points p → nat_le (v p) u ≡ came_by t chosen p) → after (run_when b v) u ≡ state_at b t chosen
after_is_state b proper calm v choice u t chosen same =
    after_of b v u ∙ fun_ext (λ a. came_alike b proper calm v choice (λ p. nat_le (v p) u) (came_by t chosen) a (λ p i s. same p i))

pub end_is_last : (b : WindowBox) → IsProper b → AreCalm b → (v : Point → ℕ) → IsChoice b v → at_end (run_when b v) ≡ at_last b
end_is_last b proper calm v choice =
    ap (λ ps. state_after b.initial (map (entry_at v) ps)) (sym (filter_true b.points))
    ∙ fun_ext (λ a. came_alike b proper calm v choice (λ p. true) (λ p. true) a (λ p i s. refl))

-- ---- what a condition reads

-- a point whose window is apart from another's has come before the moment exactly where its window has ended
came_before : (v : Point → ℕ) (p q : Point) → IsInWindow v p → IsInWindow v q → (q ≡ p) ⊎ AreWindowsApart q p → nat_lt (v q) (v p) ≡ nat_lt q.high p.low
came_before v p q in_p in_q (inl e) = subst (λ (x : Point). nat_lt (v x) (v p) ≡ nat_lt x.high p.low) (sym e) (itself (v p) p.low p.high in_p.0 in_p.1)
  where
    itself : (t l h : ℕ) → l ≤ t → t ≤ h → nat_lt t t ≡ nat_lt h l
    itself t l h a b = grind (arith, nat_tests)
came_before v p q in_p in_q (inr h) = by_windows (v p) (v q) p.low p.high q.low q.high in_p.0 in_p.1 in_q.0 in_q.1 h
  where
    by_windows : (t u pl ph ql qh : ℕ) → pl ≤ t → t ≤ ph → ql ≤ u → u ≤ qh → (qh < pl) ⊎ (ph < ql) → nat_lt u t ≡ nat_lt qh pl
    by_windows t u pl ph ql qh a b c d (inl l) = grind (arith, nat_tests)
    by_windows t u pl ph ql qh a b c d (inr l) = grind (arith, nat_tests)

pub before_is_certain : (b : WindowBox) → IsProper b → AreCalm b → (v : Point → ℕ) → IsChoice b v → (p : Point) → Contains b.points p →
    p.event.cond (before (run_when b v) (v p)) ≡ p.event.cond (certain_before b p.low)
before_is_certain b proper calm v choice p i =
    ap p.event.cond (before_of b v (v p))
    ∙ each_of (λ q. ReadsAlone q.event) b.points proper.reading p i (state_after b.initial (map (entry_at v) (filter (λ q. nat_lt (v q) (v p)) b.points))) (certain_before b p.low)
    (all_of (λ a. state_after b.initial (map (entry_at v) (filter (λ q. nat_lt (v q) (v p)) b.points)) a ≡ certain_before b p.low a) p.event.reads (λ a j.
    came_alike b proper calm v choice (λ q. nat_lt (v q) (v p)) (λ q. nat_lt q.high p.low) a (λ q k s.
    came_before v p q (moments_in_windows b v choice p i) (moments_in_windows b v choice q k)
    (apart_if_interfering b proper calm q p k i (reads_interfere p.event q.event a (any_passes (λ x. x == a) p.event.reads a j (eq-eqb a a refl)) s)))))

-- ---- which points have come

-- in a run at a moment, by the last bound up to it
pub came_in_run : (v : Point → ℕ) (t u : ℕ) (p : Point) → IsInWindow v p → t ≤ u → (p.low ≤ u → p.low ≤ t) → nat_le (v p) u ≡ came_by t (λ q. nat_le (v q) u) p
came_in_run v t u p in_p l last = by_numbers (v p) p.low p.high t u in_p.0 in_p.1 l last
  where
    by_numbers : (x pl ph t u : ℕ) → pl ≤ x → x ≤ ph → t ≤ u → (pl ≤ u → pl ≤ t) → nat_le x u ≡ (nat_le ph t || (nat_le x u && nat_le pl t))
    by_numbers x pl ph t u a b c last = grind (arith, nat_tests)

-- in the run of the choice that a static state gives
pub came_in_corner : (chosen : Point → Bool) (p : Point) (t : ℕ) → p.low ≤ p.high → nat_le (corner chosen p) t ≡ came_by t chosen p
came_in_corner chosen p t l = by_choice p.low p.high t (chosen p) l
  where
    by_choice : (pl ph t : ℕ) (b : Bool) → pl ≤ ph → nat_le (cond b pl ph) t ≡ (nat_le ph t || (b && nat_le pl t))
    by_choice pl ph t true l = grind (arith, nat_tests)
    by_choice pl ph t false l = grind (arith, nat_tests)
