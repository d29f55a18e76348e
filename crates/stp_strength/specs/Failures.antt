-- Tests of the static facts, and where one is missing, moments at which the box fails there.
use Rattle.std.specs.Prelude.{◌≡◌, ℕ, ◌<◌, ◌≤◌, ◌==◌, nat_lt, nat_le, Bool, true, false, not, ◌&&◌, ◌||◌, max, List, [], ◌∷◌, ◌++◌, map, filter, Contains}
use Rattle.std.specs.List.{list_all}
use Rattle.stp_cond.specs.Atoms.{has, interfere}
use Rattle.stp_window.specs.Windows.{Point, OpenSpan, WindowBox, may_meet, is_unsettled}
use Rattle.stp_window.specs.States.{certain_before, state_at, at_last}
use Rattle.stp_strength.specs.Facts.{lows}
use Rattle.stp_strength.specs.Choices.{latest, corner, nearest}

-- ---- tests of the static facts

abbrev pub all_pairs_pass : {X : Type 0} → (X → X → Bool) → List X → Bool
all_pairs_pass test xs = list_all (λ x. list_all (test x) xs) xs

-- two steps of one action never run at one moment
abbrev pub stay_apart : OpenSpan → OpenSpan → Bool
stay_apart s o = not (nat_lt s.end.step o.end.step && s.key == o.key) || (nat_lt s.end.high o.from || nat_lt o.end.high s.from)

-- two points of different steps whose windows have a common moment do not interfere
abbrev pub stay_calm : Point → Point → Bool
stay_calm p q = not (nat_lt p.step q.step && may_meet p q) || not (interfere p.event q.event)

abbrev pub all_calm : WindowBox → Bool
all_calm b = all_pairs_pass stay_calm b.points

-- a point finds what it needs in what is certain before its window
abbrev pub is_fed : WindowBox → Point → Bool
is_fed b p = p.event.cond (certain_before b p.low)

-- every choice out of a list
abbrev pub sublists : {X : Type 0} → List X → List (List X)
sublists [] = [] ∷ []
sublists (x ∷ xs) = sublists xs ++ map (λ l. x ∷ l) (sublists xs)

-- the other steps whose ends are unsettled at a moment
abbrev pub others : WindowBox → OpenSpan → ℕ → List ℕ
others b s t = map (λ p. p.step) (filter (λ p. is_unsettled t p && not (p.step == s.end.step)) b.points)

-- the points of these steps
abbrev pub of_steps : List ℕ → Point → Bool
of_steps steps p = has steps p.step

-- at a moment that is surely or maybe within a span, what has to hold inside holds, whichever unsettled ends have come
abbrev pub is_kept : WindowBox → OpenSpan → ℕ → Bool
is_kept b s t = not (nat_le s.from t && nat_lt t s.end.high) || list_all (λ steps. s.over (state_at b t (of_steps steps))) (sublists (others b s t))

-- all static facts: the plain check of a box
abbrev pub is_sound : WindowBox → Bool
is_sound b =
    all_pairs_pass stay_apart b.spans
    && (all_calm b
    && (list_all (is_fed b) b.points
    && (list_all (λ s. list_all (is_kept b s) (lows b)) b.spans
    && b.goal (at_last b))))

-- ---- where a fact is missing

pub data Gap (b : WindowBox) : Type 0 where
  NotApart : (s o : OpenSpan) → Contains b.spans s → Contains b.spans o → stay_apart s o ≡ false → Gap b
  NotCalm : (p q : Point) → Contains b.points p → Contains b.points q → stay_calm p q ≡ false → Gap b
  NotFed : (p : Point) → Contains b.points p → all_calm b ≡ true → is_fed b p ≡ false → Gap b
  NotKept : (s : OpenSpan) (t : ℕ) (chosen : Point → Bool) → Contains b.spans s → all_calm b ≡ true → s.from ≤ t → t < s.end.high → chosen s.end ≡ false → s.over (state_at b t chosen) ≡ false → Gap b
  NotReached : all_calm b ≡ true → b.goal (at_last b) ≡ false → Gap b

-- moments at which the box fails there
abbrev pub failing : (b : WindowBox) → Gap b → Point → ℕ
failing b (NotApart s o i j missing) = latest
failing b (NotCalm p q i j missing) = nearest (max p.low q.low)
failing b (NotFed p i calm missing) = latest
failing b (NotKept s t chosen i calm from to late missing) = corner chosen
failing b (NotReached calm missing) = latest
