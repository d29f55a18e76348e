-- Boxes whose bounds are moved in order keep their static facts.
use Rattle.std.proofs.Common.{◌≡◌, ℕ, ◌<◌, ◌≤◌, nat_lt, Bool, true, List, [], ◌∷◌, ◌++◌, map, filter, All, Contains, ◌⊎◌, inl, inr, refl, ap, sym, ◌∙◌, subst, arith}
use mathlib.Core.Path.{fun_ext}
use Rattle.std.proofs.lemmas.Bool.Decides.{nat_tests}
use Rattle.std.proofs.lemmas.List.Elements.{Contains-append_left, Contains-append_right}
use Rattle.stp_cond.specs.Atoms.{has}
use Rattle.stp_happen.specs.Plain.{state_after}
use Rattle.stp_happen.specs.Moves.{KeepsOrder}
use Rattle.stp_happen.proofs.Members.{each_of, each_pair, member_map, all_mapped, all_mapped_pairs, kept_alike}
use Rattle.stp_happen.proofs.StateLists.{moved_le, moved_lt}
use Rattle.stp_window.specs.Windows.{Point, OpenSpan, WindowBox, IsProper, entry_at}
use Rattle.stp_window.specs.States.{left_by, certain_before, came_by, state_at}
use Rattle.stp_strength.specs.Facts.{StayApart, StayCalm, IsFedAlways, IsKeptAt, lows, IsSound}
use Rattle.stp_strength.specs.Moved.{moved_point, moved_open_span, moved_windows, window_bounds, MovedWindowsAreSound}
use Rattle.stp_window.proofs.LatestPoints.{AgreeOrFollow, placed_alike}
use Rattle.stp_strength.proofs.Apart.{AreCalm, agree_or_apart}
use Rattle.stp_window.proofs.LastWay.{ordered}

-- ---- which bounds there are

low_of : (b : WindowBox) (p : Point) → Contains b.points p → Contains (window_bounds b) p.low
low_of b p i = Contains-append_left (map (λ p. p.low) b.points) (map (λ p. p.high) b.points ++ (map (λ s. s.from) b.spans ++ map (λ s. s.end.high) b.spans)) p.low (member_map (λ p. p.low) b.points p i)

high_of : (b : WindowBox) (p : Point) → Contains b.points p → Contains (window_bounds b) p.high
high_of b p i =
    Contains-append_right (map (λ p. p.low) b.points) (map (λ p. p.high) b.points ++ (map (λ s. s.from) b.spans ++ map (λ s. s.end.high) b.spans)) p.high
    (Contains-append_left (map (λ p. p.high) b.points) (map (λ s. s.from) b.spans ++ map (λ s. s.end.high) b.spans) p.high (member_map (λ p. p.high) b.points p i))

from_of : (b : WindowBox) (s : OpenSpan) → Contains b.spans s → Contains (window_bounds b) s.from
from_of b s i =
    Contains-append_right (map (λ p. p.low) b.points) (map (λ p. p.high) b.points ++ (map (λ s. s.from) b.spans ++ map (λ s. s.end.high) b.spans)) s.from
    (Contains-append_right (map (λ p. p.high) b.points) (map (λ s. s.from) b.spans ++ map (λ s. s.end.high) b.spans) s.from
    (Contains-append_left (map (λ s. s.from) b.spans) (map (λ s. s.end.high) b.spans) s.from (member_map (λ s. s.from) b.spans s i)))

end_of_span : (b : WindowBox) (s : OpenSpan) → Contains b.spans s → Contains (window_bounds b) s.end.high
end_of_span b s i =
    Contains-append_right (map (λ p. p.low) b.points) (map (λ p. p.high) b.points ++ (map (λ s. s.from) b.spans ++ map (λ s. s.end.high) b.spans)) s.end.high
    (Contains-append_right (map (λ p. p.high) b.points) (map (λ s. s.from) b.spans ++ map (λ s. s.end.high) b.spans) s.end.high
    (Contains-append_right (map (λ s. s.from) b.spans) (map (λ s. s.end.high) b.spans) s.end.high (member_map (λ s. s.end.high) b.spans s i)))

-- ---- states

-- what moved points leave, by which of the points have come
moved_left : (f : ℕ → ℕ) (b : WindowBox) → KeepsOrder f (window_bounds b) → IsProper b → AreCalm b → (c d : Point → Bool) → ((p : Point) → Contains b.points p → c (moved_point f p) ≡ d p) →
    left_by (moved_windows f b) c ≡ left_by b d
moved_left f b keeps proper calm c d same =
    ap (λ ps. state_after b.initial (map (entry_at (λ p. p.high)) ps)) (kept_alike (moved_point f) c d b.points same)
    ∙ (ap (state_after b.initial) (map_twice f (filter d b.points))
    ∙ fun_ext (λ a. placed_alike b.initial b.points (λ p. f p.high) (λ p. p.high) d d a (λ p i s. refl) (λ p q i j s r.
    in_order f b keeps a p q i j (ordered b proper p i) (ordered b proper q j) (agree_or_apart b proper calm a p q i j s r))))
  where
    map_twice : (f : ℕ → ℕ) (ps : List Point) → map (entry_at (λ p. p.high)) (map (moved_point f) ps) ≡ map (entry_at (λ p. f p.high)) ps
    map_twice f [] = refl
    map_twice f (p ∷ ps) = ap (λ es. entry_at (λ q. f q.high) p ∷ es) (map_twice f ps)

    in_order : (f : ℕ → ℕ) (b : WindowBox) → KeepsOrder f (window_bounds b) → (a : ℕ) (p q : Point) → Contains b.points p → Contains b.points q → p.low ≤ p.high → q.low ≤ q.high →
        (has p.event.adds a ≡ has q.event.adds a) ⊎ ((p.high < q.low) ⊎ (q.high < p.low)) → AgreeOrFollow (λ x. f x.high) (λ x. x.high) a p q
    in_order f b keeps a p q i j l k (inl e) = inl e
    in_order f b keeps a p q i j l k (inr (inl h)) = let up : p.high < q.high = omega arith in inr (inl (keeps p.high q.high (high_of b p i) (high_of b q j) up, up))
    in_order f b keeps a p q i j l k (inr (inr h)) = let up : q.high < p.high = omega arith in inr (inr (keeps q.high p.high (high_of b q j) (high_of b p i) up, up))

moved_certain : (f : ℕ → ℕ) (b : WindowBox) → KeepsOrder f (window_bounds b) → IsProper b → AreCalm b → (p : Point) → Contains b.points p → certain_before (moved_windows f b) (f p.low) ≡ certain_before b p.low
moved_certain f b keeps proper calm p i =
    moved_left f b keeps proper calm (λ q. nat_lt q.high (f p.low)) (λ q. nat_lt q.high p.low) (λ q j. moved_lt f (window_bounds b) keeps q.high p.low (high_of b q j) (low_of b p i))

-- the set that a set of moved points stands for
abbrev unmoved : (ℕ → ℕ) → (Point → Bool) → Point → Bool
unmoved f chosen p = chosen (moved_point f p)

moved_state_at : (f : ℕ → ℕ) (b : WindowBox) → KeepsOrder f (window_bounds b) → IsProper b → AreCalm b → (p : Point) → Contains b.points p → (chosen : Point → Bool) →
    state_at (moved_windows f b) (f p.low) chosen ≡ state_at b p.low (unmoved f chosen)
moved_state_at f b keeps proper calm p i chosen =
    moved_left f b keeps proper calm (came_by (f p.low) chosen) (came_by p.low (unmoved f chosen)) (λ q j. came f b keeps p i chosen q j)
  where
    came : (f : ℕ → ℕ) (b : WindowBox) → KeepsOrder f (window_bounds b) → (p : Point) → Contains b.points p → (chosen : Point → Bool) → (q : Point) → Contains b.points q →
        came_by (f p.low) chosen (moved_point f q) ≡ came_by p.low (unmoved f chosen) q
    came f b keeps p i chosen q j =
        let high = moved_le f (window_bounds b) keeps q.high p.low (high_of b q j) (low_of b p i) in
        let low = moved_le f (window_bounds b) keeps q.low p.low (low_of b q j) (low_of b p i) in
        rw (high, low)

-- ---- the facts

back_le : (f : ℕ → ℕ) (ts : List ℕ) → KeepsOrder f ts → (x y : ℕ) → Contains ts x → Contains ts y → f x ≤ f y → x ≤ y
back_le f ts keeps x y i j l = let e = moved_le f ts keeps x y i j in grind (arith, nat_tests)

back_lt : (f : ℕ → ℕ) (ts : List ℕ) → KeepsOrder f ts → (x y : ℕ) → Contains ts x → Contains ts y → f x < f y → x < y
back_lt f ts keeps x y i j l = let e = moved_lt f ts keeps x y i j in grind (arith, nat_tests)

moved_apart : (f : ℕ → ℕ) (b : WindowBox) → KeepsOrder f (window_bounds b) → (s o : OpenSpan) → Contains b.spans s → Contains b.spans o →
    (s.end.high < o.from) ⊎ (o.end.high < s.from) → (f s.end.high < f o.from) ⊎ (f o.end.high < f s.from)
moved_apart f b keeps s o i j (inl l) = inl (keeps s.end.high o.from (end_of_span b s i) (from_of b o j) l)
moved_apart f b keeps s o i j (inr l) = inr (keeps o.end.high s.from (end_of_span b o j) (from_of b s i) l)

moved_kept : (f : ℕ → ℕ) (b : WindowBox) → KeepsOrder f (window_bounds b) → IsProper b → IsSound b → (s : OpenSpan) → Contains b.spans s → (p : Point) → Contains b.points p →
    IsKeptAt (moved_windows f b) (moved_open_span f s) (f p.low)
moved_kept f b keeps proper sound s j p i from to chosen other =
    ap s.over (moved_state_at f b keeps proper sound.calm p i chosen)
    ∙ each_pair (IsKeptAt b) b.spans (lows b) sound.kept s p.low j (member_map (λ q. q.low) b.points p i)
    (back_le f (window_bounds b) keeps s.from p.low (from_of b s j) (low_of b p i) from) (back_lt f (window_bounds b) keeps p.low s.end.high (low_of b p i) (end_of_span b s j) to)
    (unmoved f chosen) other

map_lows : (f : ℕ → ℕ) (ps : List Point) → map (λ p. p.low) (map (moved_point f) ps) ≡ map (λ p. f p.low) ps
map_lows f [] = refl
map_lows f (p ∷ ps) = ap (λ ts. f p.low ∷ ts) (map_lows f ps)

pub moved_windows_are_sound : MovedWindowsAreSound
moved_windows_are_sound f b keeps proper sound = record {
  apart = all_mapped_pairs (moved_open_span f) (moved_open_span f) StayApart b.spans b.spans (λ s o i j l k. moved_apart f b keeps s o i j (each_pair StayApart b.spans b.spans sound.apart s o i j l k));
  calm = all_mapped_pairs (moved_point f) (moved_point f) StayCalm b.points b.points
      (λ p q i j l meet. each_pair StayCalm b.points b.points sound.calm p q i j l
      (back_le f (window_bounds b) keeps p.low q.high (low_of b p i) (high_of b q j) meet.0, back_le f (window_bounds b) keeps q.low p.high (low_of b q j) (high_of b p i) meet.1));
  fed = all_mapped (moved_point f) (IsFedAlways (moved_windows f b)) b.points
      (λ p i. ap p.event.cond (moved_certain f b keeps proper sound.calm p i) ∙ each_of (IsFedAlways b) b.points sound.fed p i);
  kept = subst (λ ts. All (λ s. All (IsKeptAt (moved_windows f b) s) ts) (map (moved_open_span f) b.spans)) (sym (map_lows f b.points))
      (all_mapped_pairs (moved_open_span f) (λ (p : Point). f p.low) (IsKeptAt (moved_windows f b)) b.spans b.points (λ s p j i. moved_kept f b keeps proper sound s j p i));
  reached = ap b.goal (moved_left f b keeps proper sound.calm (λ p. true) (λ p. true) (λ p i. refl)) ∙ sound.reached;
}
