-- A box is strong, on every grid or on its own, exactly where it has the static facts.
use Rattle.std.proofs.Common.{◌≡◌, ℕ, ◌*◌, one-mul, ◌<◌, ◌≤◌, List, [], ◌∷◌, ◌++◌, map, Contains, Option, Some, None, ◌⊎◌, inl, inr, refl, ap, ap₂, sym, ◌∙◌, subst, arith}
use Rattle.std.proofs.lemmas.List.{map-append}
use Rattle.std.proofs.lemmas.List.Elements.{Contains-append_cases, Contains-append_left, Contains-append_right}
use Rattle.stp_cond.specs.Atoms.{PlainEvent}
use Rattle.stp_happen.specs.Plain.{Executes}
use Rattle.stp_happen.specs.Moves.{KeepsOrder}
use Rattle.stp_happen.specs.Boxes.{PlainInside, PlainOwner, PlainBox, finer_owner, finer_box, IsStrong}
use Rattle.stp_happen.specs.Owners.{AreTimedApart, AreNumbered}
use Rattle.stp_happen.proofs.Members.{here, there, each_of, all_mapped, member_map, each_mapped}
use Rattle.stp_window.specs.Windows.{Point, OpenSpan, WindowBox}
use Rattle.stp_window.specs.OwnerWindows.{event_points, end_point, points_of_owner, points_of_owners, open_spans, open_spans_of_owner, open_spans_of_owners, windows_of, IsWellMade, AreWellMade}
use Rattle.stp_window.proofs.Proper.{IsPointOf, HasOwner, SpanHasOwner, found, found_span, windows_proper}
use Rattle.stp_strength.specs.Facts.{IsSound}
use Rattle.stp_strength.specs.Moved.{moved_point, moved_open_span, moved_windows, window_bounds}
use Rattle.stp_strength.specs.MovedBoxes.{moved_owner, moved_box, bounds, MovedBoxesAreStrong}
use Rattle.stp_strength.specs.Strength.{StrongExactlyWhereSound, IsStrongOnItsGrid, OneGridDecides}
use Rattle.stp_strength.specs.Vectors.{vector_of}
use Rattle.stp_strength.proofs.Sound.{sound_executes, executes_sound}
use Rattle.stp_strength.proofs.Moved.{moved_windows_are_sound}
use Rattle.stp_strength.proofs.Durations.{durations_of_choice, moments_of_vector}

-- ---- on one grid

pub sound_on_grid : (box : PlainBox) → AreWellMade box.owners → IsSound (windows_of box) → IsStrongOnItsGrid box
sound_on_grid box w sound ds vector =
    let m = moments_of_vector box w ds vector in
    subst Executes (sym m.1.same) (sound_executes (windows_of box) (windows_proper box w) sound m.0 m.1.choice)

pub grid_sound : (box : PlainBox) → AreWellMade box.owners → IsStrongOnItsGrid box → IsSound (windows_of box)
grid_sound box w strong = executes_sound (windows_of box) (windows_proper box w) (λ v choice.
    let d = durations_of_choice box w v choice in
    subst Executes d.same (strong (vector_of box v) d.vector))

-- ---- the windows of a moved box

event_moved : (f : ℕ → ℕ) (number low high : ℕ) (event : Option PlainEvent) → event_points number (f low) (f high) event ≡ map (moved_point f) (event_points number low high event)
event_moved f number low high None = refl
event_moved f number low high (Some e) = refl

owner_moved : (f : ℕ → ℕ) (o : PlainOwner) → points_of_owner (moved_owner f o) ≡ map (moved_point f) (points_of_owner o)
owner_moved f o =
    ap₂ (λ ps qs. ps ++ qs) (event_moved f o.number o.start o.start o.first) (event_moved f o.number o.low o.high o.last)
    ∙ sym (map-append (moved_point f) (event_points o.number o.start o.start o.first) (event_points o.number o.low o.high o.last))

points_moved : (f : ℕ → ℕ) (owners : List PlainOwner) → points_of_owners (map (moved_owner f) owners) ≡ map (moved_point f) (points_of_owners owners)
points_moved f [] = refl
points_moved f (o ∷ os) =
    ap₂ (λ ps qs. ps ++ qs) (owner_moved f o) (points_moved f os)
    ∙ sym (map-append (moved_point f) (points_of_owner o) (points_of_owners os))

inside_moved : (f : ℕ → ℕ) (from : ℕ) (end : Point) (inside : Option PlainInside) → open_spans (f from) (moved_point f end) inside ≡ map (moved_open_span f) (open_spans from end inside)
inside_moved f from end None = refl
inside_moved f from end (Some k) = refl

spans_moved : (f : ℕ → ℕ) (owners : List PlainOwner) → open_spans_of_owners (map (moved_owner f) owners) ≡ map (moved_open_span f) (open_spans_of_owners owners)
spans_moved f [] = refl
spans_moved f (o ∷ os) =
    ap₂ (λ ss ts. ss ++ ts) (inside_moved f o.start (end_point o) o.inside) (spans_moved f os)
    ∙ sym (map-append (moved_open_span f) (open_spans_of_owner o) (open_spans_of_owners os))

pub windows_moved : (f : ℕ → ℕ) (box : PlainBox) → windows_of (moved_box f box) ≡ moved_windows f (windows_of box)
windows_moved f box =
    let windows : List Point → List OpenSpan → WindowBox = λ ps ss. record { points = ps; spans = ss; initial = box.initial; goal = box.goal } in
    ap₂ windows (points_moved f box.owners) (spans_moved f box.owners)

-- ---- bounds that are moved in order

up : (f : ℕ → ℕ) (ts : List ℕ) → KeepsOrder f ts → (x y : ℕ) → Contains ts x → Contains ts y → x ≤ y → f x ≤ f y
up f ts keeps x y i j l = by_order f ts keeps x y i j (eq_or_less x y l)
  where
    eq_or_less : (x y : ℕ) → x ≤ y → (x ≡ y) ⊎ (x < y)
    eq_or_less x y l = grind arith

    by_order : (f : ℕ → ℕ) (ts : List ℕ) → KeepsOrder f ts → (x y : ℕ) → Contains ts x → Contains ts y → (x ≡ y) ⊎ (x < y) → f x ≤ f y
    by_order f ts keeps x y i j (inl e) = subst (λ z. f x ≤ f z) e (omega arith)
    by_order f ts keeps x y i j (inr l) = let k : f x < f y = keeps x y i j l in omega arith

one_to_one : (f : ℕ → ℕ) (ts : List ℕ) → KeepsOrder f ts → (x y : ℕ) → Contains ts x → Contains ts y → f x ≡ f y → x ≡ y
one_to_one f ts keeps x y i j e = by_order f ts keeps x y i j e (three x y)
  where
    three : (x y : ℕ) → (x < y) ⊎ ((y < x) ⊎ (x ≡ y))
    three x y = grind arith

    by_order : (f : ℕ → ℕ) (ts : List ℕ) → KeepsOrder f ts → (x y : ℕ) → Contains ts x → Contains ts y → f x ≡ f y → (x < y) ⊎ ((y < x) ⊎ (x ≡ y)) → x ≡ y
    by_order f ts keeps x y i j e (inl l) = absurd (let k : f x < f y = keeps x y i j l in omega arith)
    by_order f ts keeps x y i j e (inr (inl l)) = absurd (let k : f y < f x = keeps y x j i l in omega arith)
    by_order f ts keeps x y i j e (inr (inr same)) = same

start_bound : (owners : List PlainOwner) (o : PlainOwner) → Contains owners o → Contains (bounds owners) o.start
start_bound owners o i = Contains-append_left (map (λ x. x.start) owners) (map (λ x. x.low) owners ++ map (λ x. x.high) owners) o.start (member_map (λ (x : PlainOwner). x.start) owners o i)

low_bound : (owners : List PlainOwner) (o : PlainOwner) → Contains owners o → Contains (bounds owners) o.low
low_bound owners o i =
    Contains-append_right (map (λ x. x.start) owners) (map (λ x. x.low) owners ++ map (λ x. x.high) owners) o.low
    (Contains-append_left (map (λ x. x.low) owners) (map (λ x. x.high) owners) o.low (member_map (λ (x : PlainOwner). x.low) owners o i))

high_bound : (owners : List PlainOwner) (o : PlainOwner) → Contains owners o → Contains (bounds owners) o.high
high_bound owners o i =
    Contains-append_right (map (λ x. x.start) owners) (map (λ x. x.low) owners ++ map (λ x. x.high) owners) o.high
    (Contains-append_right (map (λ x. x.low) owners) (map (λ x. x.high) owners) o.high (member_map (λ (x : PlainOwner). x.high) owners o i))

made_moved : (f : ℕ → ℕ) (owners : List PlainOwner) → KeepsOrder f (bounds owners) → (o : PlainOwner) → Contains owners o → IsWellMade o → IsWellMade (moved_owner f o)
made_moved f owners keeps o i w = record {
  up = up f (bounds owners) keeps o.start o.low (start_bound owners o i) (low_bound owners o i) w.up;
  ordered = up f (bounds owners) keeps o.low o.high (low_bound owners o i) (high_bound owners o i) w.ordered;
  certain = λ u. ap f (w.certain u);
  lasting = λ first last. keeps o.start o.low (start_bound owners o i) (low_bound owners o i) (w.lasting first last);
  begun = w.begun;
  ended = w.ended;
  first_reads = w.first_reads;
  last_reads = w.last_reads;
}

-- events of the environment at different moments are moved to different ones
numbered_moved : (f : ℕ → ℕ) (ts : List ℕ) → KeepsOrder f ts → (owners : List PlainOwner) → ((o : PlainOwner) → Contains owners o → Contains ts o.high) → AreNumbered owners → AreNumbered (map (moved_owner f) owners)
numbered_moved f ts keeps [] highs n = tt
numbered_moved f ts keeps (o ∷ os) highs n = (
  all_mapped (moved_owner f) (λ y. (moved_owner f o).number ≡ y.number → AreTimedApart (moved_owner f o) y) os (λ y i e.
      let a = each_of (λ z. o.number ≡ z.number → AreTimedApart o z) os n.0 y i e in
      record {
        one = record { first = a.one.first; inside = a.one.inside; certain = a.one.certain };
        other = record { first = a.other.first; inside = a.other.inside; certain = a.other.certain };
        apart = λ h. a.apart (one_to_one f ts keeps o.high y.high (highs o (here o os)) (highs y (there o os y i)) h);
      }),
  numbered_moved f ts keeps os (λ y i. highs y (there o os y i)) n.1,
)

all_made_moved : (f : ℕ → ℕ) (owners : List PlainOwner) → KeepsOrder f (bounds owners) → AreWellMade owners → AreWellMade (map (moved_owner f) owners)
all_made_moved f owners keeps w = record {
  each = all_mapped (moved_owner f) IsWellMade owners (λ o i. made_moved f owners keeps o i (each_of IsWellMade owners w.each o i));
  numbered = numbered_moved f (bounds owners) keeps owners (high_bound owners) w.numbered;
}

-- ---- on every grid

pub times_up : (k a b : ℕ) → a ≤ b → k * a ≤ k * b
times_up k a b l = grind arith

times_below : (k a b : ℕ) → 0 < k → a < b → k * a < k * b
times_below k a b h l = grind arith

pub all_made_finer : (k : ℕ) (box : PlainBox) → 0 < k → AreWellMade box.owners → AreWellMade (finer_box k box).owners
all_made_finer k box h w = all_made_moved (λ t. k * t) box.owners (λ x y i j l. times_below k x y h l) w

pub finer_sound : (k : ℕ) (box : PlainBox) → 0 < k → AreWellMade box.owners → IsSound (windows_of box) → IsSound (windows_of (finer_box k box))
finer_sound k box h w sound =
    subst IsSound (sym (windows_moved (λ t. k * t) box)) (moved_windows_are_sound (λ t. k * t) (windows_of box) (λ x y i j l. times_below k x y h l) (windows_proper box w) sound)

sound_strong : (box : PlainBox) → AreWellMade box.owners → IsSound (windows_of box) → IsStrong box
sound_strong box w sound k h ds vector = sound_on_grid (finer_box k box) (all_made_finer k box h w) (finer_sound k box h w sound) ds vector

same_owner : (o : PlainOwner) → finer_owner 1 o ≡ o
same_owner o = rw (one-mul o.start, one-mul o.low, one-mul o.high)

same_owners : (owners : List PlainOwner) → map (finer_owner 1) owners ≡ owners
same_owners [] = refl
same_owners (o ∷ os) = ap₂ (λ x xs. x ∷ xs) (same_owner o) (same_owners os)

pub same_box : (box : PlainBox) → finer_box 1 box ≡ box
same_box box = ap (λ (os : List PlainOwner). let b : PlainBox = record { owners = os; initial = box.initial; goal = box.goal } in b) (same_owners box.owners)

pub strong_on_grid : (box : PlainBox) → IsStrong box → IsStrongOnItsGrid box
strong_on_grid box strong = subst IsStrongOnItsGrid (same_box box) (strong 1 (omega arith))

pub strong_exactly_where_sound : StrongExactlyWhereSound
strong_exactly_where_sound box w = (λ strong. grid_sound box w (strong_on_grid box strong), sound_strong box w)

pub one_grid_decides : OneGridDecides
one_grid_decides box w = (strong_on_grid box, λ strong. sound_strong box w (grid_sound box w strong))

-- ---- a moved box

-- a bound of the windows is one of the owners
point_bounds : (owners : List PlainOwner) (p : Point) → HasOwner owners p → Contains (bounds owners) p.low × Contains (bounds owners) p.high
point_bounds owners p r = by_kind owners p r.o r.member r.of
  where
    by_kind : (owners : List PlainOwner) (p : Point) (o : PlainOwner) → Contains owners o → IsPointOf o p → Contains (bounds owners) p.low × Contains (bounds owners) p.high
    by_kind owners p o i (inl (x, h, e)) = (subst (Contains (bounds owners)) (sym (ap (λ (q : Point). q.low) e)) (start_bound owners o i), subst (Contains (bounds owners)) (sym (ap (λ (q : Point). q.high) e)) (start_bound owners o i))
    by_kind owners p o i (inr (x, h, e)) = (subst (Contains (bounds owners)) (sym (ap (λ (q : Point). q.low) e)) (low_bound owners o i), subst (Contains (bounds owners)) (sym (ap (λ (q : Point). q.high) e)) (high_bound owners o i))

span_bounds : (owners : List PlainOwner) (s : OpenSpan) → SpanHasOwner owners s → Contains (bounds owners) s.from × Contains (bounds owners) s.end.high
span_bounds owners s r = (
  subst (Contains (bounds owners)) (sym (ap (λ (x : OpenSpan). x.from) r.of.2)) (start_bound owners r.o r.member),
  subst (Contains (bounds owners)) (sym (ap (λ (x : OpenSpan). x.end.high) r.of.2)) (high_bound owners r.o r.member),
)

window_bound : (box : PlainBox) (t : ℕ) → Contains (window_bounds (windows_of box)) t → Contains (bounds box.owners) t
window_bound box t i =
    let ps = points_of_owners box.owners in
    let ss = open_spans_of_owners box.owners in
    elim (Contains-append_cases (map (λ p. p.low) ps) (map (λ p. p.high) ps ++ (map (λ s. s.from) ss ++ map (λ s. s.end.high) ss)) t i) [
      | inl j ↦ each_mapped (λ (p : Point). p.low) (Contains (bounds box.owners)) ps (λ p k. (point_bounds box.owners p (found box.owners p k)).0) t j
      | inr j ↦ elim (Contains-append_cases (map (λ p. p.high) ps) (map (λ s. s.from) ss ++ map (λ s. s.end.high) ss) t j) [
        | inl k ↦ each_mapped (λ (p : Point). p.high) (Contains (bounds box.owners)) ps (λ p q. (point_bounds box.owners p (found box.owners p q)).1) t k
        | inr k ↦ elim (Contains-append_cases (map (λ s. s.from) ss) (map (λ s. s.end.high) ss) t k) [
          | inl q ↦ each_mapped (λ (s : OpenSpan). s.from) (Contains (bounds box.owners)) ss (λ s r. (span_bounds box.owners s (found_span box.owners s r)).0) t q
          | inr q ↦ each_mapped (λ (s : OpenSpan). s.end.high) (Contains (bounds box.owners)) ss (λ s r. (span_bounds box.owners s (found_span box.owners s r)).1) t q
        ]
      ]
    ]

pub moved_boxes_are_strong : MovedBoxesAreStrong
moved_boxes_are_strong f box keeps w strong =
    let made : AreWellMade (moved_box f box).owners = all_made_moved f box.owners keeps w in
    let sound : IsSound (windows_of box) = grid_sound box w (strong_on_grid box strong) in
    let moves : KeepsOrder f (window_bounds (windows_of box)) = λ x y i j l. keeps x y (window_bound box x i) (window_bound box y j) l in
    sound_strong (moved_box f box) made (subst IsSound (sym (windows_moved f box)) (moved_windows_are_sound f (windows_of box) moves (windows_proper box w) sound))
