-- Windows with a common moment, and points by the numbers of steps and the places of events of the environment.
use Rattle.std.proofs.Common.{◌≡◌, ℕ, zero, suc, ◌+◌, ◌-◌, ◌<◌, ◌≤◌, ◌↔◌, nat_lt, nat_le, Bool, true, ◌&&◌, IsTrue, List, [], ◌∷◌, length, is_some, get_or, max, Contains, Option, Some, None, IfSome, IsSome, refl, ap, sym, ◌∙◌, subst, arith, true≢false}
use Rattle.std.specs.Prelude.{slice_get, option_map, option_and_then}
use Rattle.std.proofs.Math.Logic.{∥∥₁_elim}
use Rattle.std.proofs.Props.{props}
use Rattle.std.proofs.lemmas.Bool.{leb-true, le-leb, ltb-true}
use Rattle.std.proofs.lemmas.Bool.Decides.{nat_tests}
use Rattle.stp_cond.specs.Atoms.{PlainEvent}
use Rattle.stp_happen.specs.declared.boxes.BoxStep.{BoxStep}
use Rattle.stp_happen.specs.declared.boxes.BoxRun.{BoxRun}
use Rattle.stp_happen.specs.declared.boxes.BoxTimed.{BoxTimed}
use Rattle.stp_happen.specs.Boxes.{PlainOwner}
use Rattle.stp_happen.specs.Owners.{PlainBoxStep, PlainBoxTimed, step_owner, timed_owners, number_after}
use Rattle.stp_happen.specs.SoundBox.{IsBoxStep, IsBoxTimed}
use Rattle.stp_happen.specs.StepViews.{step_of, steps_of, plain_timed, timed_of}
use Rattle.stp_happen.proofs.OwnerLists.{in_timed}
use Rattle.stp_happen.proofs.Members.{each_of, each_mapped, here, there, and_left, and_right, and_both}
use Rattle.stp_window.specs.Windows.{Point, may_meet}
use Rattle.stp_window.specs.OwnerWindows.{first_point, end_point}
use Rattle.stp_window.specs.declared.points.PointOf.{PointOf}
use Rattle.stp_window.specs.declared.points.PointOf.TheVariants.{First, Last, Timed}
use Rattle.stp_window.specs.Points.{step_numbered, last_point, point_at, HaveMoment, IfBoth}

number_at : (steps : List BoxStep) (n : ℕ) (s : BoxStep) → IsSome (slice_get (steps_of steps) n) → s ≡ get_or steps n s → slice_get (steps_of steps) n ≡ Some (step_of s)
number_at [] n s h e = absurd (true≢false (sym h))
number_at (x ∷ xs) zero s h e = ap (λ y. Some (step_of y)) (sym e)
number_at (x ∷ xs) (suc n) s h e = number_at xs n s h e

pub step_there : (steps : List BoxStep) (number : ℕ) (s : BoxStep) → IsSome (step_numbered (steps_of steps) number) → s ≡ get_or steps (number - 1) s → step_numbered (steps_of steps) number ≡ Some (step_of s)
step_there steps zero s h e = absurd (true≢false (sym h))
step_there steps (suc n) s h e = let one_less : suc n - 1 ≡ n = omega arith in number_at steps n s h (subst (λ k. s ≡ get_or steps k s) one_less e)

-- ---- events by their places

pub timed_there : (timed : List BoxTimed) (number place : ℕ) → nat_lt place (length timed) ≡ is_some (option_map end_point (slice_get (timed_owners number (timed_of timed)) place))
timed_there [] number place = grind (arith, nat_tests)
timed_there (e ∷ es) number zero = grind (arith, nat_tests)
timed_there (e ∷ es) number (suc k) = less k (length es) ∙ timed_there es (number_after number (plain_timed e)) k
  where
    less : (k n : ℕ) → nat_lt (suc k) (suc n) ≡ nat_lt k n
    less k n = grind (arith, nat_tests)

pub is_timed_there : (steps : List PlainBoxStep) (timed read : List BoxTimed) (point : PointOf) (place : ℕ) → point ≡ Timed place → read ≡ timed → nat_lt place (length read) ≡ is_some (point_at steps (timed_of timed) point)
is_timed_there steps timed read point place is same = rw (is, same) (timed_there timed (length steps + 1) place)

pub timed_within : (steps : List PlainBoxStep) (timed read : List BoxTimed) (point : PointOf) (place : ℕ) → point ≡ Timed place → read ≡ timed → IsSome (point_at steps (timed_of timed) point) → place < length read
timed_within steps timed read point place is same there = ltb-true place (length read) (is_timed_there steps timed read point place is same ∙ there)

bounds_at : (timed : List BoxTimed) (number place : ℕ) (e : BoxTimed) → e ≡ get_or timed place e → IfSome (option_map end_point (slice_get (timed_owners number (timed_of timed)) place)) (λ p. (e.low ≡ p.low) × (e.high ≡ p.high))
bounds_at [] number place e h = tt
bounds_at (x ∷ xs) number zero e h = (ap (λ (t : BoxTimed). t.low) h, ap (λ (t : BoxTimed). t.high) h)
bounds_at (x ∷ xs) number (suc k) e h = bounds_at xs (number_after number (plain_timed x)) k e h

pub timed_bounds : (steps : List PlainBoxStep) (timed read : List BoxTimed) (point : PointOf) (place : ℕ) (e : BoxTimed) → point ≡ Timed place → read ≡ timed → e ≡ get_or read place e →
    IfSome (point_at steps (timed_of timed) point) (λ p. (e.low ≡ p.low) × (e.high ≡ p.high))
timed_bounds steps timed read point place e is same h = rw is (bounds_at timed (length steps + 1) place e (subst (λ (ts : List BoxTimed). e ≡ get_or ts place e) same h))

-- ---- windows go up

pub owner_at : (owners : List PlainOwner) (n : ℕ) (o : PlainOwner) → slice_get owners n ≡ Some o → Contains owners o
owner_at [] n o e = absurd (cc)
owner_at (x ∷ xs) zero o e = subst (Contains (x ∷ xs)) (some_same e) (here x xs)
  where
    some_same : {X : Type 0} {x y : X} → Some x ≡ Some y → x ≡ y
    some_same e = cc
owner_at (x ∷ xs) (suc n) o e = there x xs o (owner_at xs n o e)

-- an event of a box has its low up to its high
timed_goes_up : (boxed : BoxRun) (e : PlainBoxTimed) → Contains (timed_of boxed.timed) e → e.low ≤ e.high
timed_goes_up boxed e i = ∥∥₁_elim boxed.sound (Prim.hlevel props) (λ b. each_mapped plain_timed (λ (x : PlainBoxTimed). x.low ≤ x.high) boxed.timed (λ x j. (each_of (IsBoxTimed boxed.grid (length boxed.initial)) boxed.timed b.timed_in_range x j).up) e i)

timed_owner_up : (boxed : BoxRun) (number : ℕ) (o : PlainOwner) → Contains (timed_owners number (timed_of boxed.timed)) o → o.low ≤ o.high
timed_owner_up boxed number o i = let r = in_timed number (timed_of boxed.timed) o i in subst (λ (x : PlainOwner). x.low ≤ x.high) (sym r.is) (timed_goes_up boxed r.e r.member)

numbered_member : (steps : List PlainBoxStep) (number : ℕ) (s : PlainBoxStep) → step_numbered steps number ≡ Some s → Contains steps s
numbered_member steps zero s e = absurd (cc)
numbered_member steps (suc n) s e = at_place steps n s e
  where
    at_place : (steps : List PlainBoxStep) (n : ℕ) (s : PlainBoxStep) → slice_get steps n ≡ Some s → Contains steps s
    at_place [] n s e = absurd (cc)
    at_place (x ∷ xs) zero s e = subst (Contains (x ∷ xs)) (some_same e) (here x xs)
      where
        some_same : {X : Type 0} {x y : X} → Some x ≡ Some y → x ≡ y
        some_same e = cc
    at_place (x ∷ xs) (suc n) s e = there x xs s (at_place xs n s e)

-- a step of a box has its low up to its high
step_goes_up : (boxed : BoxRun) (s : PlainBoxStep) → Contains (steps_of boxed.steps) s → s.low ≤ s.high
step_goes_up boxed s i = ∥∥₁_elim boxed.sound (Prim.hlevel props) (λ b. each_mapped step_of (λ (x : PlainBoxStep). x.low ≤ x.high) boxed.steps (λ x j. (each_of (IsBoxStep boxed.grid (length boxed.initial)) boxed.steps b.steps_in_range x j).up) s i)

-- a point of a step has its window's ends in order
pub point_goes_up : (boxed : BoxRun) (point : PointOf) (p : Point) → point_at (steps_of boxed.steps) (timed_of boxed.timed) point ≡ Some p → p.low ≤ p.high
point_goes_up boxed (First step) p e = first_up (step_numbered (steps_of boxed.steps) step.0) step.0 p e
  where
    first_up : (found : Option PlainBoxStep) (number : ℕ) (p : Point) → option_map (λ s. first_point (step_owner number s)) found ≡ Some p → p.low ≤ p.high
    first_up None number p e = absurd (cc)
    first_up (Some s) number p e = let q : first_point (step_owner number s) ≡ p = cc in subst (λ (x : Point). x.low ≤ x.high) q (omega arith)
point_goes_up boxed (Last step) p e = last_up (step_numbered (steps_of boxed.steps) step.0) step.0 p (λ s f. step_goes_up boxed s (numbered_member (steps_of boxed.steps) step.0 s f)) e
  where
    with_last : (last : Option PlainEvent) (number : ℕ) (s : PlainBoxStep) (p : Point) → s.low ≤ s.high → option_map (λ event. end_point (step_owner number s)) last ≡ Some p → p.low ≤ p.high
    with_last None number s p l e = absurd (cc)
    with_last (Some event) number s p l e = let q : end_point (step_owner number s) ≡ p = cc in subst (λ (x : Point). x.low ≤ x.high) q l

    last_up : (found : Option PlainBoxStep) (number : ℕ) (p : Point) → ((s : PlainBoxStep) → found ≡ Some s → s.low ≤ s.high) → option_and_then (last_point number) found ≡ Some p → p.low ≤ p.high
    last_up None number p up e = absurd (cc)
    last_up (Some s) number p up e = with_last s.last number s p (up s refl) e
point_goes_up boxed (Timed place) p e = owner_up (slice_get owners place) p (λ o f. timed_owner_up boxed (length (steps_of boxed.steps) + 1) o (owner_at owners place o f)) e
  where
    owners : List PlainOwner
    owners = timed_owners (length (steps_of boxed.steps) + 1) (timed_of boxed.timed)

    owner_up : (found : Option PlainOwner) (p : Point) → ((o : PlainOwner) → found ≡ Some o → o.low ≤ o.high) → option_map end_point found ≡ Some p → p.low ≤ p.high
    owner_up None p up e = absurd (cc)
    owner_up (Some o) p up e = let q : end_point o ≡ p = cc in subst (λ (x : Point). x.low ≤ x.high) q (up o refl)

-- ---- meetings

pub moment_told : (p q : Point) → p.low ≤ p.high → q.low ≤ q.high → may_meet p q ≡ true ↔ HaveMoment p q
moment_told p q l k = (λ h. let b = below p.low p.high q.low q.high l k h in (max p.low q.low, b.0, b.1), λ h. by_moment p.low p.high q.low q.high h.0 h.1 h.2)
  where
    below : (a b c d : ℕ) → a ≤ b → c ≤ d → (nat_le a d && nat_le c b) ≡ true → ((a ≤ max a c) × (max a c ≤ b)) × ((c ≤ max a c) × (max a c ≤ d))
    below a b c d l k h = let e : a ≤ d = leb-true a d (and_left (nat_le a d) (nat_le c b) h) in let f : c ≤ b = leb-true c b (and_right (nat_le a d) (nat_le c b) h) in ((omega arith, omega arith), (omega arith, omega arith))

    by_moment : (a b c d t : ℕ) → (a ≤ t) × (t ≤ b) → (c ≤ t) × (t ≤ d) → (nat_le a d && nat_le c b) ≡ true
    by_moment a b c d t i j = and_both (nat_le a d) (nat_le c b) (le-leb a d (omega arith)) (le-leb c b (omega arith))

-- the test of two windows that are read off
pub test_told : (one other : Option Point) (r : Bool) (a b c d : ℕ) → r ≡ (nat_le a d && nat_le c b) → IfSome one (λ p. (a ≡ p.low) × (b ≡ p.high)) → IfSome other (λ q. (c ≡ q.low) × (d ≡ q.high)) → IfBoth one other (λ p q. r ≡ may_meet p q)
test_told None other r a b c d e f g = tt
test_told (Some p) None r a b c d e f g = tt
test_told (Some p) (Some q) r a b c d e f g = rw (← f.0, ← f.1, ← g.0, ← g.1) e

pub both_told : (one other : Option Point) (r : Bool) → ((p : Point) → one ≡ Some p → p.low ≤ p.high) → ((q : Point) → other ≡ Some q → q.low ≤ q.high) → IfBoth one other (λ p q. r ≡ may_meet p q) → IfBoth one other (λ p q. IsTrue r ↔ HaveMoment p q)
both_told None other r up too e = tt
both_told (Some p) None r up too e = tt
both_told (Some p) (Some q) r up too e = let m = moment_told p q (up p refl) (too q refl) in (λ h. m.0 (sym e ∙ h), λ h. e ∙ m.1 h)
