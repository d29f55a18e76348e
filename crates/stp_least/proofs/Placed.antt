-- A place among the owners of a box: narrower bounds for its owner, and what they keep.
use Rattle.std.proofs.Common.{◌≡◌, ℕ, ◌+◌, ◌<◌, ◌≤◌, List, ◌∷◌, ◌++◌, drop, length, slice_index, map, All, refl, ap, sym, ◌∙◌, subst, arith, length-drop}
use Rattle.std.proofs.lemmas.List.{get_or-drop}
use Rattle.stp_happen.specs.Boxes.{PlainOwner, PlainBox, IsStrong}
use Rattle.stp_happen.specs.Bounds.{MayEndWithin, bounded_owner}
use Rattle.stp_happen.specs.LeastFailure.{IsFailure}
use Rattle.stp_happen.specs.OwnedViews.{plain_owned}
use Rattle.stp_happen.specs.OwnerViews.{plain_owner, plain_owners}
use Rattle.stp_happen.specs.Owners.{AreNumbered}
use Rattle.stp_happen.specs.SoundOwned.{IsOwner}
use Rattle.stp_happen.proofs.Bounding.{bounded_split}
use Rattle.stp_window.proofs.WellMade.{boxes_are_well_made}
use Rattle.stp_least.specs.declared.place.Place.{Place}
use Rattle.stp_least.specs.declared.place.Failing.{Failing}
use Rattle.stp_least.specs.Searching.{KeepsLeastFailure, uncertain_among}
use Rattle.stp_least.specs.Places.{box_at, Fits, IsPlace, IsFailing}
use Rattle.stp_least.proofs.Narrowing.{Narrows, ending, with_owners, own, own_within, failure_within, keeps_lowered, keeps_raised}

-- ---- the box with other bounds at the place

abbrev box_of : Place → PlainBox
box_of place = plain_owned place.boxed.now

abbrev split_box : (place : Place) → IsPlace place → ℕ → ℕ → PlainBox
split_box place p low high = with_owners (box_of place) (p.before ++ ending low high (plain_owner place.owner) ∷ p.rest)

-- the owner's number is its own, so that it alone gets the bounds
split_at : (place : Place) (p : IsPlace place) (low high : ℕ) → box_at place low high ≡ split_box place p low high
split_at place p low high =
    let numbered : AreNumbered (p.before ++ plain_owner place.owner ∷ p.rest) = subst AreNumbered p.owners (boxes_are_well_made place.boxed.now).numbered in
    ap (λ os. with_owners (box_of place) (map (bounded_owner place.owner.number low high) os)) p.owners
    ∙ ap (with_owners (box_of place)) (bounded_split low high p.before (plain_owner place.owner) p.rest p.uncertain numbered)

-- its own bounds change nothing
pub same_box : (place : Place) → IsPlace place → box_at place place.owner.low place.owner.high ≡ box_of place
same_box place p = split_at place p place.owner.low place.owner.high ∙ ap (with_owners (box_of place)) (sym p.owners)

pub own_failure : (place : Place) (ds : List ℕ) → IsPlace place → IsFailure (plain_owned place.boxed.now) ds → IsFailure (box_at place place.owner.low place.owner.high) ds
own_failure place ds p f = subst (λ b. IsFailure b ds) (sym (same_box place p)) f

narrows : (place : Place) → IsPlace place → (low high from to : ℕ) → low ≤ from → to ≤ high → Narrows (ending low high (plain_owner place.owner)) from to
narrows place p low high from to l h = record { uncertain = p.uncertain; low = l; high = h }

own_read : (place : Place) (p : IsPlace place) (ds : List ℕ) → own p.before ds ≡ slice_index ds place.position
own_read place p ds = get_or-drop (uncertain_among p.before) ds 0 0 ∙ ap (λ n. slice_index ds n) (omega (arith, p.position))

-- when the owner ends at these durations
pub record EndsWithin (place : Place) (low high : ℕ) (ds : List ℕ) : Type 0 where
  pub there : place.position < length ds
  pub from : low ≤ place.owner.start + slice_index ds place.position
  pub to : place.owner.start + slice_index ds place.position ≤ high

pub ends_within : (place : Place) (low high : ℕ) (ds : List ℕ) → IsPlace place → IsFailure (box_at place low high) ds → EndsWithin place low high ds
ends_within place low high ds p f =
    let g : IsFailure (split_box place p low high) ds = subst (λ b. IsFailure b ds) (split_at place p low high) f in
    let w = own_within p.before (ending low high (plain_owner place.owner)) p.rest ds p.uncertain g.vector in
    let e : place.position ≡ uncertain_among p.before = p.position in
    let some : 0 < length (drop (uncertain_among p.before) ds) = w.0 in
    let read : own p.before ds ≡ slice_index ds place.position = own_read place p ds in
    let l : low ≤ place.owner.start + own p.before ds = w.1 in
    let h : place.owner.start + own p.before ds ≤ high = w.2 in
    record {
      there = omega (arith, length-drop (uncertain_among p.before) ds);
      from = omega arith;
      to = omega arith;
    }

-- a failure at which the owner ends within narrower bounds is one of the box with those
failure_fits : (place : Place) (low high from to : ℕ) (ds : List ℕ) → IsPlace place → low ≤ from → to ≤ high → IsFailure (box_at place low high) ds →
    from ≤ place.owner.start + slice_index ds place.position → place.owner.start + slice_index ds place.position ≤ to → IsFailure (box_at place from to) ds
failure_fits place low high from to ds p l h f a b =
    let read : own p.before ds ≡ slice_index ds place.position = own_read place p ds in
    let least : from ≤ place.owner.start + own p.before ds = omega arith in
    let most : place.owner.start + own p.before ds ≤ to = omega arith in
    subst (λ b. IsFailure b ds) (sym (split_at place p from to))
    (failure_within (box_of place) p.before (ending low high (plain_owner place.owner)) p.rest from to (narrows place p low high from to l h) ds (subst (λ b. IsFailure b ds) (split_at place p low high) f) least most)

-- the high may be lowered
pub keeps_low : (place : Place) (low high to : ℕ) → IsPlace place → to ≤ high → KeepsLeastFailure (box_at place low high) (box_at place low to)
keeps_low place low high to p h =
    subst (λ b. KeepsLeastFailure b (box_at place low to)) (sym (split_at place p low high)) (subst (KeepsLeastFailure (split_box place p low high)) (sym (split_at place p low to))
    (keeps_lowered (box_of place) p.before (ending low high (plain_owner place.owner)) p.rest to p.fixed (narrows place p low high low to (omega arith) h)))

-- the low may be raised past bounds with which the box is strong
pub keeps_high : (place : Place) (low high middle : ℕ) → IsPlace place → low ≤ middle → middle < high → IsStrong (box_at place low middle) → KeepsLeastFailure (box_at place low high) (box_at place (middle + 1) high)
keeps_high place low high middle p l h strong =
    subst (λ b. KeepsLeastFailure b (box_at place (middle + 1) high)) (sym (split_at place p low high)) (subst (KeepsLeastFailure (split_box place p low high)) (sym (split_at place p (middle + 1) high))
    (keeps_raised (box_of place) p.before (ending low high (plain_owner place.owner)) p.rest middle (narrows place p low high low middle (omega arith) (omega arith)) (narrows place p low high (middle + 1) high (omega arith) (omega arith))
    (subst IsStrong (split_at place p low middle) strong)))

-- ---- the high, lowered to the owner's end

pub lowered_failing : (place : Place) (low high end : ℕ) (ds : List ℕ) → IsPlace place → Fits place low high → IsFailure (box_at place low high) ds → place.owner.start + slice_index ds place.position ≡ end →
    let failing : Failing = record { low = low; high = end; durations = ds } in IsFailing place failing
lowered_failing place low high end ds p fits f e =
    let w = ends_within place low high ds p f in
    let from : low ≤ place.owner.start + slice_index ds place.position = w.from in
    let to : place.owner.start + slice_index ds place.position ≤ high = w.to in
    let within : high ≤ place.owner.high = fits.high in
    record {
      fits = record { low = fits.low; up = omega arith; high = omega arith };
      failure = failure_fits place low high low end ds p (omega arith) (omega arith) f (omega arith) (omega arith);
      at_high = e;
    }

-- ---- both parts of the bounds

pub lower_fits : (place : Place) (failing : Failing) (middle : ℕ) → IsFailing place failing → failing.low ≤ middle → middle < failing.high → Fits place failing.low middle
lower_fits place failing middle f l h = let within : failing.high ≤ place.owner.high = f.fits.high in record { low = f.fits.low; up = l; high = omega arith }

pub upper_failing : (place : Place) (failing : Failing) (middle : ℕ) → IsPlace place → IsFailing place failing → failing.low ≤ middle → middle < failing.high →
    let upper : Failing = record { low = middle + 1; high = failing.high; durations = failing.durations } in IsFailing place upper
upper_failing place failing middle p f l h =
    let at : place.owner.start + slice_index failing.durations place.position ≡ failing.high = f.at_high in
    let from : place.owner.low ≤ failing.low = f.fits.low in
    record {
      fits = record { low = omega arith; up = omega arith; high = f.fits.high };
      failure = failure_fits place failing.low failing.high (middle + 1) failing.high failing.durations p (omega arith) (omega arith) f.failure (omega arith) (omega arith);
      at_high = f.at_high;
    }

-- its own bounds fit where the box fails
pub own_fits : (place : Place) (ds : List ℕ) → IsPlace place → IsFailure (plain_owned place.boxed.now) ds → Fits place place.owner.low place.owner.high
own_fits place ds p f =
    let w = ends_within place place.owner.low place.owner.high ds p (own_failure place ds p f) in
    let from : place.owner.low ≤ place.owner.start + slice_index ds place.position = w.from in
    let to : place.owner.start + slice_index ds place.position ≤ place.owner.high = w.to in
    record { low = omega arith; up = omega arith; high = omega arith }
