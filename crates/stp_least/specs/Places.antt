-- Owners of a box whose ends are narrowed one after the other: those that are fixed, the one that is narrowed, and the rest.
use Rattle.std.specs.Prelude.{◌≡◌, ℕ, ◌+◌, ◌≤◌, true, List, ◌∷◌, ◌++◌, length, slice_index}
use Rattle.stp_happen.specs.Bounds.{bounded_box}
use Rattle.stp_happen.specs.Boxes.{PlainOwner, PlainBox}
use Rattle.stp_happen.specs.LeastFailure.{IsFailure}
use Rattle.stp_happen.specs.OwnedViews.{plain_owned}
use Rattle.stp_happen.specs.OwnerViews.{plain_owner, plain_owners}
use Rattle.stp_least.specs.declared.place.Place.{Place}
use Rattle.stp_least.specs.declared.place.Failing.{Failing}
use Rattle.stp_least.specs.declared.search.Search.{Search}
use Rattle.stp_least.specs.Searching.{uncertain_among, AreFixed}

-- the box with these bounds for the owner at the place
abbrev pub box_at : Place → ℕ → ℕ → PlainBox
box_at place low high = bounded_box place.owner.number low high (plain_owned place.boxed.now)

-- an uncertain owner of the box, before which each owner is fixed, and its position is how many of those are uncertain
pub record IsPlace (place : Place) : Type 0 where
  pub before : List PlainOwner
  pub rest : List PlainOwner
  pub owners : plain_owners place.boxed.now.owners ≡ before ++ plain_owner place.owner ∷ rest
  pub fixed : AreFixed before
  pub position : place.position ≡ uncertain_among before
  pub uncertain : place.owner.uncertain ≡ true

-- bounds within those of the owner at the place
pub record Fits (place : Place) (from to : ℕ) : Type 0 where
  pub low : place.owner.low ≤ from
  pub up : from ≤ to
  pub high : to ≤ place.owner.high

-- such bounds, with durations at which the box with them fails and the owner ends at the high
pub record IsFailing (place : Place) (failing : Failing) : Type 0 where
  pub fits : Fits place failing.low failing.high
  pub failure : IsFailure (box_at place failing.low failing.high) failing.durations
  pub at_high : place.owner.start + slice_index failing.durations place.position ≡ failing.high

-- so many first owners are fixed, and the box fails at the durations
pub record IsSearch (count : ℕ) (search : Search) : Type 0 where
  pub before : List PlainOwner
  pub rest : List PlainOwner
  pub owners : plain_owners search.boxed.owners ≡ before ++ rest
  pub long : length before ≡ count
  pub fixed : AreFixed before
  pub position : search.position ≡ uncertain_among before
  pub failure : IsFailure (plain_owned search.boxed) search.durations
