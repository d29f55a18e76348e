-- What each box of owners keeps.
use Rattle.std.specs.Prelude.{◌≡◌, ℕ, ◌<◌, ◌≤◌, Bool, true, false, List, length, All, None, IfSome}
use Rattle.stp_base.specs.declared.limits.TheConstants.{MAX_GRID}
use Rattle.stp_cond.specs.declared.cond.Cond.{Cond}
use Rattle.stp_cond.specs.Truth.{is_below}
use Rattle.stp_happen.specs.declared.owners.Owner.{Owner}
use Rattle.stp_happen.specs.Owners.{AreNumbered, AreInOrder}
use Rattle.stp_happen.specs.OwnerViews.{plain_owners}
use Rattle.stp_happen.specs.Sound.{IsEventInRange, last_moment}

-- What each owner in a box keeps: start up to low, before it where it has both events, and 0 where it has no first
-- event; low up to high, and equal unless it is uncertain; a first event where something has to hold inside; and a
-- last event, or something inside.
pub record IsOwner (grid n : ℕ) (o : Owner) : Type 0 where
  pub up : o.start ≤ o.low
  pub ordered : o.low ≤ o.high
  pub high : o.high ≤ last_moment grid
  pub certain : o.uncertain ≡ false → o.low ≡ o.high
  pub lasting : (o.first ≡ None → ⊥) → (o.last ≡ None → ⊥) → o.start < o.low
  pub opened : o.first ≡ None → o.start ≡ 0
  pub begun : IfSome o.inside (λ i. o.first ≡ None → ⊥)
  pub ended : o.last ≡ None → o.inside ≡ None → ⊥
  pub first_in_range : IfSome o.first (IsEventInRange n)
  pub last_in_range : IfSome o.last (IsEventInRange n)
  pub over_in_range : IfSome o.inside (λ i. is_below n i.over.now ≡ true)

-- What each box of owners keeps: a grid from 1 to 999,999,999, owners with numbers of their own and in their
-- order, and atoms that the first state has.
pub record IsOwnedBox (grid : ℕ) (owners : List Owner) (initial : List Bool) (goal : Cond) : Type 0 where
  pub grid_low : 1 ≤ grid
  pub grid_high : grid ≤ MAX_GRID
  pub owners_in_range : All (IsOwner grid (length initial)) owners
  pub numbered : AreNumbered (plain_owners owners)
  pub in_order : AreInOrder (plain_owners owners)
  pub goal_in_range : is_below (length initial) goal ≡ true
