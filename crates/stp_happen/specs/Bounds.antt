-- Boxes in which one owner has other bounds.
use Rattle.std.specs.Prelude.{◌≡◌, ℕ, ◌==◌, ◌<◌, ◌≤◌, true, if◌then◌else◌, map, None}
use Rattle.stp_happen.specs.declared.owners.Owner.{Owner}
use Rattle.stp_happen.specs.Boxes.{PlainOwner, PlainBox}
use Rattle.stp_happen.specs.Sound.{last_moment}

-- the owner of this number ends between these moments, and any other as before
abbrev pub bounded_owner : ℕ → ℕ → ℕ → PlainOwner → PlainOwner
bounded_owner number low high o = if o.number == number then record o { low = low; high = high } else o

-- the box in which the owner of this number ends between these moments
abbrev pub bounded_box : ℕ → ℕ → ℕ → PlainBox → PlainBox
bounded_box number low high box = record box { owners = map (bounded_owner number low high) box.owners }

-- An owner may end between two moments on a grid: it is uncertain, they are in order and not past the last moment,
-- and not before its start, but after it where the owner has both events.
pub record MayEndWithin (grid from to : ℕ) (o : Owner) : Type 0 where
  pub uncertain : o.uncertain ≡ true
  pub up : o.start ≤ from
  pub ordered : from ≤ to
  pub within : to ≤ last_moment grid
  pub lasting : (o.first ≡ None → ⊥) → (o.last ≡ None → ⊥) → o.start < from
