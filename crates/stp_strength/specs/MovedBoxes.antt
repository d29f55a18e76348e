-- Boxes whose bounds are moved without a change of their order.
use Rattle.std.specs.Prelude.{ℕ, List, ◌++◌, map}
use Rattle.stp_happen.specs.Moves.{KeepsOrder}
use Rattle.stp_happen.specs.Boxes.{PlainOwner, PlainBox, IsStrong}
use Rattle.stp_window.specs.OwnerWindows.{AreWellMade}

abbrev pub moved_owner : (ℕ → ℕ) → PlainOwner → PlainOwner
moved_owner f o = record o { start = f o.start; low = f o.low; high = f o.high }

-- the same box, each bound t moved to f t
abbrev pub moved_box : (ℕ → ℕ) → PlainBox → PlainBox
moved_box f box = record box { owners = map (moved_owner f) box.owners }

-- the starts, lows and highs of owners
abbrev pub bounds : List PlainOwner → List ℕ
bounds owners = map (λ o. o.start) owners ++ (map (λ o. o.low) owners ++ map (λ o. o.high) owners)

-- a box stays strong where its bounds are moved in order
abbrev pub MovedBoxesAreStrong : Type 0
MovedBoxesAreStrong = (f : ℕ → ℕ) (box : PlainBox) → KeepsOrder f (bounds box.owners) → AreWellMade box.owners → IsStrong box → IsStrong (moved_box f box)
