-- Boxes with narrower windows.
use Rattle.std.specs.Prelude.{◌≡◌, ◌≤◌, false, List, [], ◌∷◌}
use Rattle.stp_happen.specs.Boxes.{PlainOwner, PlainBox, IsStrong}

-- the same owner, but for an end window within the other's, which is the same where the owner is not uncertain
pub record IsNarrowed (o wide : PlainOwner) : Type 0 where
  pub low : wide.low ≤ o.low
  pub high : o.high ≤ wide.high
  pub certain : wide.uncertain ≡ false → o.high ≡ wide.high
  pub rest : wide ≡ record o { low = wide.low; high = wide.high }

abbrev pub AreNarrowed : List PlainOwner → List PlainOwner → Type 0
AreNarrowed [] wides = wides ≡ []
AreNarrowed (o ∷ os) [] = ⊥
AreNarrowed (o ∷ os) (wide ∷ wides) = IsNarrowed o wide × AreNarrowed os wides

-- the same box, but for narrower windows
pub record IsNarrowedBox (box wide : PlainBox) : Type 0 where
  pub owners : AreNarrowed box.owners wide.owners
  pub initial : box.initial ≡ wide.initial
  pub goal : box.goal ≡ wide.goal

-- a box is strong where one with wider windows is
abbrev pub NarrowerBoxesAreStrong : Type 0
NarrowerBoxesAreStrong = (box wide : PlainBox) → IsNarrowedBox box wide → IsStrong wide → IsStrong box
