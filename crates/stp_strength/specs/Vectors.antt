-- The durations at which owners end at chosen moments.
use Rattle.std.specs.Prelude.{ℕ, ◌-◌, if◌then◌else◌, List, [], ◌∷◌}
use Rattle.stp_happen.specs.Boxes.{PlainOwner, PlainBox}
use Rattle.stp_window.specs.Windows.{Point}
use Rattle.stp_window.specs.OwnerWindows.{end_point}

-- the durations at which the ends of these owners come at their moments
abbrev pub vector_from : (Point → ℕ) → List PlainOwner → List ℕ
vector_from moment [] = []
vector_from moment (o ∷ os) =
    if o.uncertain
    then (moment (end_point o) - o.start) ∷ vector_from moment os
    else vector_from moment os

-- the durations at which the ends of a box come at their moments
abbrev pub vector_of : PlainBox → (Point → ℕ) → List ℕ
vector_of box moment = vector_from moment box.owners
