-- The texts of plans: each rover drives to its place and takes its photo.
use Rattle.std.specs.Prelude.{ℕ, ◌*◌, ◌-◌, Bool, true, false, ◌&&◌, ◌==◌, List, ◌++◌, codes}
use Rattle.std.specs.Fmt.{decimal}
use Rattle.stp_demo.specs.Pieces.{line, each, slow}

abbrev pub drive_line : ℕ → List ℕ
drive_line i = line (codes "0: (drive r" ++ decimal i ++ codes " p0 p" ++ decimal i ++ codes ") [*]")

-- when a rover takes its photo: when each drive has surely ended, or, too early, half a unit before its own has
abbrev pub photo_start : Bool → ℕ → List ℕ
photo_start true i = decimal (2 * slow i - 1) ++ codes "/2"
photo_start false i = codes "10"

abbrev pub photo_line : Bool → ℕ → List ℕ
photo_line early i = line (photo_start early i ++ codes ": (photo r" ++ decimal i ++ codes " p" ++ decimal i ++ codes ") [2]")

abbrev pub steps_text : Bool → ℕ → List ℕ
steps_text early i = drive_line i ++ photo_line early i

-- in the spoiled plan the photo of the last rover is too early
abbrev pub plan_text : Bool → ℕ → List ℕ
plan_text spoiled n = each (λ i. steps_text (spoiled && (i == n)) i) n
