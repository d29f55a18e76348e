-- The texts of problems: rovers at one place, each with a place of its own to see.
use Rattle.std.specs.Prelude.{ℕ, List, ◌++◌, codes}
use Rattle.std.specs.Fmt.{decimal}
use Rattle.stp_demo.specs.Pieces.{line, each, fast, slow}

abbrev pub rover_line : ℕ → List ℕ
rover_line i = line (codes "r" ++ decimal i)

abbrev pub place_line : ℕ → List ℕ
place_line i = line (codes "p" ++ decimal i)

abbrev pub rovers_text : ℕ → List ℕ
rovers_text n = each rover_line n ++ line (codes "- rover")

-- the place 0, where all rovers are at first, and a place of each rover's own
abbrev pub places_text : ℕ → List ℕ
places_text n = place_line 0 ++ each place_line n ++ line (codes "- place)")

abbrev pub objects_text : ℕ → List ℕ
objects_text n = line (codes "(:objects") ++ rovers_text n ++ places_text n

-- where a rover is at first, and that it can drive to its place
abbrev pub road_text : ℕ → List ℕ
road_text i = codes "(still r" ++ decimal i ++ codes ") (at r" ++ decimal i ++ codes " p0) (road p0 p" ++ decimal i ++ codes ")"

-- a duration of the drive to a place
abbrev pub time_text : List ℕ → ℕ → ℕ → List ℕ
time_text name i time = codes "(= (" ++ name ++ codes " p0 p" ++ decimal i ++ codes ") " ++ decimal time ++ codes ")"

-- what holds at first of a rover and its place
abbrev pub fact_line : ℕ → List ℕ
fact_line i =
    line (road_text i ++ codes " " ++ time_text (codes "fast") i (fast i) ++ codes " " ++ time_text (codes "slow") i (slow i))

abbrev pub facts_text : ℕ → List ℕ
facts_text n = line (codes "(:init") ++ each fact_line n ++ line (codes ")")

abbrev pub goal_line : ℕ → List ℕ
goal_line i = line (codes "(seen p" ++ decimal i ++ codes ")")

abbrev pub goals_text : ℕ → List ℕ
goals_text n = line (codes "(:goal (and") ++ each goal_line n ++ line (codes ")))")

abbrev pub problem_text : ℕ → List ℕ
problem_text n = line (codes "(define (problem demo) (:domain rover)") ++ objects_text n ++ facts_text n ++ goals_text n
