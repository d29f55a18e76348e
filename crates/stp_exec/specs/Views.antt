-- What the program's values stand for.
use Rattle.stp_ground.specs.Views.{chosen_view}
use Rattle.stp_exec.specs.Timed.{plain_timed}
use Rattle.stp_exec.specs.declared.placed.Placed.{Placed}
use Rattle.stp_exec.specs.Placed.{PlainPlaced}

-- a step in its place
abbrev pub plain_placed : Placed → PlainPlaced
plain_placed s = record { chosen = chosen_view s.chosen; timed = plain_timed s.timed }
