-- The box that a box in an arena stands for.
use Rattle.stp_cond.specs.Truth.{meaning_of, state_of_row}
use Rattle.stp_happen.specs.declared.boxes.BoxRun.{BoxRun}
use Rattle.stp_happen.specs.Boxes.{PlainBox}
use Rattle.stp_happen.specs.Owners.{owners_of}
use Rattle.stp_happen.specs.StepViews.{steps_of, timed_of}

abbrev pub plain_box : BoxRun → PlainBox
plain_box b = record { owners = owners_of (steps_of b.steps) (timed_of b.timed); initial = state_of_row b.initial; goal = meaning_of b.goal.now }
