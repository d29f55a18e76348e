-- The box that a box of owners in an arena stands for.
use Rattle.stp_cond.specs.Truth.{meaning_of, state_of_row}
use Rattle.stp_happen.specs.declared.owners.OwnedBox.{OwnedBox}
use Rattle.stp_happen.specs.Boxes.{PlainBox}
use Rattle.stp_happen.specs.OwnerViews.{plain_owners}

abbrev pub plain_owned : OwnedBox → PlainBox
plain_owned b = record { owners = plain_owners b.owners; initial = state_of_row b.initial; goal = meaning_of b.goal.now }
