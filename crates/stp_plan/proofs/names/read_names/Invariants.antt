-- The names so far, and those that the rest begins with, are the names that the text begins with.
use Rattle.std.proofs.Common.{◌≡◌, length}
use Rattle.stp_plan.specs.Parts.{parts}
use Rattle.stp_plan.specs.Names.{names_from}
use Rattle.stp_plan.proofs.Following.{joined}
use Rattle.stp_plan.proofs.names.read_names.Given as goal

abbrev pub invariant-loop-word : goal.invariant-loop-word
invariant-loop-word l = joined l.names (names_from (parts l.rest)) ≡ names_from (parts l.text)

abbrev pub decreases-loop-word : goal.decreases-loop-word
decreases-loop-word l = length l.rest
