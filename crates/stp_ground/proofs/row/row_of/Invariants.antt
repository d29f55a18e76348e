-- The truth values so far are those of the atoms so far.
use Rattle.std.proofs.Common.{◌≡◌}
use Rattle.stp_instance.specs.Numbered.{is_in}
use Rattle.stp_ground.proofs.Rows.{filled}
use Rattle.stp_ground.proofs.row.row_of.Given as goal

abbrev pub invariant-loop-number : goal.invariant-loop-number
invariant-loop-number l = l.row ≡ filled (is_in l.facts) l.table l.number
