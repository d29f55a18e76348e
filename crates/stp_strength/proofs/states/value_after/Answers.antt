use Rattle.std.proofs.Common.{◌∙◌, sym}
use Rattle.stp_cond.specs.Truth.{state_of_row}
use Rattle.stp_strength.proofs.Values.{value_written, value_initial}
use Rattle.stp_strength.proofs.states.value_after.Goals as goal

pub returns-then-is_written : goal.returns-then-is_written
returns-then-is_written c = c.is_added_last.ensures ∙ sym (value_written (state_of_row c.args.initial.now) c.args.windows.now c.args.atom.0 (sym c.is_written.ensures ∙ c.if-is_written.true))

pub returns-else-is_written : goal.returns-else-is_written
returns-else-is_written c = c.get.ensures ∙ sym (value_initial (state_of_row c.args.initial.now) c.args.windows.now c.args.atom.0 (sym c.is_written.ensures ∙ c.if-is_written.false))
