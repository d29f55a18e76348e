use Rattle.std.proofs.Common.{◌∙◌, length}
use Rattle.stp_cond.specs.Truth.{state_of_row}
use Rattle.stp_happen.specs.Plain.{state_after}
use Rattle.stp_strength.specs.Views.{late_entries}
use Rattle.stp_strength.proofs.Values.{truth_below}
use Rattle.stp_strength.proofs.states.holds_after.Goals as goal

pub returns : goal.returns
returns c =
    c.holds.ensures
    ∙ truth_below (length c.args.initial.now) (state_of_row c.in_ok-row.row) (state_after (state_of_row c.args.initial.now) (late_entries c.args.windows.now)) c.args.cond.now c.requires (λ a l. c.in_ok-row.ensures.state a l)
