use Rattle.std.proofs.Common.{subst, sym}
use Rattle.stp_exec.proofs.Lawful.{IsLawfulAnswer, lawful_answer, chosen_lawful}
use Rattle.stp_exec.proofs.held.hold.Goals as goal

pub returns-in-Controlled-clause-lawful : goal.returns-in-Controlled-clause-lawful
returns-in-Controlled-clause-lawful c = λ h.
    lawful_answer c.hold_as_chosen.result
    (subst IsLawfulAnswer (sym c.hold_as_chosen.ensures) (chosen_lawful c.in-Controlled.low c.in-Controlled.high c.args.bracket.now (rw c.in-Controlled.is at h)))
