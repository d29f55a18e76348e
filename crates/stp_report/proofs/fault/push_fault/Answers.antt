use Rattle.std.proofs.Common.{◌++◌, ap, ◌∙◌, append_assoc, codes}
use Rattle.stp_report.specs.Texts.{at_steps}
use Rattle.stp_report.proofs.fault.push_fault.Goals as goal

pub returns-in_ok-push_at_steps-in-Interference : goal.returns-in_ok-push_at_steps-in-Interference
returns-in_ok-push_at_steps-in-Interference c =
    let steps = at_steps c.args.grid c.in-Interference.time c.in-Interference.first.0 c.in-Interference.second.0 in
    rw c.in-Interference.is
    (c.in_ok-push_at_steps-in-Interference.ensures
    ∙ (ap (λ text. text ++ steps) c.in_ok-push_words-in-Interference.ensures
    ∙ append_assoc c.args.out.now (codes "interference") steps))
