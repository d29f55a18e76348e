use Rattle.std.proofs.Common.{◌*◌, nat_lt, sym, ap, ◌∙◌, arith}
use Rattle.stp_exec.specs.declared.moments.Moments.{Moments}
use Rattle.stp_exec.specs.Timed.{plain_timed}
use Rattle.stp_exec.proofs.Bounds.{late_moments}
use Rattle.stp_exec.proofs.late.is_late.Goals as goal

pub returns : goal.returns
returns c =
    ap (λ (m : Moments). nat_lt (999999999 * c.args.grid) m.high) c.moments_on.ensures.value
    ∙ sym (late_moments c.args.grid (plain_timed c.args.step.now) (omega (arith, c.requires.low)) c.requires.lies)
