use Rattle.std.proofs.Common.{refl}
use Rattle.stp_refusal.proofs.Reading.{paired}
use Rattle.stp_domain.specs.Bodies.{parts_with}
use Rattle.stp_domain.proofs.body.read_parts.Goals as goal

pub returns : goal.returns
returns c = paired parts_with _ _ _ _ _ _ _ _ refl c.in_ok-conditions.ensures.value (rw c.in_ok-conditions.ensures.kept at c.in_ok-effects.ensures)
