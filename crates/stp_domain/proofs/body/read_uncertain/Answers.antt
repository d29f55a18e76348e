use Rattle.stp_refusal.proofs.Reading.{mapped, paired}
use Rattle.stp_domain.specs.Bodies.{suffered_timing, durative_body}
use Rattle.stp_domain.proofs.body.read_uncertain.Goals as goal

pub returns : goal.returns
returns c = paired durative_body _ _ _ _ _ _ _ _ c.durative.ensures (mapped suffered_timing _ _ _ _ _ c.in_ok-timing.ensures c.in_ok-bounds.ensures) c.in_ok-parts.ensures
