use Rattle.std.proofs.Common.{refl}
use Rattle.stp_refusal.proofs.Reading.{paired}
use Rattle.stp_domain.specs.Bodies.{simple_body}
use Rattle.stp_domain.proofs.body.read_simple.Goals as goal

pub returns : goal.returns
returns c = paired simple_body _ _ _ _ _ _ _ _ (rw (c.nothing_needed.ensures, c.nothing_needed-2.ensures, c.nothing_changed.ensures) refl) c.in_ok-needs.ensures.value (rw c.in_ok-needs.ensures.kept at c.in_ok-changes.ensures)
