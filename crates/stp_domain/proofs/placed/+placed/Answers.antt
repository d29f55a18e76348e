use Rattle.stp_domain.proofs.Members.{and_placed, or_placed}
use Rattle.stp_domain.proofs.placed.+placed.Goals as goal

pub placed-returns-in_ok-members-in-And : goal.placed-returns-in_ok-members-in-And
placed-returns-in_ok-members-in-And t c = rw c.in-And.is (and_placed c.args.places.now c.in-And.members c.in_ok-members-in-And.members c.in_ok-members-in-And.ensures)

pub placed-returns-in_ok-members-in-Or : goal.placed-returns-in_ok-members-in-Or
placed-returns-in_ok-members-in-Or t c = rw c.in-Or.is (or_placed c.args.places.now c.in-Or.members c.in_ok-members-in-Or.members c.in_ok-members-in-Or.ensures)
