use Rattle.std.proofs.Common.{refl}
use Rattle.stp_text.proofs.Equations.{view_items}
use Rattle.stp_domain_parts.proofs.problem.goal_in.Goals as goal

pub returns-in-None : goal.returns-in-None
returns-in-None c = rw (view_items, c.in-None.ensures) refl
