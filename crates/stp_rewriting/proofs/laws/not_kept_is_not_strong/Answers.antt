use Rattle.stp_rewriting.proofs.Boxes.{not_kept_is_not_strong}
use Rattle.stp_rewriting.proofs.laws.not_kept_is_not_strong.Goals as goal

pub returns : goal.returns
returns c = not_kept_is_not_strong
