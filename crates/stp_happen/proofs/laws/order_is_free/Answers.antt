use Rattle.stp_happen.proofs.Alike.{order_is_free}
use Rattle.stp_happen.proofs.laws.order_is_free.Goals as goal

pub returns : goal.returns
returns c = order_is_free
