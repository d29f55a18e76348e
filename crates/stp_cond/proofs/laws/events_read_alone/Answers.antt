use Rattle.stp_cond.proofs.ReadingAlone.{events_read_alone}
use Rattle.stp_cond.proofs.laws.events_read_alone.Goals as goal

pub returns : goal.returns
returns c = events_read_alone
