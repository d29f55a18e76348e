use Rattle.stp_cond.proofs.Lawful.{dels_once}
use Rattle.stp_window.proofs.writing.deletes.Goals as goal

pub is_among-requires : goal.is_among-requires
is_among-requires c = dels_once c.args.event.now
