use Rattle.stp_cond.proofs.Lawful.{adds_once}
use Rattle.stp_window.proofs.writing.adds.Goals as goal

pub is_among-requires : goal.is_among-requires
is_among-requires c = adds_once c.args.event.now
