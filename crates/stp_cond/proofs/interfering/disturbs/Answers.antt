use Rattle.stp_cond.proofs.Lawful.{adds_once, dels_once}
use Rattle.stp_cond.proofs.interfering.disturbs.Goals as goal

pub have_common-requires : goal.have_common-requires
have_common-requires c = adds_once c.args.other.now

pub have_common-requires-else-have_common : goal.have_common-requires-else-have_common
have_common-requires-else-have_common c = dels_once c.args.other.now

pub have_common-requires-else-have_common-2 : goal.have_common-requires-else-have_common-2
have_common-requires-else-have_common-2 c = dels_once c.args.other.now
