use Rattle.stp_domain_parts.proofs.TypedLists.{written_read}
use Rattle.stp_domain_parts.proofs.laws.written_lists_are_read.Goals as goal

pub returns : goal.returns
returns c = written_read
