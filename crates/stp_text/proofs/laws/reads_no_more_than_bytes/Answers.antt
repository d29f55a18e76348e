use Rattle.stp_text.proofs.Spelling.{nodes_within}
use Rattle.stp_text.proofs.laws.reads_no_more_than_bytes.Goals as goal

pub returns : goal.returns
returns c = nodes_within
