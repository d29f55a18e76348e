use Rattle.stp_text.proofs.Spelling.{spelled, read_spelled}
use Rattle.stp_text.proofs.laws.reads_what_is_spelled.Goals as goal

pub returns-clause-spelled : goal.returns-clause-spelled
returns-clause-spelled c = spelled

pub returns-clause-read : goal.returns-clause-read
returns-clause-read c = read_spelled
