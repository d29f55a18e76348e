use Rattle.stp_frac.proofs.Reading.{printed_numbers_are_read_again}
use Rattle.stp_frac.proofs.laws.reading_after_printing.Goals as goal

pub returns : goal.returns
returns c = printed_numbers_are_read_again
