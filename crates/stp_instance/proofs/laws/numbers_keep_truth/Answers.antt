use Rattle.stp_instance.proofs.Truths.{numbers_so, folded_so}
use Rattle.stp_instance.proofs.laws.numbers_keep_truth.Goals as goal

pub returns : goal.returns
returns c = record { numbered = numbers_so; folded = folded_so }
