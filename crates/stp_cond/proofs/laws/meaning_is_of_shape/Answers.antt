use Rattle.stp_cond.proofs.Shapes.{truth_is_of_shape, reads_are_of_shape}
use Rattle.stp_cond.proofs.laws.meaning_is_of_shape.Goals as goal

pub returns-clause-truth : goal.returns-clause-truth
returns-clause-truth c = truth_is_of_shape

pub returns-clause-reads : goal.returns-clause-reads
returns-clause-reads c = reads_are_of_shape
