use Rattle.stp_types.proofs.Deciding.{below_from_test, test_from_below, own_from_test, test_from_own}
use Rattle.stp_types.proofs.laws.tests_are_relations.Goals as goal

pub returns : goal.returns
returns c = record {
  below = λ p k other t there. (below_from_test p k other, test_from_below p k other t there);
  own_ancestor = λ p k t there. (own_from_test p k, test_from_own p k t there);
}
