use Rattle.stp_text.proofs.Least.{tree_gives_least, tokens_give_least}
use Rattle.stp_text.proofs.laws.gives_the_least_offence.Goals as goal

pub returns-clause-tree : goal.returns-clause-tree
returns-clause-tree c = tree_gives_least

pub returns-clause-tokens : goal.returns-clause-tokens
returns-clause-tokens c = tokens_give_least
