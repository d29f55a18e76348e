use Rattle.std.proofs.Common.{rules}
use Rattle.std.proofs.lemmas.List.Sorted.{IsNonDecreasingBy-from_sort_by_key}
use Rattle.stp_problem.proofs.Left.{all_left}
use Rattle.stp_problem.proofs.rung.rungs.Goals as goal

pub returns : goal.returns
returns c = all_left c.args.ancestries.now c.in_ok-rungs.rungs.items c.sort_unstable_by_key.new.self.items c.requires c.in_ok-rungs.ensures.rungs c.in_ok-rungs.ensures.once c.in_ok-rungs.ensures.complete c.sort_unstable_by_key.ensures.permutation
    (IsNonDecreasingBy-from_sort_by_key (λ r. r.depth) _ c.sort_unstable_by_key.ensures.sorted (λ a r q k. search rules))
