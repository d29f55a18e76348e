use Rattle.std.proofs.Common.{◌≡◌, ◌++◌, map, drop}
use Rattle.stp_schema.specs.Formula.{formula}
use Rattle.stp_domain.specs.Placed.{placed}
use Rattle.stp_domain.proofs.placed.+placed.Given as goal

abbrev pub invariant-placed_all-loop-member : goal.invariant-placed_all-loop-member
invariant-placed_all-loop-member l = map formula l.out.items ++ map (λ c. placed l.places (formula c)) (drop l.member-index l.members) ≡ map (λ c. placed l.places (formula c)) l.members
