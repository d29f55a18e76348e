use Rattle.std.proofs.Common.{◌≡◌, ◌++◌, map, drop}
use Rattle.stp_domain.specs.Placed.{placed_term}
use Rattle.stp_domain.proofs.placed.placed_terms.Given as goal

abbrev pub invariant-loop-term : goal.invariant-loop-term
invariant-loop-term l = l.out.items ++ map (placed_term l.places) (drop l.term-index l.terms) ≡ map (placed_term l.places) l.terms
