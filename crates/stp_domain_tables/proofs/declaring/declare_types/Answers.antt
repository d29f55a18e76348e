use Rattle.std.proofs.Common.{List, ℕ, subst, sym}
use Rattle.stp_types.specs.Forest.{IsForest}
use Rattle.stp_domain_tables.proofs.declaring.declare_types.Goals as goal

pub ancestries-requires-clause-forest : goal.ancestries-requires-clause-forest
ancestries-requires-clause-forest c = subst (λ (ps : List ℕ). IsForest ps) (sym c.as_slice-6.ensures.value) c.in_ok-forest.ensures.forest
