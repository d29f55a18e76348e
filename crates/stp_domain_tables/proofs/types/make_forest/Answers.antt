use Rattle.std.proofs.Common.{◌≡◌, List, ℕ, subst, sym, rules, arith}
use Rattle.std.proofs.lemmas.Grind.{common_steps}
use Rattle.std.specs.Prelude.{replicate}
use Rattle.stp_types.specs.Forest.{IsForest}
use Rattle.stp_domain_tables.proofs.Numbering.{zeros_forest, no_loops_forest}
use Rattle.stp_domain_tables.proofs.types.make_forest.Goals as goal

pub returns-then-has_mark-clause-forest : goal.returns-then-has_mark-clause-forest
returns-then-has_mark-clause-forest c =
    let flat : c.in_ok-flat.flat.items ≡ replicate c.len.result 0 = first_of (search rules, grind (arith, common_steps)) in
    subst (λ (ps : List ℕ). IsForest ps) (sym flat) (zeros_forest c.len.result)

pub returns-clause-forest : goal.returns-clause-forest
returns-clause-forest c = no_loops_forest c.args.parents.items (sym (c.if-has_mark.ensures c.args.parents.items c.requires.marks)) c.requires.table
