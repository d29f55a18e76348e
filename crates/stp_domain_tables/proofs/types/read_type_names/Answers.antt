use Rattle.std.proofs.Common.{◌≡◌, ◌<◌, ℕ, List, length, sym, subst, arith}
use Rattle.stp_text.specs.Tree.{views}
use Rattle.stp_text.proofs.Items.{views_end}
use Rattle.stp_domain_tables.specs.Types.{types_in}
use Rattle.stp_domain_tables.proofs.Numbering.{types_some}
use Rattle.stp_domain_tables.proofs.types.read_type_names.Goals as goal

pub returns-clause-some : goal.returns-clause-some
returns-clause-some c =
    let same : c.loop-item.names ≡ types_in (views c.args.items.now) = rw (views_end c.args.items.now c.loop-item.item-index (omega arith)) at c.loop-item.invariant.names in
    subst (λ (names : List (List ℕ)). 0 < length names) (sym same) (types_some (views c.args.items.now))
