use Rattle.std.proofs.Common.{[], ◌∷◌, ap, ◌∙◌, codes}
use Rattle.stp_text.specs.Tree.{views}
use Rattle.stp_refusal.proofs.Reading.{also_is}
use Rattle.stp_tables.specs.Names.{with_name}
use Rattle.stp_domain_parts.specs.Entries.{plains}
use Rattle.stp_domain_tables.specs.Declarations.{names_read, parents_wrong}
use Rattle.stp_domain_tables.proofs.declarations.read_types.Goals as goal

pub returns : goal.returns
returns c =
    let seen = c.in_ok-add.ensures.names ∙ ap (with_name c.new-seen.result) c.as_slice.ensures ∙ ap (λ names. with_name names (codes "object")) c.new-seen.ensures in
    also_is parents_wrong _ _ _ (plains c.in_ok-entries.entries) (names_read (codes "object" ∷ []) (views c.args.items.now)) (rw seen at c.in_ok-entries.ensures) (rw c.as_slice-2.ensures at c.judge_parents.ensures)
