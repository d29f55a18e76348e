use Rattle.std.proofs.Common.{◌≡◌, ℕ, List, drop, get_or, length, ◌+◌, ap, sym, ◌∙◌, subst, arith}
use Rattle.std.proofs.lemmas.List.{drop_all}
use Rattle.stp_types.specs.Forest.{IsTable}
use Rattle.stp_domain_parts.specs.Entries.{plain, plains}
use Rattle.stp_domain_tables.specs.Types.{with_parents, parents_in}
use Rattle.stp_domain_tables.proofs.Numbering.{parent_length, parents_table}
use Rattle.stp_domain_tables.proofs.Slices.{no_entry, map_drop}
use Rattle.stp_domain_tables.proofs.types.read_parents.Goals as goal

pub loop-entry-preserved : goal.loop-entry-preserved
loop-entry-preserved c =
    let entry = get_or c.args.entries.now c.loop-entry.entry-index no_entry in
    record {
      len = ap length c.keep_parent.ensures ∙ parent_length c.args.types.now c.loop-entry.parents.items (plain entry) ∙ c.loop-entry.invariant.len;
      same =
          ap (λ parents. with_parents c.args.types.now parents (plains (drop (c.loop-entry.entry-index + 1) c.args.entries.now))) c.keep_parent.ensures
          ∙ (rw (map_drop plain c.args.entries.now c.loop-entry.entry-index no_entry (omega arith)) at c.loop-entry.invariant.same);
    }

pub returns-clause-table : goal.returns-clause-table
returns-clause-table c =
    let none = drop_all c.loop-entry.entry-index c.args.entries.now (omega arith) in
    let same : c.loop-entry.parents.items ≡ parents_in c.args.types.now (plains c.args.entries.now) = rw none at c.loop-entry.invariant.same in
    subst (λ (ps : List ℕ). IsTable ps) (sym same) (parents_table c.args.types.now (plains c.args.entries.now) c.requires)
