use Rattle.std.proofs.Common.{arith, []}
use Rattle.std.proofs.lemmas.List.{map-append}
use Rattle.stp_base.proofs.Mapped.{mapped_next, mapped_done}
use Rattle.stp_refusal.proofs.Reading.{continues_next, continues_done}
use Rattle.stp_domain_tables.specs.ActionRows.{action_shape_of}
use Rattle.stp_domain_tables.specs.declared.action_row.ActionRow.{ActionRow}
use Rattle.stp_domain_tables.proofs.Slices.{no_parts, map_drop}
use Rattle.stp_domain.proofs.Lists.{mapped_past}
use Rattle.stp_domain.proofs.schemas.read_schemas.Goals as goal

-- what a place past the end is read as
abbrev no_row : ActionRow
no_row = record { action = no_parts; names = record { ref_ptr = (0, 0); now = [] }; kinds = record { ref_ptr = (0, 0); now = [] } }

pub loop-row-preserved : goal.loop-row-preserved
loop-row-preserved c = record {
  value = rw (c.in_ok-push.ensures.items, map-append)
      (continues_next (rw (map_drop action_shape_of c.args.rows.now c.loop-row.row-index no_row (omega arith)) at c.loop-row.invariant.value) c.in_ok-schema.ensures.value);
  names = rw c.in_ok-push.ensures.items
      (mapped_next (λ s. s.name.now) (λ a. a.action.name.now) _ _ c.args.rows.now c.loop-row.row-index no_row (omega arith) c.in_ok-schema.ensures.name c.loop-row.invariant.names);
}

pub returns-clause-value : goal.returns-clause-value
returns-clause-value c = rw c.into_bump_slice.ensures (continues_done (rw (mapped_past action_shape_of c.args.rows.now c.loop-row.row-index (omega arith)) at c.loop-row.invariant.value))

pub returns-clause-names : goal.returns-clause-names
returns-clause-names c = rw c.into_bump_slice.ensures (mapped_done (λ s. s.name.now) (λ a. a.action.name.now) _ c.args.rows.now c.loop-row.row-index (omega arith) c.loop-row.invariant.names)
