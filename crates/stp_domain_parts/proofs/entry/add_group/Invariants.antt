use Rattle.std.proofs.Common.{◌≡◌, ◌++◌, drop}
use Rattle.stp_domain_parts.specs.Entries.{plains, with_kind, kind_view}
use Rattle.stp_domain_parts.proofs.entry.add_group.Given as goal

abbrev pub invariant-loop-entry : goal.invariant-loop-entry
invariant-loop-entry l = plains l.out ++ with_kind (kind_view l.kind) (plains (drop l.entry-index l.group)) ≡ plains l.fn.out ++ with_kind (kind_view l.kind) (plains l.group)
