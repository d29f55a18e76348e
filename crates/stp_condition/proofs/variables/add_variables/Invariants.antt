use Rattle.std.proofs.Common.{◌≡◌, ◌++◌, drop}
use Rattle.stp_refusal.specs.Read.{Continues, map_read}
use Rattle.stp_domain_parts.specs.Entries.{plains}
use Rattle.stp_schema.specs.Rows.{type_names_of}
use Rattle.stp_condition.specs.Scope.{kinds_of}
use Rattle.stp_condition.specs.Variables.{typed_read}
use Rattle.stp_condition.proofs.variables.add_variables.Given as goal

abbrev pub invariant-loop-entry : goal.invariant-loop-entry
invariant-loop-entry l = record {
  kinds : Continues l.fn.first l.first l.kinds.items (map_read kinds_of (typed_read (type_names_of l.declared.types.now) (plains (drop l.entry-index l.entries)))) (map_read kinds_of (typed_read (type_names_of l.declared.types.now) (plains l.entries)));
  scope : l.scope ++ (typed_read (type_names_of l.declared.types.now) (plains (drop l.entry-index l.entries))).value ≡ l.fn.scope ++ (typed_read (type_names_of l.declared.types.now) (plains l.entries)).value;
}
