use Rattle.std.proofs.Common.{◌≡◌, map, take}
use Rattle.stp_schema.specs.Rows.{type_names_of, parents_of}
use Rattle.stp_domain_tables.proofs.rows.type_rows.Given as goal

abbrev pub invariant-loop-number : goal.invariant-loop-number
invariant-loop-number l = record {
  names : type_names_of l.rows.items ≡ map (λ w. w.now) (take l.number l.words);
  parents : parents_of l.rows.items ≡ take l.number l.parents;
}
