use Rattle.std.proofs.Common.{◌≡◌, drop, map}
use Rattle.stp_text.specs.Tree.{views}
use Rattle.stp_domain_tables.specs.Types.{with_types, types_in}
use Rattle.stp_domain_tables.proofs.types.read_type_names.Given as goal

abbrev pub invariant-loop-item : goal.invariant-loop-item
invariant-loop-item l = record {
  names : with_types l.names (views (drop l.item-index l.items)) ≡ types_in (views l.items);
  words : l.names ≡ map (λ w. w.now) l.words;
}
