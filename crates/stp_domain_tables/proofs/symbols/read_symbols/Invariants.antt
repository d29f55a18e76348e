use Rattle.std.proofs.Common.{◌≡◌, drop}
use Rattle.stp_text.specs.Tree.{views}
use Rattle.stp_domain_parts.specs.Then.{Goes}
use Rattle.stp_domain_tables.specs.Symbols.{no_symbols, symbols_read}
use Rattle.stp_domain_tables.specs.Views.{symbols_of}
use Rattle.stp_domain_tables.specs.Named.{names_of}
use Rattle.stp_domain_tables.proofs.symbols.read_symbols.Given as goal

abbrev pub invariant-loop-item : goal.invariant-loop-item
invariant-loop-item l = record {
  read : Goes l.fn.first l.first (symbols_read (symbols_of l.names l.rows) (views (drop l.item-index l.items))) (symbols_read no_symbols (views l.items));
  named : l.names ≡ names_of l.rows;
}
