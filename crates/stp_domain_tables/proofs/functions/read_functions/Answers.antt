use Rattle.std.proofs.Common.{refl, map}
use Rattle.stp_text.specs.Tree.{views, view, trees_of}
use Rattle.stp_refusal.specs.Read.{map_read}
use Rattle.stp_refusal.proofs.Reading.{mapped}
use Rattle.stp_domain_tables.specs.Symbols.{no_symbols, symbols_read}
use Rattle.stp_domain_tables.specs.Functions.{no_groups, groups_read, with_kinds}
use Rattle.stp_domain_tables.specs.Views.{table_of}
use Rattle.stp_domain_tables.proofs.Going.{then_is}
use Rattle.stp_domain_tables.proofs.functions.read_functions.Goals as goal

pub returns : goal.returns
returns c =
    then_is (groups_read no_groups (views c.args.items.now)) (λ found. map_read (with_kinds found.kinds) (symbols_read no_symbols (trees_of found.lists))) c.in_ok-found.ensures
    (mapped (with_kinds (map view c.in_ok-found.found.kinds)) _ _ (table_of c.in_ok-symbols.symbols) _ (symbols_read no_symbols (views c.in_ok-found.found.lists)) refl (rw c.as_slice.ensures at c.in_ok-symbols.ensures))
