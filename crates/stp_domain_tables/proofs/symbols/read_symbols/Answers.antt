use Rattle.std.proofs.Common.{sym, drop, ◌+◌, arith}
use Rattle.stp_text.specs.Tree.{view, views}
use Rattle.stp_text.proofs.Items.{views_more}
use Rattle.stp_domain_tables.specs.Symbols.{symbol_read, symbols_read}
use Rattle.stp_domain_tables.specs.Views.{symbols_of}
use Rattle.stp_domain_tables.proofs.Going.{goes_next}
use Rattle.stp_domain_tables.proofs.symbols.read_symbols.Goals as goal

pub loop-item-preserved : goal.loop-item-preserved
loop-item-preserved c =
    let so_far = rw (views_more c.args.items.now c.loop-item.item-index c.item-item.result (omega arith) (sym c.item-item.is)) at c.loop-item.invariant.read in
    record {
      read = goes_next (symbol_read (symbols_of c.loop-item.names c.loop-item.rows) (view c.item-item.result)) (λ next. symbols_read next (views (drop (c.loop-item.item-index + 1) c.args.items.now))) _ so_far c.in_ok-read_symbol.ensures.read;
      named = c.in_ok-read_symbol.ensures.named c.loop-item.invariant.named;
    }
