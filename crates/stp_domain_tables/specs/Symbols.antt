-- Predicates and functions.
use Rattle.std.specs.Prelude.{ℕ, true, if◌then◌else◌, List, [], ◌∷◌, ◌++◌}
use Rattle.stp_text.specs.Tree.{Tree, Trees, NoMore, More}
use Rattle.stp_text.specs.Items.{place}
use Rattle.stp_refusal.specs.declared.code.Code.TheVariants.{D10}
use Rattle.stp_refusal.specs.Read.{Read, fine, bad, given, map_read}
use Rattle.stp_tables.specs.Names.{is_new_in, with_name}
use Rattle.stp_domain_parts.specs.Entries.{Plain}
use Rattle.stp_domain_parts.specs.Then.{then_read}
use Rattle.stp_domain_tables.specs.Heads.{Head, head_of}
use Rattle.stp_domain_tables.specs.Parameters.{parameters_read}

-- a name, and the entries of its list of parameters
pub record Signature : Type 0 where
  pub name : List ℕ
  pub parameters : List Plain

-- what was declared so far, each name once
pub record Symbols : Type 0 where
  pub names : List (List ℕ)
  pub rows : List Signature

abbrev pub no_symbols : Symbols
no_symbols = record { names = []; rows = [] }

-- a row more, unless it repeats a name
abbrev pub with_row : {A : Type 0} → List (List ℕ) → List ℕ → List A → A → List A
with_row names name rows row = if is_new_in names name then rows ++ row ∷ [] else rows

abbrev pub with_symbol : Symbols → List ℕ → List Plain → Symbols
with_symbol found name parameters = record {
  names = with_name found.names name;
  rows = with_row found.names name found.rows (record { name = name; parameters = parameters });
}

abbrev pub signature_read : Symbols → Head → Read Symbols
signature_read found head = map_read (with_symbol found head.name) (parameters_read true found.names head)

-- what is declared once this item is read
abbrev pub symbol_read : Symbols → Tree → Read Symbols
symbol_read found tree = given (bad (place tree) D10 found) (signature_read found) (head_of tree)

-- what is declared once these items are read
abbrev pub symbols_read : Symbols → Trees → Read Symbols
symbols_read found NoMore = fine found
symbols_read found (More t ts) = then_read (symbol_read found t) (λ next. symbols_read next ts)
