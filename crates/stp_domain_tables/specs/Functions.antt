-- The items of `:functions`: lists in groups, each group with the type that stands behind it.
use Rattle.std.specs.Prelude.{ℕ, Bool, true, false, ◌&&◌, if◌then◌else◌, List, [], ◌∷◌, ◌++◌, Option, Some, None}
use Rattle.stp_text.specs.Tree.{Tree, Trees, Word, Node, NoMore, More, trees_of}
use Rattle.stp_refusal.specs.declared.code.Code.TheVariants.{D10}
use Rattle.stp_refusal.specs.Read.{Read, fine, bad, map_read}
use Rattle.stp_domain_parts.specs.Entries.{is_dash, dash_left}
use Rattle.stp_domain_parts.specs.Judged.{shape_wrong}
use Rattle.stp_domain_parts.specs.Then.{then_read}
use Rattle.stp_domain_tables.specs.Symbols.{Symbols, no_symbols, symbols_read}

-- The lists so far, the types of their groups, whether a group has no type yet, and the place of a `-` that has no type yet.
pub record Groups : Type 0 where
  pub lists : List Tree
  pub kinds : List Tree
  pub waiting : Bool
  pub dash : Option ℕ

abbrev pub no_groups : Groups
no_groups = record { lists = []; kinds = []; waiting = false; dash = None }

abbrev pub with_list : Groups → Tree → Groups
with_list found t = record { lists = found.lists ++ t ∷ []; kinds = found.kinds; waiting = true; dash = None }

abbrev pub with_kind : Groups → Tree → Groups
with_kind found t = record { lists = found.lists; kinds = found.kinds ++ t ∷ []; waiting = false; dash = None }

abbrev pub with_dash : Groups → ℕ → Groups
with_dash found at = record { lists = found.lists; kinds = found.kinds; waiting = found.waiting; dash = Some at }

-- an item behind a `-` or not
abbrev pub item_read : Groups → Option ℕ → Tree → Read Groups
item_read found (Some dash) t = record { offences = shape_wrong t; value = with_kind found t }
item_read found None (Node at items) = fine (with_list found (Node at items))
item_read found None (Word at text) = if is_dash text && found.waiting then fine (with_dash found at) else bad at D10 found

-- the groups once these items are read
abbrev pub groups_read : Groups → Trees → Read Groups
groups_read found NoMore = record { offences = dash_left D10 found.dash; value = found }
groups_read found (More t ts) = then_read (item_read found found.dash t) (λ next. groups_read next ts)

-- functions, and the types behind them
pub record Functions : Type 0 where
  pub symbols : Symbols
  pub kinds : List Tree

abbrev pub with_kinds : List Tree → Symbols → Functions
with_kinds kinds symbols = record { symbols = symbols; kinds = kinds }

abbrev pub functions_read : Trees → Read Functions
functions_read items = then_read (groups_read no_groups items) (λ found. map_read (with_kinds found.kinds) (symbols_read no_symbols (trees_of found.lists)))
