-- Events of the environment as they are written.
use Rattle.std.specs.Prelude.{ℕ, Bool, true, false, if◌then◌else◌, List, Option, Some, is_some, option_map, bytes_eq, codes}
use Rattle.std.specs.Option.{option_or, unwrap_or}
use Rattle.stp_text.specs.Tree.{Tree, Trees, NoMore, More}
use Rattle.stp_text.specs.Items.{first_of, only, items_of, keyed, when}
use Rattle.stp_base.specs.Options.{◌>>=◌}
use Rattle.stp_refusal.specs.declared.code.Code.{Code}
use Rattle.stp_refusal.specs.declared.code.Code.TheVariants.{P12, P16}
use Rattle.stp_refusal.specs.Read.{given}
use Rattle.stp_frac.specs.Fractions.{Fraction}
use Rattle.stp_condition.specs.declared.key.Key.{Key}
use Rattle.stp_condition.specs.declared.key.Key.TheVariants as keys
use Rattle.stp_condition.specs.Keys.{key_of}
use Rattle.stp_problem.specs.Calls.{Call, call_of}
use Rattle.stp_problem.specs.Windows.{window_in}

-- ---- literals

-- an atom, and whether it is added or deleted
pub record WrittenLiteral : Type 0 where
  pub adds : Bool
  pub call : Call

abbrev pub written_literal : Bool → Call → WrittenLiteral
written_literal adds call = record { adds = adds; call = call }

-- the atom in `(not ATOM)`, behind its first word
abbrev pub denied_part : Trees → Option Call
denied_part items = do
  item ← only items
  call_of item

-- a list that begins with a word of this key, with the items behind it
abbrev pub literal_by : Key → Trees → Tree → Option WrittenLiteral
literal_by keys.Not items tree = option_map (written_literal false) (denied_part items)
literal_by key items tree = option_map (written_literal true) (call_of tree)

-- `ATOM` or `(not ATOM)`
abbrev pub literal_in : Tree → Option WrittenLiteral
literal_in tree = do
  list ← keyed tree
  literal_by (key_of list.0) list.1 tree

-- whether all items are literals
abbrev pub are_literals : Trees → Bool
are_literals NoMore = true
are_literals (More t ts) = if is_some (literal_in t) then are_literals ts else false

abbrev pub literals_in : Trees → Option Trees
literals_in items = when (are_literals items) items

-- whether a word is `and`
abbrev pub is_and : Key → Bool
is_and keys.And = true
is_and key = false

-- the literals of the one item `(and LITERAL*)`
abbrev pub joined_in : Trees → Option Trees
joined_in items = do
  item ← only items
  list ← keyed item
  parts ← when (is_and (key_of list.0)) list.1
  literals_in parts

-- the literals of one item, which is a literal or `(and LITERAL*)`
abbrev pub effect_in : Trees → Option Trees
effect_in items = option_or (literals_in items) (joined_in items)

-- ---- events

-- no event; one that is wrong in this way; or an event, when it comes, and its literals
pub data Telling : Type 0 where
  Other : Telling
  Wrong : (code : Code) → Telling
  Event : (low high : Fraction) → (literals : Trees) → Telling

-- what is written with two bounds and these literals
abbrev pub told : Option (Fraction × Fraction) → Option Trees → Option Telling
told window literals = do
  times ← window
  items ← literals
  Some (Event times.0 times.1 items)

-- the time in `(at TIME LIST)`, behind its first word, and the list as one item
abbrev pub timed_parts : Trees → Option (Tree × Trees)
timed_parts items = do
  first ← first_of items
  last ← only first.1
  inner ← items_of last
  Some first

-- the bounds in `(between LOW HIGH LIST)`, behind its first word, and the list as one item
abbrev pub window_parts : Trees → Option (Tree × Tree × Trees)
window_parts items = do
  first ← first_of items
  parts ← timed_parts first.1
  Some (first.0, parts.0, parts.1)

abbrev pub timed_written : Tree × Trees → Telling
timed_written parts = unwrap_or (told (window_in parts.0 parts.0) (literals_in parts.1)) (Wrong P12)

abbrev pub window_written : Tree × Tree × Trees → Telling
window_written parts = unwrap_or (told (window_in parts.0 parts.1) (effect_in parts.2)) (Wrong P16)

-- a list that begins with this word, with the items behind it
abbrev pub list_written : List ℕ → Trees → Telling
list_written name items =
    if bytes_eq name (codes "at") then given Other timed_written (timed_parts items)
    else if bytes_eq name (codes "between") then given Other window_written (window_parts items)
    else Other

-- what an item of `:init` tells of an event
abbrev pub written : Tree → Telling
written tree = given Other (λ list. list_written list.0 list.1) (keyed tree)
