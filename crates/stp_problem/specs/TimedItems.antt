-- What the items of `:init` tell of events of the environment.
use Rattle.std.specs.Prelude.{ℕ, Bool, List, [], ◌∷◌, ◌++◌, Option, Some, None}
use Rattle.stp_text.specs.Tree.{Tree, Trees, NoMore, More}
use Rattle.stp_text.specs.Items.{place}
use Rattle.stp_refusal.specs.Read.{Read, fine, bad, given, map_read}
use Rattle.stp_domain_parts.specs.Then.{then_read}
use Rattle.stp_frac.specs.Fractions.{Fraction}
use Rattle.stp_schema.specs.Known.{Known}
use Rattle.stp_schema.specs.Timed.{PlainLiteral}
use Rattle.stp_condition.specs.declared.atom.SymbolKind.TheVariants.{Predicate}
use Rattle.stp_tables.specs.Atoms.{Atom}
use Rattle.stp_problem.specs.Calls.{call_read}
use Rattle.stp_problem.specs.Written.{WrittenLiteral, literal_in, Telling, Other, Wrong, Event, written}

-- an item at a place, the least and the greatest time of its event, and its literals
pub record PlainTimedItem : Type 0 where
  pub at : ℕ
  pub low : Fraction
  pub high : Fraction
  pub literals : List PlainLiteral

-- ---- literals

abbrev pub literal_with : Bool → Atom → PlainLiteral
literal_with adds atom = record { adds = adds; predicate = atom.predicate; args = atom.args }

abbrev pub with_literal : List PlainLiteral → Bool → Option Atom → List PlainLiteral
with_literal literals adds None = literals
with_literal literals adds (Some atom) = literals ++ literal_with adds atom ∷ []

abbrev pub called_read : Known → List PlainLiteral → WrittenLiteral → Read (List PlainLiteral)
called_read k literals l = map_read (with_literal literals l.adds) (call_read Predicate k l.call)

-- these literals, and what one more says
abbrev pub literal_read : Known → List PlainLiteral → Tree → Read (List PlainLiteral)
literal_read k literals tree = given (fine literals) (called_read k literals) (literal_in tree)

abbrev pub literals_read : Known → List PlainLiteral → Trees → Read (List PlainLiteral)
literals_read k literals NoMore = fine literals
literals_read k literals (More t ts) = then_read (literal_read k literals t) (λ more. literals_read k more ts)

-- ---- items

abbrev pub item_with : ℕ → Fraction → Fraction → List PlainLiteral → PlainTimedItem
item_with at low high literals = record { at = at; low = low; high = high; literals = literals }

abbrev pub with_item : List PlainTimedItem → ℕ → Fraction → Fraction → List PlainLiteral → List PlainTimedItem
with_item items at low high literals = items ++ item_with at low high literals ∷ []

-- these items, and what is written at a place
abbrev pub written_read : Known → ℕ → List PlainTimedItem → Telling → Read (List PlainTimedItem)
written_read k at items Other = fine items
written_read k at items (Wrong code) = bad at code items
written_read k at items (Event low high literals) = map_read (with_item items at low high) (literals_read k [] literals)

abbrev pub timed_item_read : Known → List PlainTimedItem → Tree → Read (List PlainTimedItem)
timed_item_read k items tree = written_read k (place tree) items (written tree)

abbrev pub timed_items_read : Known → List PlainTimedItem → Trees → Read (List PlainTimedItem)
timed_items_read k items NoMore = fine items
timed_items_read k items (More t ts) = then_read (timed_item_read k items t) (λ more. timed_items_read k more ts)

-- the events that the items of `:init` tell, in the order of the text
abbrev pub timed_read : Known → Trees → Read (List PlainTimedItem)
timed_read k items = timed_items_read k [] items
