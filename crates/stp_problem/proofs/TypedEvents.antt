-- The literals of events that are read without an offence fit what is declared.
use Rattle.std.proofs.Common.{◌≡◌, ℕ, Bool, true, false, not, cond, ◌&&◌, if◌then◌else◌, List, [], ◌∷◌, ◌++◌, map, Option, Some, None, refl}
use Rattle.std.specs.Ordering.{is_eq}
use Rattle.stp_text.specs.Tree.{Trees, NoMore, More}
use Rattle.stp_text.specs.Items.{place}
use Rattle.stp_refusal.specs.Read.{fine, given}
use Rattle.stp_refusal.proofs.Saying.{none_first, none_rest}
use Rattle.stp_frac.specs.Fractions.{Fraction, order_of}
use Rattle.stp_schema.specs.Known.{Known}
use Rattle.stp_schema.specs.Timed.{PlainLiteral}
use Rattle.stp_condition.specs.declared.atom.SymbolKind.TheVariants.{Predicate}
use Rattle.stp_tables.specs.Atoms.{Atom}
use Rattle.stp_problem.specs.Calls.{call_read}
use Rattle.stp_problem.specs.Written.{WrittenLiteral, literal_in, Telling, Other, Wrong, Event, written}
use Rattle.stp_problem.specs.TimedItems.{PlainTimedItem, literal_with, with_literal, called_read, literal_read, literals_read, item_with, written_read, timed_item_read, timed_items_read, timed_read}
use Rattle.stp_problem.specs.Events.{is_open, literals_at, event_at, open_event, open_items, events_of, times_read}
use Rattle.stp_problem.specs.Typed.{IsAtomTyped, AreLiteralsTyped, AreEventsTyped}
use Rattle.stp_problem.proofs.Typed.{call_typed}

module _ (k : Known) where
  -- ---- literals

  joined_typed : (ls ms : List PlainLiteral) → AreLiteralsTyped k ls → AreLiteralsTyped k ms → AreLiteralsTyped k (ls ++ ms)
  joined_typed [] ms h i = i
  joined_typed (l ∷ ls) ms h i = (h.0, joined_typed ls ms h.1 i)

  with_typed : (ls : List PlainLiteral) (adds : Bool) (atom : Option Atom) → AreLiteralsTyped k ls → ((a : Atom) → atom ≡ Some a → IsAtomTyped k k.predicates a.predicate a.args) → AreLiteralsTyped k (with_literal ls adds atom)
  with_typed ls adds None h f = h
  with_typed ls adds (Some a) h f = joined_typed ls (literal_with adds a ∷ []) h (f a refl, tt)

  literal_typed : (ls : List PlainLiteral) (l : Option WrittenLiteral) → AreLiteralsTyped k ls → (given (fine ls) (called_read k ls) l).offences ≡ [] → AreLiteralsTyped k (given (fine ls) (called_read k ls) l).value
  literal_typed ls None h none = h
  literal_typed ls (Some l) h none = with_typed ls l.adds (call_read Predicate k l.call).value h (λ a e. call_typed k Predicate l.call a e none)

  literals_typed : (ls : List PlainLiteral) (ts : Trees) → AreLiteralsTyped k ls → (literals_read k ls ts).offences ≡ [] → AreLiteralsTyped k (literals_read k ls ts).value
  literals_typed ls NoMore h none = h
  literals_typed ls (More t ts) h none =
      literals_typed (literal_read k ls t).value ts
      (literal_typed ls (literal_in t) h (none_first (literal_read k ls t).offences (literals_read k (literal_read k ls t).value ts).offences none))
      (none_rest (literal_read k ls t).offences (literals_read k (literal_read k ls t).value ts).offences none)

  -- ---- items

  abbrev AreItemsTyped : List PlainTimedItem → Type 0
  AreItemsTyped [] = Unit {0}
  AreItemsTyped (i ∷ is) = AreLiteralsTyped k i.literals × AreItemsTyped is

  more_items : (is : List PlainTimedItem) (i : PlainTimedItem) → AreItemsTyped is → AreLiteralsTyped k i.literals → AreItemsTyped (is ++ i ∷ [])
  more_items [] i h l = (l, tt)
  more_items (j ∷ is) i h l = (h.0, more_items is i h.1 l)

  telling_typed : (at : ℕ) (is : List PlainTimedItem) (t : Telling) → AreItemsTyped is → (written_read k at is t).offences ≡ [] → AreItemsTyped (written_read k at is t).value
  telling_typed at is Other h none = h
  telling_typed at is (Wrong code) h none = h
  telling_typed at is (Event low high literals) h none = more_items is (item_with at low high (literals_read k [] literals).value) h (literals_typed [] literals tt none)

  items_typed : (is : List PlainTimedItem) (ts : Trees) → AreItemsTyped is → (timed_items_read k is ts).offences ≡ [] → AreItemsTyped (timed_items_read k is ts).value
  items_typed is NoMore h none = h
  items_typed is (More t ts) h none =
      items_typed (timed_item_read k is t).value ts
      (telling_typed (place t) is (written t) h (none_first (timed_item_read k is t).offences (timed_items_read k (timed_item_read k is t).value ts).offences none))
      (none_rest (timed_item_read k is t).offences (timed_items_read k (timed_item_read k is t).value ts).offences none)

  -- ---- events

  one_by : (b : Bool) (ls ms : List PlainLiteral) → AreLiteralsTyped k ls → AreLiteralsTyped k ms → AreLiteralsTyped k ((if b then ls else []) ++ ms)
  one_by true ls ms h i = joined_typed ls ms h i
  one_by false ls ms h i = i

  at_typed : (time : Fraction) (is : List PlainTimedItem) → AreItemsTyped is → AreLiteralsTyped k (literals_at time is)
  at_typed time [] h = tt
  at_typed time (i ∷ is) h = one_by (not (is_open i) && is_eq (order_of i.low time)) i.literals (literals_at time is) h.0 (at_typed time is h.1)

  open_by : (b : Bool) (i : PlainTimedItem) (is : List PlainTimedItem) → AreLiteralsTyped k i.literals → AreEventsTyped k (map open_event is) → AreEventsTyped k (map open_event (cond b (i ∷ is) is))
  open_by true i is h r = (h, r)
  open_by false i is h r = r

  opens_typed : (is : List PlainTimedItem) → AreItemsTyped is → AreEventsTyped k (map open_event (open_items is))
  opens_typed [] h = tt
  opens_typed (i ∷ is) h = open_by (is_open i) i (open_items is) h.0 (opens_typed is h.1)

  events_typed : (is : List PlainTimedItem) (times : List Fraction) → AreItemsTyped is → AreEventsTyped k (map (event_at is) times ++ map open_event (open_items is))
  events_typed is [] h = opens_typed is h
  events_typed is (t ∷ ts) h = (at_typed t is h, events_typed is ts h)

  pub timed_typed : (ts : Trees) → (timed_read k ts).offences ≡ [] → AreEventsTyped k (events_of (timed_read k ts).value)
  timed_typed ts none = events_typed (timed_read k ts).value (times_read (timed_read k ts).value).value (items_typed [] ts tt none)
