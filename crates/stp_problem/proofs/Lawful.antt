-- What each problem keeps of its events of the environment.
use Rattle.std.proofs.Common.{◌≡◌, ℕ, suc, ◌≤◌, Bool, true, false, not, cond, ◌&&◌, ◌||◌, List, [], ◌∷◌, ◌++◌, map, filter, length, All, Option, Some, None, refl, sym, ap, ◌∙◌, subst, ⊎_elim, arith}
use Rattle.std.specs.Prelude.{slice_get}
use Rattle.std.specs.List.{list_all}
use Rattle.std.specs.Ordering.{is_lt, is_le}
use Rattle.std.proofs.lemmas.List.Elements.{All-nil, All-cons}
use Rattle.std.proofs.lemmas.Option.{slice_get_cases}
use Rattle.stp_base.specs.declared.limits.TheConstants.{MAX_TIMED, MAX_EVENTS}
use Rattle.stp_frac.specs.Fractions.{Fraction, value_of, is_less}
use Rattle.stp_schema.specs.Timed.{PlainTimedFact, is_chosen, is_fixed, comes_before, are_in_order, IsTimedFact, AreTimedFacts}
use Rattle.stp_problem.specs.declared.timed_item.TimedItem.{TimedItem}
use Rattle.stp_problem.specs.TimedItems.{PlainTimedItem}
use Rattle.stp_problem.specs.TimedViews.{timed_item_of, timed_items_of}
use Rattle.stp_problem.specs.Events.{is_open, times_read, event_at, open_event, open_items, events_of, too_many}
use Rattle.stp_problem.proofs.Orders.{IsTime, same_time, time_is}
use Rattle.stp_problem.proofs.Sorted.{IsBefore, AreSorted, HaveTimes, times_sorted, times_few}

-- ---- items

item_time : (i : TimedItem) → IsTime (timed_item_of i).low
item_time i = time_is (value_of i.window.low) i.window.low.low i.window.lawful.early

pub have_times : (items : List TimedItem) → HaveTimes (timed_items_of items)
have_times [] = tt
have_times (i ∷ is) = (item_time i, have_times is)

item_lawful : (i : TimedItem) → IsTimedFact (open_event (timed_item_of i))
item_lawful i = record {
  early = (item_time i).early;
  up = i.window.lawful.up;
  late = (time_is (value_of i.window.high) i.window.high.low i.window.lawful.late).late;
}

-- events whose times the environment chooses
abbrev AreOpen : List PlainTimedItem → Type 0
AreOpen [] = Unit {0}
AreOpen (i ∷ is) = (is_open i ≡ true) × IsTimedFact (open_event i) × AreOpen is

open_by : (b : Bool) (i : PlainTimedItem) (is : List PlainTimedItem) → is_open i ≡ b → IsTimedFact (open_event i) → AreOpen is → AreOpen (cond b (i ∷ is) is)
open_by true i is e h r = (e, h, r)
open_by false i is e h r = r

are_open : (items : List TimedItem) → AreOpen (open_items (timed_items_of items))
are_open [] = tt
are_open (i ∷ is) = open_by (is_open (timed_item_of i)) (timed_item_of i) (open_items (timed_items_of is)) refl (item_lawful i) (are_open is)

-- ---- lists of events

module _ (items : List PlainTimedItem) where
  never_chosen : (t : Fraction) → IsTime t → is_chosen (event_at items t) ≡ false
  never_chosen t h = ap is_lt (same_time t h)

  fixed_lawful : (t : Fraction) → IsTime t → IsTimedFact (event_at items t)
  fixed_lawful t h = record { early = h.early; up = ap is_le (same_time t h); late = h.late }

  opens_lawful : (is : List PlainTimedItem) → AreOpen is → All IsTimedFact (map open_event is)
  opens_lawful [] h = All-nil IsTimedFact
  opens_lawful (i ∷ is) h = All-cons IsTimedFact (open_event i) (map open_event is) h.1 (opens_lawful is h.2)

  all_lawful : (ts : List Fraction) (is : List PlainTimedItem) → AreSorted ts → AreOpen is → All IsTimedFact (map (event_at items) ts ++ map open_event is)
  all_lawful [] is s h = opens_lawful is h
  all_lawful (t ∷ ts) is s h = All-cons IsTimedFact (event_at items t) (map (event_at items) ts ++ map open_event is) (fixed_lawful t s.0) (all_lawful ts is s.2 h)

  -- ---- order

  both : (b c : Bool) → b ≡ true → c ≡ true → (b && c) ≡ true
  both true c e f = f
  both false c e f = e

  chosen_after : (e f : PlainTimedFact) → is_chosen f ≡ true → comes_before e f ≡ true
  chosen_after e f h = ap (λ b. b || (is_fixed e && is_less e.high f.high)) h

  later_after : (e f : PlainTimedFact) → is_chosen f ≡ false → is_chosen e ≡ false → is_less e.high f.high ≡ true → comes_before e f ≡ true
  later_after e f h k l = ap (λ b. b || (is_fixed e && is_less e.high f.high)) h ∙ ap (λ b. not b && is_less e.high f.high) k ∙ l

  before_opens : (e : PlainTimedFact) (is : List PlainTimedItem) → AreOpen is → list_all (comes_before e) (map open_event is) ≡ true
  before_opens e [] h = refl
  before_opens e (i ∷ is) h = both (comes_before e (open_event i)) (list_all (comes_before e) (map open_event is)) (chosen_after e (open_event i) h.0) (before_opens e is h.2)

  before_rest : (t : Fraction) (ts : List Fraction) (is : List PlainTimedItem) → IsTime t → IsBefore t ts → AreSorted ts → AreOpen is → list_all (comes_before (event_at items t)) (map (event_at items) ts ++ map open_event is) ≡ true
  before_rest t [] is h b s o = before_opens (event_at items t) is o
  before_rest t (u ∷ us) is h b s o =
      both (comes_before (event_at items t) (event_at items u)) (list_all (comes_before (event_at items t)) (map (event_at items) us ++ map open_event is))
      (later_after (event_at items t) (event_at items u) (never_chosen u s.0) (never_chosen t h) b.0)
      (before_rest t us is h b.1 s.2 o)

  opens_in_order : (is : List PlainTimedItem) → AreOpen is → are_in_order (map open_event is) ≡ true
  opens_in_order [] h = refl
  opens_in_order (i ∷ is) h = both (list_all (comes_before (open_event i)) (map open_event is)) (are_in_order (map open_event is)) (before_opens (open_event i) is h.2) (opens_in_order is h.2)

  all_in_order : (ts : List Fraction) (is : List PlainTimedItem) → AreSorted ts → AreOpen is → are_in_order (map (event_at items) ts ++ map open_event is) ≡ true
  all_in_order [] is s o = opens_in_order is o
  all_in_order (t ∷ ts) is s o =
      both (list_all (comes_before (event_at items t)) (map (event_at items) ts ++ map open_event is)) (are_in_order (map (event_at items) ts ++ map open_event is))
      (before_rest t ts is s.0 s.1 s.2 o)
      (all_in_order ts is s.2 o)

  -- ---- numbers

  opens_fixed : (is : List PlainTimedItem) → AreOpen is → length (filter is_fixed (map open_event is)) ≡ 0
  opens_fixed [] h = refl
  opens_fixed (i ∷ is) h = ap (λ b. length (cond (not b) (open_event i ∷ filter is_fixed (map open_event is)) (filter is_fixed (map open_event is)))) h.0 ∙ opens_fixed is h.2

  fixed_number : (ts : List Fraction) (is : List PlainTimedItem) → AreSorted ts → AreOpen is → length (filter is_fixed (map (event_at items) ts ++ map open_event is)) ≡ length ts
  fixed_number [] is s o = opens_fixed is o
  fixed_number (t ∷ ts) is s o =
      let rest = filter is_fixed (map (event_at items) ts ++ map open_event is) in
      ap (λ b. length (cond (not b) (event_at items t ∷ rest) rest)) (never_chosen t s.0) ∙ ap suc (fixed_number ts is s.2 o)

  opens_chosen : (is : List PlainTimedItem) → AreOpen is → length (filter is_chosen (map open_event is)) ≡ length is
  opens_chosen [] h = refl
  opens_chosen (i ∷ is) h = ap (λ b. length (cond b (open_event i ∷ filter is_chosen (map open_event is)) (filter is_chosen (map open_event is)))) h.0 ∙ ap suc (opens_chosen is h.2)

  chosen_number : (ts : List Fraction) (is : List PlainTimedItem) → AreSorted ts → AreOpen is → length (filter is_chosen (map (event_at items) ts ++ map open_event is)) ≡ length is
  chosen_number [] is s o = opens_chosen is o
  chosen_number (t ∷ ts) is s o =
      let rest = filter is_chosen (map (event_at items) ts ++ map open_event is) in
      ap (λ b. length (cond b (event_at items t ∷ rest) rest)) (never_chosen t s.0) ∙ chosen_number ts is s.2 o

  -- ---- together

  pub events_lawful : (ts : List Fraction) (is : List PlainTimedItem) → AreSorted ts → AreOpen is → length ts ≤ MAX_TIMED → length is ≤ MAX_EVENTS → AreTimedFacts (map (event_at items) ts ++ map open_event is)
  events_lawful ts is s o few few_open = record {
    each = all_lawful ts is s o;
    in_order = all_in_order ts is s o;
    few_fixed = subst (λ n. n ≤ MAX_TIMED) (sym (fixed_number ts is s o)) few;
    few_chosen = subst (λ n. n ≤ MAX_EVENTS) (sym (chosen_number ts is s o)) few_open;
  }

some_none : {A : Type 0} (x : A) (f : Option A) → f ≡ Some x → f ≡ None → ⊥
some_none x None e h = cc
some_none x (Some y) e h = cc

few_there : (is : List PlainTimedItem) (n : ℕ) → slice_get is n ≡ None → length is ≤ n
few_there is n e = ⊎_elim (λ w. absurd (some_none w.0 (slice_get is n) w.2 e)) (λ w. w.0) (slice_get_cases is n).1

none_too_many : (found : Option PlainTimedItem) (is : List PlainTimedItem) → slice_get is MAX_EVENTS ≡ found → too_many is ≡ [] → found ≡ None
none_too_many None is e none = refl
none_too_many (Some i) is e none = cc

-- the events of items without an offence
pub items_lawful : (items : List TimedItem) → (times_read (timed_items_of items)).offences ≡ [] → too_many (open_items (timed_items_of items)) ≡ [] → AreTimedFacts (events_of (timed_items_of items))
items_lawful items none none_open =
    let plain = timed_items_of items in
    let few = open_items plain in
    events_lawful plain (times_read plain).value few
    (times_sorted [] plain (have_times items) tt)
    (are_open items)
    (times_few [] plain (omega arith) none)
    (few_there few MAX_EVENTS (none_too_many (slice_get few MAX_EVENTS) few refl none_open))
