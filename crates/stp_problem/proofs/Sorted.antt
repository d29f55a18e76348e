-- Times in order, each once.
use Rattle.std.proofs.Common.{◌≡◌, ℕ, suc, ◌+◌, ◌≤◌, nat_lt, Bool, true, false, if◌then◌else◌, List, [], ◌∷◌, length, Option, Some, None, Ordering, Less, Equal, Greater, refl, sym, ap, ◌∙◌, subst, arith}
use Rattle.std.specs.Prelude.{option_map}
use Rattle.std.specs.List.{insert}
use Rattle.std.specs.Ordering.{is_lt, match_ordering}
use Rattle.std.proofs.lemmas.Bool.Decides.{nat_tests}
use Rattle.stp_base.specs.declared.limits.TheConstants.{MAX_TIMED}
use Rattle.stp_refusal.specs.declared.code.Code.TheVariants.{P15}
use Rattle.stp_refusal.specs.Read.{given, bad}
use Rattle.stp_frac.specs.Fractions.{Fraction, order_of, is_less}
use Rattle.stp_problem.specs.TimedItems.{PlainTimedItem}
use Rattle.stp_problem.specs.Events.{has_time, place_from, with_time, with_item_time, times_from}
use Rattle.stp_problem.proofs.Orders.{IsTime, later, before_both}

-- a time before all of these
abbrev pub IsBefore : Fraction → List Fraction → Type 0
IsBefore t [] = Unit {0}
IsBefore t (u ∷ us) = (is_less t u ≡ true) × IsBefore t us

abbrev pub AreSorted : List Fraction → Type 0
AreSorted [] = Unit {0}
AreSorted (t ∷ ts) = IsTime t × IsBefore t ts × AreSorted ts

-- ---- one time more

next_by : (o : Ordering) (n : ℕ) (rest more : Option ℕ) → more ≡ option_map suc rest → match_ordering o (Some (n + 1)) None more ≡ option_map suc (match_ordering o (Some n) None rest)
next_by Less n rest more e = ap Some (let h : n + 1 ≡ suc n = omega arith in h)
next_by Equal n rest more e = refl
next_by Greater n rest more e = e

placed_next : (n : ℕ) (time : Fraction) (ts : List Fraction) → place_from (n + 1) time ts ≡ option_map suc (place_from n time ts)
placed_next n time [] = ap Some (let h : n + 1 ≡ suc n = omega arith in h)
placed_next n time (t ∷ ts) = next_by (order_of time t) n (place_from (n + 1) time ts) (place_from (n + 1 + 1) time ts) (placed_next (n + 1) time ts)

put_later : (time t : Fraction) (ts : List Fraction) (place : Option ℕ) → given (t ∷ ts) (λ n. insert (t ∷ ts) n time) (option_map suc place) ≡ t ∷ given ts (λ n. insert ts n time) place
put_later time t ts None = refl
put_later time t ts (Some n) = refl

with_by : (o : Ordering) (time t : Fraction) (ts : List Fraction) → given (t ∷ ts) (λ n. insert (t ∷ ts) n time) (match_ordering o (Some 0) None (place_from 1 time ts)) ≡ match_ordering o (time ∷ t ∷ ts) (t ∷ ts) (t ∷ with_time ts time)
with_by Less time t ts = refl
with_by Equal time t ts = refl
with_by Greater time t ts = ap (λ p. given (t ∷ ts) (λ n. insert (t ∷ ts) n time) p) (placed_next 0 time ts) ∙ put_later time t ts (place_from 0 time ts)

pub with_more : (time t : Fraction) (ts : List Fraction) → with_time (t ∷ ts) time ≡ match_ordering (order_of time t) (time ∷ t ∷ ts) (t ∷ ts) (t ∷ with_time ts time)
with_more time t ts = with_by (order_of time t) time t ts

-- ---- order is kept

all_before : (t u : Fraction) (ts : List Fraction) → IsTime t → IsTime u → is_less t u ≡ true → IsBefore u ts → AreSorted ts → IsBefore t ts
all_before t u [] h k e b s = tt
all_before t u (v ∷ vs) h k e b s = (before_both t u v h k s.0 e b.0, all_before t u vs h k e b.1 s.2)

before_by : (o : Ordering) (u time t : Fraction) (ts more : List Fraction) → is_less u time ≡ true → is_less u t ≡ true → IsBefore u ts → IsBefore u more → IsBefore u (match_ordering o (time ∷ t ∷ ts) (t ∷ ts) (t ∷ more))
before_by Less u time t ts more e f b c = (e, (f, b))
before_by Equal u time t ts more e f b c = (f, b)
before_by Greater u time t ts more e f b c = (f, c)

before_with : (u time : Fraction) (ts : List Fraction) → is_less u time ≡ true → IsBefore u ts → IsBefore u (with_time ts time)
before_with u time [] e b = (e, tt)
before_with u time (t ∷ ts) e b =
    subst (IsBefore u) (sym (with_more time t ts))
    (before_by (order_of time t) u time t ts (with_time ts time) e b.0 b.1 (before_with u time ts e b.1))

sorted_by : (o : Ordering) (time t : Fraction) (ts : List Fraction) → order_of time t ≡ o → IsTime time → AreSorted (t ∷ ts) → AreSorted (with_time ts time) → AreSorted (match_ordering o (time ∷ t ∷ ts) (t ∷ ts) (t ∷ with_time ts time))
sorted_by Less time t ts e h s r = let before : is_less time t ≡ true = ap is_lt e in (h, (before, all_before time t ts h s.0 before s.1 s.2), s)
sorted_by Equal time t ts e h s r = s
sorted_by Greater time t ts e h s r = (s.0, before_with t time ts (later time t h s.0 e) s.1, r)

pub sorted_with : (time : Fraction) (ts : List Fraction) → IsTime time → AreSorted ts → AreSorted (with_time ts time)
sorted_with time [] h s = (h, tt, tt)
sorted_with time (t ∷ ts) h s =
    subst AreSorted (sym (with_more time t ts))
    (sorted_by (order_of time t) time t ts refl h s (sorted_with time ts h s.2))

-- ---- the times of items

item_by : (b : Bool) (time : Fraction) (ts : List Fraction) → IsTime time → AreSorted ts → AreSorted (if b then with_time ts time else ts)
item_by true time ts h s = sorted_with time ts h s
item_by false time ts h s = s

-- each of these items comes at a time
abbrev pub HaveTimes : List PlainTimedItem → Type 0
HaveTimes [] = Unit {0}
HaveTimes (i ∷ is) = IsTime i.low × HaveTimes is

times_by : (b : Bool) (at : ℕ) (ts : List Fraction) (is : List PlainTimedItem) → AreSorted ts → AreSorted (times_from ts is).value → AreSorted (if b then bad at P15 ts else times_from ts is).value
times_by true at ts is s r = s
times_by false at ts is s r = r

pub times_sorted : (ts : List Fraction) (is : List PlainTimedItem) → HaveTimes is → AreSorted ts → AreSorted (times_from ts is).value
times_sorted ts [] h s = s
times_sorted ts (i ∷ is) h s =
    let more = item_by (has_time i) i.low ts h.0 s in
    times_by (nat_lt MAX_TIMED (length (with_item_time ts i))) i.at (with_item_time ts i) is more (times_sorted (with_item_time ts i) is h.1 more)

few_by : (b : Bool) (at : ℕ) (ts : List Fraction) (is : List PlainTimedItem) → nat_lt MAX_TIMED (length ts) ≡ b → (if b then bad at P15 ts else times_from ts is).offences ≡ [] → (length ts ≤ MAX_TIMED → (times_from ts is).offences ≡ [] → length (times_from ts is).value ≤ MAX_TIMED) → length (if b then bad at P15 ts else times_from ts is).value ≤ MAX_TIMED
few_by true at ts is e none f = cc
few_by false at ts is e none f = f (grind (arith, nat_tests, e)) none

pub times_few : (ts : List Fraction) (is : List PlainTimedItem) → length ts ≤ MAX_TIMED → (times_from ts is).offences ≡ [] → length (times_from ts is).value ≤ MAX_TIMED
times_few ts [] h none = h
times_few ts (i ∷ is) h none = few_by (nat_lt MAX_TIMED (length (with_item_time ts i))) i.at (with_item_time ts i) is refl none (λ k. times_few (with_item_time ts i) is k)
