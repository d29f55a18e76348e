-- The times of timed literals are those of the items.
use Rattle.std.proofs.Common.{◌≡◌, ℕ, nat_lt, Bool, true, false, ◌&&◌, ◌||◌, if◌then◌else◌, List, [], ◌∷◌, length, All, Ordering, Less, Equal, Greater, pos, ◌*ℤ◌, refl, sym, ap, ◌∙◌, subst}
use Rattle.std.specs.List.{list_any}
use Rattle.std.specs.Ordering.{is_eq, match_ordering}
use Rattle.std.specs.Cmp.{int_cmp_is}
use Rattle.std.proofs.lemmas.List.Elements.{All-nil, All-cons, All-head, All-tail, All-weaker}
use Rattle.stp_base.specs.declared.limits.TheConstants.{MAX_TIMED}
use Rattle.stp_refusal.specs.declared.code.Code.TheVariants.{P15}
use Rattle.stp_refusal.specs.Read.{bad}
use Rattle.stp_frac.specs.Fractions.{Fraction, order_of}
use Rattle.stp_problem.specs.TimedItems.{PlainTimedItem}
use Rattle.stp_problem.specs.Events.{has_time, with_time, with_item_time, times_from}
use Rattle.stp_problem.specs.TimeLaws.{is_same_time, TimesAreThoseOfItems}
use Rattle.stp_problem.proofs.Sorted.{with_more}

same_self : (f : Fraction) → is_same_time f f ≡ true
unfolding order_of
same_self f = ap is_eq (sym (int_cmp_is (f.top *ℤ pos f.bottom) (f.top *ℤ pos f.bottom) Equal refl))

or_left : (b c : Bool) → b ≡ true → (b || c) ≡ true
or_left b c e = ap (λ d. d || c) e

or_right : (b c : Bool) → c ≡ true → (b || c) ≡ true
or_right true c e = refl
or_right false c e = e

or_more : (b c d : Bool) → (c ≡ true → d ≡ true) → (b || c) ≡ true → (b || d) ≡ true
or_more true c d f e = refl
or_more false c d f e = f e

-- ---- one time more

module _ (p : Fraction → Bool) where
  kept_by : (o : Ordering) (time t : Fraction) (ts more : List Fraction) → (list_any p ts ≡ true → list_any p more ≡ true) → list_any p (t ∷ ts) ≡ true → list_any p (match_ordering o (time ∷ t ∷ ts) (t ∷ ts) (t ∷ more)) ≡ true
  kept_by Less time t ts more f e = or_right (p time) (list_any p (t ∷ ts)) e
  kept_by Equal time t ts more f e = e
  kept_by Greater time t ts more f e = or_more (p t) (list_any p ts) (list_any p more) f e

  kept_with : (time : Fraction) (ts : List Fraction) → list_any p ts ≡ true → list_any p (with_time ts time) ≡ true
  kept_with time [] e = cc
  kept_with time (t ∷ ts) e = ap (list_any p) (with_more time t ts) ∙ kept_by (order_of time t) time t ts (with_time ts time) (kept_with time ts) e

  kept_if : (b : Bool) (time : Fraction) (ts : List Fraction) → list_any p ts ≡ true → list_any p (if b then with_time ts time else ts) ≡ true
  kept_if true time ts e = kept_with time ts e
  kept_if false time ts e = e

  stays_by : (b : Bool) (at : ℕ) (ts : List Fraction) (is : List PlainTimedItem) → list_any p ts ≡ true → list_any p (times_from ts is).value ≡ true → list_any p (if b then bad at P15 ts else times_from ts is).value ≡ true
  stays_by true at ts is e f = e
  stays_by false at ts is e f = f

  stays : (ts : List Fraction) (is : List PlainTimedItem) → list_any p ts ≡ true → list_any p (times_from ts is).value ≡ true
  stays ts [] e = e
  stays ts (i ∷ is) e =
      let more = kept_if (has_time i) i.low ts e in
      stays_by (nat_lt MAX_TIMED (length (with_item_time ts i))) i.at (with_item_time ts i) is more (stays (with_item_time ts i) is more)

there_by : (o : Ordering) (time t : Fraction) (ts more : List Fraction) → order_of time t ≡ o → list_any (is_same_time time) more ≡ true → list_any (is_same_time time) (match_ordering o (time ∷ t ∷ ts) (t ∷ ts) (t ∷ more)) ≡ true
there_by Less time t ts more e f = or_left (is_same_time time time) (list_any (is_same_time time) (t ∷ ts)) (same_self time)
there_by Equal time t ts more e f = or_left (is_same_time time t) (list_any (is_same_time time) ts) (ap is_eq e)
there_by Greater time t ts more e f = or_right (is_same_time time t) (list_any (is_same_time time) more) f

there_with : (time : Fraction) (ts : List Fraction) → list_any (is_same_time time) (with_time ts time) ≡ true
there_with time [] = or_left (is_same_time time time) false (same_self time)
there_with time (t ∷ ts) = ap (list_any (is_same_time time)) (with_more time t ts) ∙ there_by (order_of time t) time t ts (with_time ts time) refl (there_with time ts)

there_if : (b : Bool) (time : Fraction) (ts : List Fraction) → b ≡ true → list_any (is_same_time time) (if b then with_time ts time else ts) ≡ true
there_if true time ts e = there_with time ts
there_if false time ts e = cc

-- ---- no time of an item is missing

abbrev IsThere : List Fraction → PlainTimedItem → Type 0
IsThere times i = has_time i ≡ true → list_any (is_same_time i.low) times ≡ true

complete_by : (b : Bool) (i : PlainTimedItem) (ts : List Fraction) (is : List PlainTimedItem) → (if b then bad i.at P15 ts else times_from ts is).offences ≡ [] → IsThere ts i → ((times_from ts is).offences ≡ [] → All (IsThere (times_from ts is).value) is) → All (IsThere (if b then bad i.at P15 ts else times_from ts is).value) (i ∷ is)
complete_by true i ts is none h f = cc
complete_by false i ts is none h f = All-cons (IsThere (times_from ts is).value) i is (λ e. stays (is_same_time i.low) ts is (h e)) (f none)

complete_from : (ts : List Fraction) (is : List PlainTimedItem) → (times_from ts is).offences ≡ [] → All (IsThere (times_from ts is).value) is
complete_from ts [] none = All-nil (IsThere ts)
complete_from ts (i ∷ is) none = complete_by (nat_lt MAX_TIMED (length (with_item_time ts i))) i (with_item_time ts i) is none (there_if (has_time i) i.low ts) (complete_from (with_item_time ts i) is)

-- ---- and there is no other time

module _ (P : Fraction → Type 0) where
  only_by : (o : Ordering) (time t : Fraction) (ts more : List Fraction) → P time → All P (t ∷ ts) → All P more → All P (match_ordering o (time ∷ t ∷ ts) (t ∷ ts) (t ∷ more))
  only_by Less time t ts more h a m = All-cons P time (t ∷ ts) h a
  only_by Equal time t ts more h a m = a
  only_by Greater time t ts more h a m = All-cons P t more (All-head P t ts a) m

  only_with : (time : Fraction) (ts : List Fraction) → P time → All P ts → All P (with_time ts time)
  only_with time [] h a = All-cons P time [] h (All-nil P)
  only_with time (t ∷ ts) h a = subst (All P) (sym (with_more time t ts)) (only_by (order_of time t) time t ts (with_time ts time) h a (only_with time ts h (All-tail P t ts a)))

  only_if : (b : Bool) (time : Fraction) (ts : List Fraction) → (b ≡ true → P time) → All P ts → All P (if b then with_time ts time else ts)
  only_if true time ts f a = only_with time ts (f refl) a
  only_if false time ts f a = a

  sound_by : (b : Bool) (at : ℕ) (ts : List Fraction) (is : List PlainTimedItem) → All P ts → All P (times_from ts is).value → All P (if b then bad at P15 ts else times_from ts is).value
  sound_by true at ts is a r = a
  sound_by false at ts is a r = r

  sound_from : (ts : List Fraction) (is : List PlainTimedItem) → All P ts → All (λ i. has_time i ≡ true → P i.low) is → All P (times_from ts is).value
  sound_from ts [] a h = a
  sound_from ts (i ∷ is) a h =
      let more = only_if (has_time i) i.low ts (All-head (λ (j : PlainTimedItem). has_time j ≡ true → P j.low) i is h) a in
      sound_by (nat_lt MAX_TIMED (length (with_item_time ts i))) i.at (with_item_time ts i) is more
      (sound_from (with_item_time ts i) is more (All-tail (λ (j : PlainTimedItem). has_time j ≡ true → P j.low) i is h))

-- each item of a list is found in it by a test that it passes
abbrev IsFound : List PlainTimedItem → PlainTimedItem → Type 0
IsFound items i = (f : PlainTimedItem → Bool) → f i ≡ true → list_any f items ≡ true

all_found : (items : List PlainTimedItem) → All (IsFound items) items
all_found [] = All-nil (IsFound [])
all_found (i ∷ is) =
    All-cons (IsFound (i ∷ is)) i is (λ f e. or_left (f i) (list_any f is) e)
    (All-weaker (IsFound is) (IsFound (i ∷ is)) (λ j h f e. or_right (f i) (list_any f is) (h f e)) is (all_found is))

both_true : (b c : Bool) → b ≡ true → c ≡ true → (b && c) ≡ true
both_true true c e f = f
both_true false c e f = e

abbrev IsOfItem : List PlainTimedItem → Fraction → Type 0
IsOfItem items t = list_any (λ i. has_time i && is_same_time i.low t) items ≡ true

pub times_are_those_of_items : TimesAreThoseOfItems
times_are_those_of_items = record {
  complete = λ items none. complete_from [] items none;
  sound = λ items. sound_from (IsOfItem items) [] items (All-nil (IsOfItem items))
      (All-weaker (IsFound items) (λ i. has_time i ≡ true → IsOfItem items i.low) (λ i h e. h (λ j. has_time j && is_same_time j.low i.low) (both_true (has_time i) (is_same_time i.low i.low) e (same_self i.low))) items (all_found items));
}
