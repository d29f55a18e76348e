-- Plain atoms, shadows and opened atoms have numbers of their own.
use Rattle.std.proofs.Common.{◌≡◌, ℕ, ◌+◌, ◌<◌, ◌≤◌, ◌==◌, ◌||◌, Bool, true, false, cond, List, [], ◌∷◌, ◌++◌, map, length, Contains, Option, Some, None, IfSome, inl, inr, refl, sym, ◌∙◌, subst, ap, arith, true≢false}
use Rattle.std.specs.List.{position_or_len, range_with_len}
use Rattle.std.proofs.lemmas.List.{length-append, length-map}
use Rattle.std.proofs.lemmas.List.Elements.{Contains-append_cases}
use Rattle.stp_cond.specs.Atoms.{PlainEvent, has}
use Rattle.stp_cond.specs.Formulas.{atoms_in}
use Rattle.stp_cond.specs.Truth.{state_of_row}
use Rattle.stp_cond.proofs.Interferes.{either}
use Rattle.stp_happen.proofs.Members.{here, there, member_cases, member_nil, each_of, kept_member, passing_member}
use Rattle.stp_rewriting.specs.Rewritten.{Rewriting, Ending, is_shadowed}
use Rattle.stp_rewriting.specs.Fitting.{IsBelow, IsRewriting}
use Rattle.stp_rewriting.specs.Numbering.{PlainKept, ending_of, endings_from, over_from, shadowed_among, rewriting_of, IsKeptBelow, NumbersAreProper}
use Rattle.stp_rewriting.proofs.Places.{place_below, place_once, in_range, row_past, all_false}

-- ---- the ends of actions

-- the end of an action that is in a list
in_ending : (key : ℕ) (event : Option PlainEvent) (o : Ending) → Contains (ending_of key event) o → (e : PlainEvent) × (event ≡ Some e) × (record { key = key; event = e } ≡ o)
in_ending key None o i = absurd (member_nil o i)
in_ending key (Some e) o i = elim (member_cases (record { key = key; event = e }) [] o i) [ inl s ↦ (e, refl, s) | inr j ↦ absurd (member_nil o j) ]

of_one : (key : ℕ) (event : Option PlainEvent) (o p : Ending) → Contains (ending_of key event) o → Contains (ending_of key event) p → o ≡ p
of_one key None o p i j = absurd (member_nil o i)
of_one key (Some e) o p i j = elim (member_cases (record { key = key; event = e }) [] o i) [
  | inl s ↦ elim (member_cases (record { key = key; event = e }) [] p j) [ inl t ↦ sym s ∙ t | inr k ↦ absurd (member_nil p k) ]
  | inr k ↦ absurd (member_nil o k)
]

own_key : (key : ℕ) (event : Option PlainEvent) (o : Ending) → Contains (ending_of key event) o → o.key ≡ key
own_key key event o i = let m = in_ending key event o i in ap (λ (x : Ending). x.key) (sym m.2)

keys_from : (key : ℕ) (actions : List PlainKept) (o : Ending) → Contains (endings_from key actions) o → key ≤ o.key
keys_from key [] o i = absurd (member_nil o i)
keys_from key (a ∷ bs) o i = elim (Contains-append_cases (ending_of key a.ending) (endings_from (key + 1) bs) o i) [
  | inl j ↦ omega (arith, own_key key a.ending o j)
  | inr j ↦ omega (arith, keys_from (key + 1) bs o j)
]

-- ends of one action are one
one_key : (key : ℕ) (actions : List PlainKept) (o p : Ending) → Contains (endings_from key actions) o → Contains (endings_from key actions) p → o.key ≡ p.key → o ≡ p
one_key key [] o p i j e = absurd (member_nil o i)
one_key key (a ∷ bs) o p i j e = elim (Contains-append_cases (ending_of key a.ending) (endings_from (key + 1) bs) o i) [
  | inl k ↦ elim (Contains-append_cases (ending_of key a.ending) (endings_from (key + 1) bs) p j) [
    | inl l ↦ of_one key a.ending o p k l
    | inr l ↦ absurd (omega (arith, own_key key a.ending o k, keys_from (key + 1) bs p l, e))
  ]
  | inr k ↦ elim (Contains-append_cases (ending_of key a.ending) (endings_from (key + 1) bs) p j) [
    | inl l ↦ absurd (omega (arith, own_key key a.ending p l, keys_from (key + 1) bs o k, e))
    | inr l ↦ one_key (key + 1) bs o p k l e
  ]
]

some_below : (n : ℕ) (event : Option PlainEvent) → IfSome event (IsBelow n) → (e : PlainEvent) → event ≡ Some e → IsBelow n e
some_below n None h e is = absurd (cc)
some_below n (Some x) h e is = let same : x ≡ e = cc in subst (IsBelow n) same h

ends_are_below : (n key : ℕ) (actions : List PlainKept) → ((a : PlainKept) → Contains actions a → IsKeptBelow n a) → (o : Ending) → Contains (endings_from key actions) o → IsBelow n o.event
ends_are_below n key [] h o i = absurd (member_nil o i)
ends_are_below n key (a ∷ bs) h o i = elim (Contains-append_cases (ending_of key a.ending) (endings_from (key + 1) bs) o i) [
  | inl j ↦
      let m = in_ending key a.ending o j in
      subst (λ (x : Ending). IsBelow n x.event) m.2 (some_below n a.ending (h a (here a bs)).0 m.0 m.1)
  | inr j ↦ ends_are_below n (key + 1) bs (λ x k. h x (there a bs x k)) o j
]

overs_are_below : (n number : ℕ) (actions : List PlainKept) → ((a : PlainKept) → Contains actions a → IsKeptBelow n a) → (key a : ℕ) → has (atoms_in (over_from number actions key)) a ≡ true → a < n
overs_are_below n number [] h key a i = absurd (true≢false (sym i))
overs_are_below n number (x ∷ xs) h key a i = by_test (key == number) i ((h x (here x xs)).1 a) (overs_are_below n (number + 1) xs (λ y k. h y (there x xs y k)) key a)
  where
    by_test : (t : Bool) → has (atoms_in (cond t x.over (over_from (number + 1) xs key))) a ≡ true → (has (atoms_in x.over) a ≡ true → a < n) → (has (atoms_in (over_from (number + 1) xs key)) a ≡ true → a < n) → a < n
    by_test true i first rest = first i
    by_test false i first rest = rest i

-- ---- the numbers

module _ (n : ℕ) (actions : List PlainKept) (initial : List Bool) (below : (a : PlainKept) → Contains actions a → IsKeptBelow n a) (long : length initial ≡ n) where
  abbrev ends : List Ending
  ends = endings_from 1 actions

  abbrev shadowed : List ℕ
  shadowed = shadowed_among n (endings_from 1 actions)

  abbrev r : Rewriting
  r = rewriting_of n actions initial

  is_plain : (a : ℕ) → is_shadowed r a ≡ true → a < n
  is_plain a h =
      let m = passing_member (λ (o : Ending). has o.event.adds a || has o.event.dels a) ends h in
      let e = ends_are_below n 1 actions below m.0 m.1 in
      elim (either (has m.0.event.adds a) (has m.0.event.dels a) m.2) [ inl k ↦ e.adds a k | inr k ↦ e.dels a k ]

  shadow_there : (a : ℕ) → is_shadowed r a ≡ true → Contains shadowed a
  shadow_there a h = kept_member (is_shadowed r) (range_with_len 0 n) a (in_range 0 n a (omega arith) (omega (arith, is_plain a h))) h

  shadow_place : (a : ℕ) → is_shadowed r a ≡ true → position_or_len (λ x. x == a) shadowed < length shadowed
  shadow_place a h = place_below (λ (x : ℕ). x) shadowed a (shadow_there a h)

  shadow_once : (a c : ℕ) → is_shadowed r a ≡ true → is_shadowed r c ≡ true → r.shadow a ≡ r.shadow c → a ≡ c
  shadow_once a c h k e = place_once (λ (x : ℕ). x) shadowed a c (shadow_there a h) (shadow_there c k) (omega (arith, e))

  opened_once : (o p : Ending) → Contains r.endings o → Contains r.endings p → r.opened o.key ≡ r.opened p.key → o ≡ p
  opened_once o p i j e = one_key 1 actions o p i j (place_once (λ (x : Ending). x.key) ends o p i j (omega (arith, e)))

  abbrev row : List Bool
  row = initial ++ map (state_of_row initial) shadowed

  opened_false : (key : ℕ) → state_of_row r.initial (r.opened key) ≡ false
  opened_false key =
      let count : length row ≡ n + length shadowed = length-append initial (map (state_of_row initial) shadowed) ∙ (ap (λ m. m + length (map (state_of_row initial) shadowed)) long ∙ ap (λ m. n + m) (length-map shadowed (state_of_row initial))) in
      ap (λ m. state_of_row r.initial (m + position_or_len (λ o. o.key == key) ends)) (sym count)
      ∙ (row_past row (map (λ o. false) ends) (position_or_len (λ o. o.key == key) ends) ∙ all_false ends (position_or_len (λ o. o.key == key) ends))

  pub proper : IsRewriting (rewriting_of n actions initial)
  proper = record {
    shadow_above = λ a h. omega arith;
    shadow_once = shadow_once;
    opened_above = λ o i. omega arith;
    opened_apart = λ o a i h e. omega (arith, e, shadow_place a h);
    opened_once = opened_once;
    keys_above = λ o i. keys_from 1 actions o i;
    ends_below = λ o i. ends_are_below n 1 actions below o i;
    over_below = λ key a i. overs_are_below n 1 actions below key a i;
    closed_first = λ o i. opened_false o.key;
  }

pub numbers_are_proper : NumbersAreProper
numbers_are_proper n actions initial below long = proper n actions initial (each_of (IsKeptBelow n) actions below) long
