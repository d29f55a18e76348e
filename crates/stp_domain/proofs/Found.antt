-- What a name stands for among objects of which several may have one name.
use Rattle.std.proofs.Common.{◌≡◌, ℕ, zero, suc, ◌+◌, ◌<◌, ◌≤◌, Bool, true, false, not, nat_lt, if◌then◌else◌, List, [], ◌∷◌, ◌++◌, Option, Some, None, length, refl, ap, sym, ◌∙◌, arith, append_assoc, length-append}
use Rattle.std.specs.Prelude.{bytes_eq, position, cond, slice_get, option_map, ◌||◌}
use Rattle.std.specs.List.{list_any, position_or_len}
use Rattle.std.proofs.lemmas.List.{map-append, append-nil, length-map}
use Rattle.std.proofs.lemmas.List.Folds.{position_or_len_push}
use Rattle.std.proofs.lemmas.List.Quantifiers.{position-Some}
use Rattle.std.proofs.lemmas.Slice.Eq.{bytes_eq-Decides}
use Rattle.std.proofs.lemmas.Bool.Decides.{nat_tests}
use Rattle.stp_refusal.specs.Read.{given}
use Rattle.stp_tables.specs.Names.{number_of}
use Rattle.stp_schema.specs.declared.lifted.Term.{Term}
use Rattle.stp_schema.specs.Rows.{Thing, thing_names}
use Rattle.stp_condition.specs.Scope.{with_value}
use Rattle.stp_condition.specs.Terms.{object_at, object_in}
use Rattle.stp_domain.specs.Firsts.{Firsts, no_firsts, with_first, with_firsts, firsts_in}
use Rattle.stp_domain.specs.Placed.{as_object, placed_term}

-- ---- the number of a name among names and one more

one_more : (b : Bool) (n m : ℕ) → n ≤ m → cond (not b) (1 + n) 0 ≤ suc m
one_more true n m h = omega arith
one_more false n m h = omega (arith, h)

pol_le : {X : Type 0} (p : X → Bool) (xs : List X) → position_or_len p xs ≤ length xs
pol_le p [] = omega arith
pol_le p (x ∷ xs) = one_more (p x) (position_or_len p xs) (length xs) (pol_le p xs)

number_kept : (p : List ℕ → Bool) (words : List (List ℕ)) (word : List ℕ) (n : ℕ) → position p words ≡ Some n → position p (words ++ word ∷ []) ≡ Some n
number_kept p words word n e = let h = position_or_len_push p words word in let k = length-append words (word ∷ []) in grind (arith, nat_tests, h, k, e)

number_new : (p : List ℕ → Bool) (words : List (List ℕ)) (word : List ℕ) → position p words ≡ None → position p (words ++ word ∷ []) ≡ (if p word then Some (length words) else None)
number_new p words word e = let h = position_or_len_push p words word in let k = length-append words (word ∷ []) in let m = pol_le p words in grind (arith, nat_tests, h, k, e, m)

-- ---- an element of a list with one more

get_kept : {A : Type 0} (xs : List A) (x : A) (n : ℕ) → n < length xs → slice_get (xs ++ x ∷ []) n ≡ slice_get xs n
get_kept [] x n h = absurd (omega (arith, h))
get_kept (y ∷ ys) x zero h = refl
get_kept (y ∷ ys) x (suc n) h = get_kept ys x n (omega (arith, h))

get_new : {A : Type 0} (xs : List A) (x : A) (n : ℕ) → n ≡ length xs → slice_get (xs ++ x ∷ []) n ≡ Some x
get_new [] x zero h = refl
get_new [] x (suc n) h = absurd (omega (arith, h))
get_new (y ∷ ys) x zero h = absurd (omega (arith, h))
get_new (y ∷ ys) x (suc n) h = get_new ys x n (omega (arith, h))

-- an element within
there : {A : Type 0} (xs : List A) (n : ℕ) → n < length xs → (x : A) × (slice_get xs n ≡ Some x)
there [] n h = absurd (omega (arith, h))
there (x ∷ xs) zero h = (x, refl)
there (x ∷ xs) (suc n) h = there xs n (omega (arith, h))

-- ---- where one name passes, it has a number

within_next : (b : Bool) (n m : ℕ) (rest : Bool) → (rest ≡ true → n < m) → (b || rest) ≡ true → cond (not b) (1 + n) 0 < suc m
within_next true n m rest h e = omega arith
within_next false n m rest h e = let k = h e in omega (arith, k)

within : {X : Type 0} (p : X → Bool) (xs : List X) → list_any p xs ≡ true → position_or_len p xs < length xs
within p [] e = cc
within p (x ∷ xs) e = within_next (p x) (position_or_len p xs) (length xs) (list_any p xs) (within p xs) e

below : (n m : ℕ) (b : Bool) → nat_lt n m ≡ b → n < m → cond b (Some n) None ≡ Some n
below n m true e h = refl
below n m false e h = absurd (grind (arith, nat_tests, e, h))

has_number : (name : List ℕ) (names : List (List ℕ)) → list_any (bytes_eq name) names ≡ true → number_of names name ≡ Some (position_or_len (bytes_eq name) names)
has_number name names e = below (position_or_len (bytes_eq name) names) (length names) (nat_lt (position_or_len (bytes_eq name) names) (length names)) refl (within (bytes_eq name) names e)

-- ---- an object of a name among objects and one more

-- what is found, or else this
abbrev or_found : Option (Term × ℕ) → Option (Term × ℕ) → Option (Term × ℕ)
or_found None other = other
or_found (Some found) other = Some found

or_none : (o : Option (Term × ℕ)) → or_found o None ≡ o
or_none None = refl
or_none (Some found) = refl

abbrev numbered : ℕ → Thing → Term × ℕ
numbered place t = (as_object place, t.kind)

-- the object at a place, if the test passes
abbrev if_named : Bool → ℕ → Thing → Option (Term × ℕ)
if_named b place t = if b then Some (numbered place t) else None

names_more : (ts : List Thing) (t : Thing) → thing_names (ts ++ t ∷ []) ≡ thing_names ts ++ t.name ∷ []
names_more ts t = map-append (λ u. u.name) ts (t ∷ [])

names_length : (ts : List Thing) → length (thing_names ts) ≡ length ts
names_length ts = length-map ts (λ u. u.name)

named_within : (ts : List Thing) (name : List ℕ) (n : ℕ) → number_of (thing_names ts) name ≡ Some n → n < length ts
named_within ts name n e = let h = (position-Some (bytes_eq name) (thing_names ts) n [] e).0 in let k = names_length ts in omega (arith, h, k)

-- the object of a number
named_there : (ts : List Thing) (name : List ℕ) (n : ℕ) → number_of (thing_names ts) name ≡ Some n → (u : Thing) × (slice_get ts n ≡ Some u)
named_there ts name n e = there ts n (named_within ts name n e)

module _ (ts : List Thing) (t : Thing) (name : List ℕ) where
  new_at : (b : Bool) → with_value (object_at (ts ++ t ∷ [])) (if b then Some (length (thing_names ts)) else None) ≡ if_named b (length ts) t
  new_at true = ap (λ n. option_map (numbered n) (slice_get (ts ++ t ∷ []) n)) (names_length ts) ∙ ap (option_map (numbered (length ts))) (get_new ts t (length ts) refl)
  new_at false = refl

  kept_at : (n : ℕ) (u : Thing) → n < length ts → slice_get ts n ≡ Some u → (other : Option (Term × ℕ)) → object_at (ts ++ t ∷ []) n ≡ or_found (object_at ts n) other
  kept_at n u h s other = ap (option_map (numbered n)) (get_kept ts t n h ∙ s) ∙ sym (ap (λ o. or_found (option_map (numbered n) o) other) s)

  more_at : (number : Option ℕ) → number_of (thing_names ts) name ≡ number → with_value (object_at (ts ++ t ∷ [])) (number_of (thing_names ts ++ t.name ∷ []) name) ≡ or_found (with_value (object_at ts) number) (if_named (bytes_eq name t.name) (length ts) t)
  more_at None e = ap (with_value (object_at (ts ++ t ∷ []))) (number_new (bytes_eq name) (thing_names ts) t.name e) ∙ new_at (bytes_eq name t.name)
  more_at (Some n) e =
      ap (with_value (object_at (ts ++ t ∷ []))) (number_kept (bytes_eq name) (thing_names ts) t.name n e)
      ∙ kept_at n (named_there ts name n e).0 (named_within ts name n e) (named_there ts name n e).1 (if_named (bytes_eq name t.name) (length ts) t)

  object_more : object_in (ts ++ t ∷ []) name ≡ or_found (object_in ts name) (if_named (bytes_eq name t.name) (length ts) t)
  object_more = ap (λ names. with_value (object_at (ts ++ t ∷ [])) (number_of names name)) (names_more ts t) ∙ more_at (number_of (thing_names ts) name) refl

-- ---- the first objects

abbrev pub placed_found : List ℕ → Term × ℕ → Term × ℕ
placed_found places found = (placed_term places found.0, found.1)

-- what a name stands for among things, it stands for among these, at another place
abbrev pub AreFirsts : List Thing → List Thing → List ℕ → Type 0
AreFirsts things firsts places = (name : List ℕ) → object_in things name ≡ option_map (placed_found places) (object_in firsts name)

record Kept (before : List Thing) (f : Firsts) : Type 0 where
  names : f.names ≡ thing_names f.things
  places : length f.places ≡ length f.things
  found : AreFirsts before f.things f.places

module _ (before : List Thing) (t : Thing) (f : Firsts) (k : Kept before f) (place : ℕ) (is : place ≡ length before) where
  -- one whose name is there
  found_again : (name : List ℕ) (b : Bool) → bytes_eq name t.name ≡ b → list_any (bytes_eq t.name) (thing_names f.things) ≡ true → or_found (option_map (placed_found f.places) (object_in f.things name)) (if_named b (length before) t) ≡ option_map (placed_found f.places) (object_in f.things name)
  found_again name false e any = or_none (option_map (placed_found f.places) (object_in f.things name))
  found_again name true e any =
      let same : name ≡ t.name = (bytes_eq-Decides name t.name).0 e in
      let number = has_number t.name (thing_names f.things) any in
      let u = named_there f.things t.name (position_or_len (bytes_eq t.name) (thing_names f.things)) number in
      let found_there : object_in f.things t.name ≡ Some (numbered (position_or_len (bytes_eq t.name) (thing_names f.things)) u.0) = ap (with_value (object_at f.things)) number ∙ ap (option_map (numbered (position_or_len (bytes_eq t.name) (thing_names f.things)))) u.1 in
      ap (λ o. or_found (option_map (placed_found f.places) o) (if_named true (length before) t)) (ap (object_in f.things) same ∙ found_there)
      ∙ sym (ap (λ o. option_map (placed_found f.places) o) (ap (object_in f.things) same ∙ found_there))

  kept_again : list_any (bytes_eq t.name) f.names ≡ true → Kept (before ++ t ∷ []) f
  kept_again any = record {
    names = k.names;
    places = k.places;
    found = λ name.
        object_more before t name
        ∙ ap (λ o. or_found o (if_named (bytes_eq name t.name) (length before) t)) (k.found name)
        ∙ found_again name (bytes_eq name t.name) refl (sym (ap (list_any (bytes_eq t.name)) k.names) ∙ any);
  }

  -- one whose name is new
  new_named : (b : Bool) → if_named b place t ≡ option_map (placed_found (f.places ++ place ∷ [])) (if_named b (length f.things) t)
  new_named true = ap (λ o. Some (given (as_object (length f.things)) as_object o, t.kind)) (sym (get_new f.places place (length f.things) (sym k.places)))
  new_named false = refl

  found_new : (name : List ℕ) (number : Option ℕ) → number_of (thing_names f.things) name ≡ number →
      or_found (option_map (placed_found f.places) (with_value (object_at f.things) number)) (if_named (bytes_eq name t.name) place t)
      ≡ option_map (placed_found (f.places ++ place ∷ [])) (or_found (with_value (object_at f.things) number) (if_named (bytes_eq name t.name) (length f.things) t))
  found_new name None e = new_named (bytes_eq name t.name)
  found_new name (Some n) e =
      let u = named_there f.things name n e in
      let h : n < length f.places = let w = named_within f.things name n e in let l = k.places in omega (arith, w, l) in
      ap (λ o. or_found (option_map (placed_found f.places) (option_map (numbered n) o)) (if_named (bytes_eq name t.name) place t)) u.1
      ∙ ap (λ o. Some (given (as_object n) as_object o, u.0.kind)) (sym (get_kept f.places place n h))
      ∙ sym (ap (λ o. option_map (placed_found (f.places ++ place ∷ [])) (or_found (option_map (numbered n) o) (if_named (bytes_eq name t.name) (length f.things) t))) u.1)

  kept_new : Kept (before ++ t ∷ []) (record { names = f.names ++ t.name ∷ []; things = f.things ++ t ∷ []; places = f.places ++ place ∷ [] })
  kept_new = record {
    names = ap (λ names. names ++ t.name ∷ []) k.names ∙ sym (names_more f.things t);
    places = let l = k.places in let m = length-append f.places (place ∷ []) in let n = length-append f.things (t ∷ []) in omega (arith, l, m, n);
    found = λ name.
        object_more before t name
        ∙ ap (λ o. or_found o (if_named (bytes_eq name t.name) (length before) t)) (k.found name)
        ∙ ap (λ n. or_found (option_map (placed_found f.places) (object_in f.things name)) (if_named (bytes_eq name t.name) n t)) (sym is)
        ∙ found_new name (number_of (thing_names f.things) name) refl
        ∙ ap (option_map (placed_found (f.places ++ place ∷ []))) (sym (object_more f.things t name));
  }

  kept_either : (b : Bool) → list_any (bytes_eq t.name) f.names ≡ b → Kept (before ++ t ∷ []) (if b then f else record { names = f.names ++ t.name ∷ []; things = f.things ++ t ∷ []; places = f.places ++ place ∷ [] })
  kept_either true e = kept_again e
  kept_either false e = kept_new

  kept_first : Kept (before ++ t ∷ []) (with_first f place t)
  kept_first = kept_either (list_any (bytes_eq t.name) f.names) refl

kept_all : (before : List Thing) (f : Firsts) (place : ℕ) (ts : List Thing) → place ≡ length before → Kept before f → Kept (before ++ ts) (with_firsts f place ts)
kept_all before f place [] e k = rw append-nil k
kept_all before f place (t ∷ ts) e k =
    let next : place + 1 ≡ length (before ++ t ∷ []) = let l = length-append before (t ∷ []) in omega (arith, e, l) in
    let all : Kept ((before ++ t ∷ []) ++ ts) (with_firsts (with_first f place t) (place + 1) ts) = kept_all (before ++ t ∷ []) (with_first f place t) (place + 1) ts next (kept_first before t f k place e) in
    rw (append_assoc before (t ∷ []) ts) at all

-- what a name stands for among things is what it stands for among the first ones, at its place
pub firsts_found : (things : List Thing) → AreFirsts things (firsts_in things).things (firsts_in things).places
firsts_found things = (kept_all [] no_firsts 0 things refl (record { names = refl; places = refl; found = λ name. refl })).found
