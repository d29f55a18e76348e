-- Tables of values, one value at a time.
use Rattle.std.proofs.Common.{◌≡◌, ℕ, suc, ◌+◌, ◌<◌, Bool, true, false, not, nat_lt, if◌then◌else◌, List, [], ◌∷◌, ◌++◌, length, Option, Some, None, is_some, refl, ap, sym, ◌∙◌, arith, append_assoc, get_or, map, drop}
use Rattle.std.specs.Prelude.{slice_get, cond, ◌||◌, option_map}
use Rattle.std.specs.Option.{option_and_then}
use Rattle.std.specs.List.{list_any, position_or_len}
use Rattle.std.proofs.lemmas.Bool.Decides.{nat_tests}
use Rattle.std.proofs.lemmas.Slice.Eq.{bytes_eq-Decides}
use Rattle.std.proofs.lemmas.Option.{slice_get_past}
use Rattle.stp_frac.specs.Fractions.{Fraction}
use Rattle.std.proofs.lemmas.List.{drop_more}
use Rattle.stp_schema.specs.declared.problem.Given.{Given}
use Rattle.stp_schema.specs.Views.{PlainGiven, given_of}
use Rattle.stp_tables.specs.Atoms.{Atom, is_atom, number_of, with_atom}
use Rattle.stp_instance.specs.Values.{is_given, given_in}
use Rattle.stp_instance.specs.ValueTables.{place, found_at, IsTable}

abbrev pub given_with : Atom → Fraction → PlainGiven
given_with atom value = record { function = atom.predicate; args = atom.args; value = value }

abbrev pub place_of : PlainGiven → Atom
place_of given = place given.function given.args

-- the values of a table as a list
abbrev pub paired : List Atom → List Fraction → List PlainGiven
paired [] amounts = []
paired (p ∷ places) [] = []
paired (p ∷ places) (a ∷ amounts) = given_with p a ∷ paired places amounts

-- what a table and the values that are left give is what all values give
pub record IsFront (places : List Atom) (amounts : List Fraction) (rest given : List PlainGiven) : Type 0 where
  pub even : length places ≡ length amounts
  pub same : (function : ℕ) (args : List ℕ) → given_in (paired places amounts ++ rest) function args ≡ given_in given function args

less : {m n : ℕ} → suc m ≡ suc n → m ≡ n
less e = omega (arith, e)

-- ---- a test that passes at a place

test_next : (b : Bool) (n m : ℕ) (rest : Bool) → nat_lt n m ≡ rest → nat_lt (cond (not b) (1 + n) 0) (suc m) ≡ (b || rest)
test_next true n m rest e = first m
  where
    first : (m : ℕ) → nat_lt 0 (suc m) ≡ true
    first m = grind (arith, nat_tests)
test_next false n m rest e = after n m ∙ e
  where
    after : (n m : ℕ) → nat_lt (1 + n) (suc m) ≡ nat_lt n m
    after n m = grind (arith, nat_tests)

any_within : {X : Type 0} (p : X → Bool) (xs : List X) → nat_lt (position_or_len p xs) (length xs) ≡ list_any p xs
any_within p [] = refl
any_within p (x ∷ xs) = test_next (p x) (position_or_len p xs) (length xs) (list_any p xs) (any_within p xs)

some_if : (b : Bool) (n : ℕ) → is_some (cond b (Some n) None) ≡ b
some_if true n = refl
some_if false n = refl

is_numbered : (atom : Atom) (places : List Atom) → is_some (number_of places atom) ≡ list_any (is_atom atom) places
is_numbered atom places = some_if (nat_lt (position_or_len (is_atom atom) places) (length places)) (position_or_len (is_atom atom) places) ∙ any_within (is_atom atom) places

-- ---- a place that the table has

any_paired : (function : ℕ) (args : List ℕ) (places : List Atom) (amounts : List Fraction) → length places ≡ length amounts → list_any (is_given function args) (paired places amounts) ≡ list_any (is_atom (place function args)) places
any_paired function args [] amounts e = refl
any_paired function args (p ∷ places) [] e = cc
any_paired function args (p ∷ places) (a ∷ amounts) e = ap (λ b. is_atom (place function args) p || b) (any_paired function args places amounts (less e))

early_next : (b : Bool) (x : PlainGiven) (one other : Option Fraction) (rest : Bool) → (rest ≡ true → one ≡ other) → (b || rest) ≡ true → (if b then Some x.value else one) ≡ (if b then Some x.value else other)
early_next true x one other rest h e = refl
early_next false x one other rest h e = h e

early : (function : ℕ) (args : List ℕ) (xs ys zs : List PlainGiven) → list_any (is_given function args) xs ≡ true → given_in (xs ++ ys) function args ≡ given_in (xs ++ zs) function args
early function args [] ys zs e = cc
early function args (x ∷ xs) ys zs e = early_next (is_given function args x) x _ _ (list_any (is_given function args) xs) (early function args xs ys zs) e

skip : (function : ℕ) (args : List ℕ) (xs : List PlainGiven) (g : PlainGiven) (rest : List PlainGiven) → is_given function args g ≡ false → given_in (xs ++ g ∷ rest) function args ≡ given_in (xs ++ rest) function args
skip function args [] g rest e = ap (λ b. if b then Some g.value else given_in rest function args) e
skip function args (x ∷ xs) g rest e = ap (λ v. if is_given function args x then Some x.value else v) (skip function args xs g rest e)

same_place : (function : ℕ) (args : List ℕ) (g : PlainGiven) → is_given function args g ≡ true → place function args ≡ place_of g
same_place function args g e = grind (arith, nat_tests, bytes_eq-Decides, e)

module _ (places : List Atom) (amounts : List Fraction) (g : PlainGiven) (rest : List PlainGiven) (even : length places ≡ length amounts) where
  passed : (function : ℕ) (args : List ℕ) (b : Bool) → is_given function args g ≡ b → list_any (is_atom (place_of g)) places ≡ true → given_in (paired places amounts ++ g ∷ rest) function args ≡ given_in (paired places amounts ++ rest) function args
  passed function args true e h = early function args (paired places amounts) (g ∷ rest) rest (any_paired function args places amounts even ∙ ap (λ a. list_any (is_atom a) places) (same_place function args g e) ∙ h)
  passed function args false e h = skip function args (paired places amounts) g rest e

-- the value of a place that the table has is passed over
pub front_known : (places : List Atom) (amounts : List Fraction) (g : PlainGiven) (rest given : List PlainGiven) → is_some (number_of places (place_of g)) ≡ true → IsFront places amounts (g ∷ rest) given → IsFront places amounts rest given
front_known places amounts g rest given known f = record {
  even = f.even;
  same = λ function args. sym (passed places amounts g rest f.even function args (is_given function args g) refl (sym (is_numbered (place_of g) places) ∙ known)) ∙ f.same function args;
}

-- ---- a place that is new

paired_more : (places : List Atom) (amounts : List Fraction) (p : Atom) (a : Fraction) → length places ≡ length amounts → paired (places ++ p ∷ []) (amounts ++ a ∷ []) ≡ paired places amounts ++ given_with p a ∷ []
paired_more [] [] p a e = refl
paired_more [] (b ∷ amounts) p a e = cc
paired_more (q ∷ places) [] p a e = cc
paired_more (q ∷ places) (b ∷ amounts) p a e = ap (λ gs. given_with q b ∷ gs) (paired_more places amounts p a (less e))

longer : (places : List Atom) (amounts : List Fraction) (p : Atom) (a : Fraction) → length places ≡ length amounts → length (places ++ p ∷ []) ≡ length (amounts ++ a ∷ [])
longer [] [] p a e = refl
longer [] (b ∷ amounts) p a e = cc
longer (q ∷ places) [] p a e = cc
longer (q ∷ places) (b ∷ amounts) p a e = ap suc (longer places amounts p a (less e))

module _ (places : List Atom) (amounts : List Fraction) (g : PlainGiven) (rest given : List PlainGiven) (f : IsFront places amounts (g ∷ rest) given) where
  front_longer : IsFront (places ++ place_of g ∷ []) (amounts ++ g.value ∷ []) rest given
  front_longer = record {
    even = longer places amounts (place_of g) g.value f.even;
    same = λ function args.
        ap (λ gs. given_in (gs ++ rest) function args) (paired_more places amounts (place_of g) g.value f.even)
        ∙ ap (λ gs. given_in gs function args) (append_assoc (paired places amounts) (g ∷ []) rest)
        ∙ f.same function args;
  }

  -- the value of a new place is put at the end
  pub front_new : is_some (number_of places (place_of g)) ≡ false → IsFront (with_atom places (place_of g)) (amounts ++ g.value ∷ []) rest given
  front_new new = rw (sym (is_numbered (place_of g) places) ∙ new) front_longer

-- ---- a whole table

after_one : (n : ℕ) → 1 + n ≡ suc n
after_one n = omega arith

placed_next : (b : Bool) (a : Fraction) (amounts : List Fraction) (n : ℕ) (rest : Option Fraction) → slice_get amounts n ≡ rest → slice_get (a ∷ amounts) (cond (not b) (1 + n) 0) ≡ (if b then Some a else rest)
placed_next true a amounts n rest h = refl
placed_next false a amounts n rest h = ap (slice_get (a ∷ amounts)) (after_one n) ∙ h

placed : (atom : Atom) (places : List Atom) (amounts : List Fraction) → length places ≡ length amounts → slice_get amounts (position_or_len (is_atom atom) places) ≡ given_in (paired places amounts) atom.predicate atom.args
placed atom [] [] e = refl
placed atom [] (a ∷ amounts) e = cc
placed atom (p ∷ places) [] e = cc
placed atom (p ∷ places) (a ∷ amounts) e = placed_next (is_atom atom p) a amounts (position_or_len (is_atom atom) places) (given_in (paired places amounts) atom.predicate atom.args) (placed atom places amounts (less e))

within_or_past : (b : Bool) (n m : ℕ) (amounts : List Fraction) → nat_lt n m ≡ b → m ≡ length amounts → option_and_then (slice_get amounts) (cond b (Some n) None) ≡ slice_get amounts n
within_or_past true n m amounts e h = refl
within_or_past false n m amounts e h = sym (slice_get_past amounts n (grind (arith, nat_tests, e, h)))

found : (atom : Atom) (places : List Atom) (amounts : List Fraction) → length places ≡ length amounts → found_at places amounts atom ≡ given_in (paired places amounts) atom.predicate atom.args
found atom places amounts e = within_or_past (nat_lt (position_or_len (is_atom atom) places) (length places)) (position_or_len (is_atom atom) places) (length places) amounts refl e ∙ placed atom places amounts e

nothing_left : (xs : List PlainGiven) → xs ++ [] ≡ xs
nothing_left [] = refl
nothing_left (x ∷ xs) = ap (λ l. x ∷ l) (nothing_left xs)

pub table_whole : (places : List Atom) (amounts : List Fraction) (given : List PlainGiven) → IsFront places amounts [] given → IsTable given places amounts
table_whole places amounts given f = record {
  even = f.even;
  same = λ function args. found (place function args) places amounts f.even ∙ ap (λ gs. given_in gs function args) (sym (nothing_left (paired places amounts))) ∙ f.same function args;
}

-- ---- a slice, one item at a time

pub given_at : (xs : List Given) (i : ℕ) (x : Given) → i < length xs → get_or xs i x ≡ x → map given_of (drop i xs) ≡ given_of x ∷ map given_of (drop (i + 1) xs)
given_at xs i x h is = ap (map given_of) (drop_more xs i x h) ∙ ap (λ y. given_of y ∷ map given_of (drop (i + 1) xs)) is

pub same_some : {A B : Type 0} (f : A → B) (o : Option A) → is_some (option_map f o) ≡ is_some o
same_some f None = refl
same_some f (Some x) = refl
