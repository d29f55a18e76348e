-- Tables that gain atoms: which atoms they have, how often, and with which numbers.
use Rattle.std.proofs.Common.{◌≡◌, ℕ, suc, ◌+◌, ◌<◌, Bool, true, false, not, cond, ◌||◌, if◌then◌else◌, nat_lt, List, [], ◌∷◌, ◌++◌, length, get_or, Some, None, refl, ap, sym, ◌∙◌, arith, Contains}
use Rattle.std.specs.Option.{is_some}
use Rattle.std.specs.List.{list_any, count_by, position_or_len}
use Rattle.std.proofs.lemmas.Bool.{both_ways, or_parts}
use Rattle.std.proofs.lemmas.Bool.Decides.{nat_tests}
use Rattle.std.proofs.lemmas.List.{append-nil}
use Rattle.std.proofs.lemmas.List.Folds.{list_any-append, list_any_at}
use Rattle.std.proofs.lemmas.List.Sums.{sum_by-cons, sum_by-append}
use Rattle.stp_tables.specs.Atoms.{Atom, is_atom, number_of, with_atom}
use Rattle.stp_tables.proofs.AtomKeys.{atoms_same, same_atom}
use Rattle.stp_tables.proofs.FirstSight.{first_stays}
use Rattle.stp_instance.specs.Numbered.{is_in, IsGrown, with_atoms}
use Rattle.stp_instance.proofs.Gathered.{grown_again}

-- ---- numbers stay

grown_one : (b : Bool) (table : List Atom) (atom : Atom) → IsGrown table (if b then table else table ++ atom ∷ [])
grown_one true table atom = ([], sym (append-nil table))
grown_one false table atom = (atom ∷ [], refl)

pub with_atoms_grow : (table atoms : List Atom) → IsGrown table (with_atoms table atoms)
with_atoms_grow table [] = ([], sym (append-nil table))
with_atoms_grow table (atom ∷ rest) = grown_again table (with_atom table atom) (with_atoms (with_atom table atom) rest) (grown_one (list_any (is_atom atom) table) table atom) (with_atoms_grow (with_atom table atom) rest)

pub numbers_stay : (old new : List Atom) (atom : Atom) (number : ℕ) → IsGrown old new → number_of old atom ≡ Some number → number_of new atom ≡ Some number
numbers_stay old new atom number grown e =
    ap (λ t. number_of t atom) grown.1
    ∙ first_stays (is_atom atom) old grown.0 number (record { predicate = 0; args = [] }) e

-- ---- which atoms a table has

next_within : (b : Bool) (n m : ℕ) → nat_lt (cond (not b) (1 + n) 0) (suc m) ≡ (b || nat_lt n m)
next_within true n m = grind (arith, nat_tests)
next_within false n m = grind (arith, nat_tests)

within_is : (p : Atom → Bool) (xs : List Atom) → nat_lt (position_or_len p xs) (length xs) ≡ list_any p xs
within_is p [] = refl
within_is p (x ∷ xs) = next_within (p x) (position_or_len p xs) (length xs) ∙ ap (λ b. p x || b) (within_is p xs)

some_if : (b : Bool) (n : ℕ) → is_some (cond b (Some n) None) ≡ b
some_if true n = refl
some_if false n = refl

pub in_is : (table : List Atom) (atom : Atom) → is_in table atom ≡ list_any (is_atom atom) table
in_is table atom = some_if (nat_lt (position_or_len (is_atom atom) table) (length table)) (position_or_len (is_atom atom) table) ∙ within_is (is_atom atom) table

-- an atom that is the same as one of the table is in the table
in_of_same : (table : List Atom) (atom new : Atom) → is_atom atom new ≡ true → list_any (is_atom new) table ≡ true → list_any (is_atom atom) table ≡ true
in_of_same table atom new e f = ap (λ a. list_any (is_atom a) table) (atoms_same atom new e) ∙ f

either_end : (b c : Bool) → (c ≡ true → b ≡ true) → b ≡ (b || c)
either_end true c h = refl
either_end false true h = h refl
either_end false false h = refl

last_or : (b c : Bool) → (b || (c || false)) ≡ (b || c)
last_or true c = refl
last_or false true = refl
last_or false false = refl

has_with : (table : List Atom) (atom new : Atom) (known : Bool) → list_any (is_atom new) table ≡ known → list_any (is_atom atom) (if known then table else table ++ new ∷ []) ≡ (list_any (is_atom atom) table || is_atom atom new)
has_with table atom new true e = either_end (list_any (is_atom atom) table) (is_atom atom new) (λ h. in_of_same table atom new h e)
has_with table atom new false e = list_any-append (is_atom atom) table (new ∷ []) ∙ last_or (list_any (is_atom atom) table) (is_atom atom new)

-- ---- how often

none_counted : (p : Atom → Bool) (xs : List Atom) → list_any p xs ≡ false → count_by p xs ≡ 0
none_counted p [] e = refl
none_counted p (x ∷ xs) e =
    let parts = or_parts (p x) (list_any p xs) e in
    sum_by-cons (λ y. cond (p y) 1 0) x xs ∙ ap (λ b. cond b 1 0 + count_by p xs) parts.0 ∙ ap (λ n. 0 + n) (none_counted p xs parts.1)

-- how often an atom stands in a table of which it is known whether it is there, and how often, once another is put in
abbrev times_with : Bool → ℕ → Bool → ℕ
times_with there times same = if there then times else (if same then 1 else 0)

old_times : (there same : Bool) (times : ℕ) → (there ≡ false → times ≡ 0) → (same ≡ true → there ≡ true) → times ≡ times_with there times same
old_times true same times h f = refl
old_times false true times h f = absurd (both_ways false refl (f refl))
old_times false false times h f = h refl

new_times : (there same : Bool) (times : ℕ) → (there ≡ false → times ≡ 0) → (there ≡ true → same ≡ false) → times + cond same 1 0 ≡ times_with there times same
new_times true same times h f = ap (λ b. times + cond b 1 0) (f refl) ∙ plus_none times
  where
    plus_none : (n : ℕ) → n + 0 ≡ n
    plus_none n = omega arith
new_times false same times h f = ap (λ n. n + cond same 1 0) (h refl) ∙ none_plus same
  where
    none_plus : (b : Bool) → 0 + cond b 1 0 ≡ (if b then 1 else 0)
    none_plus true = refl
    none_plus false = refl

not_same : (table : List Atom) (atom new : Atom) (same : Bool) → is_atom atom new ≡ same → list_any (is_atom new) table ≡ false → list_any (is_atom atom) table ≡ true → same ≡ false
not_same table atom new true e f g = absurd (both_ways (list_any (is_atom atom) table) (ap (λ a. list_any (is_atom a) table) (atoms_same atom new e) ∙ f) g)
not_same table atom new false e f g = refl

counted_with : (table : List Atom) (atom new : Atom) (known : Bool) → list_any (is_atom new) table ≡ known → count_by (is_atom atom) (if known then table else table ++ new ∷ []) ≡ times_with (list_any (is_atom atom) table) (count_by (is_atom atom) table) (is_atom atom new)
counted_with table atom new true e = old_times (list_any (is_atom atom) table) (is_atom atom new) (count_by (is_atom atom) table) (none_counted (is_atom atom) table) (λ h. in_of_same table atom new h e)
counted_with table atom new false e =
    sum_by-append (λ y. cond (is_atom atom y) 1 0) table (new ∷ [])
    ∙ ap (λ n. count_by (is_atom atom) table + n) (one_counted (is_atom atom new))
    ∙ new_times (list_any (is_atom atom) table) (is_atom atom new) (count_by (is_atom atom) table) (none_counted (is_atom atom) table) (not_same table atom new (is_atom atom new) refl e)
  where
    one_counted : (b : Bool) → 0 + cond b 1 0 ≡ cond b 1 0
    one_counted true = refl
    one_counted false = refl

-- one more atom, and then others
times_more : (there same later : Bool) (times : ℕ) → (if there || same then times_with there times same else (if later then 1 else 0)) ≡ times_with there times (same || later)
times_more true same later times = refl
times_more false true later times = refl
times_more false false later times = refl

pub counted : (table atoms : List Atom) (atom : Atom) → count_by (is_atom atom) (with_atoms table atoms) ≡ times_with (list_any (is_atom atom) table) (count_by (is_atom atom) table) (list_any (is_atom atom) atoms)
counted table [] atom = old_times (list_any (is_atom atom) table) false (count_by (is_atom atom) table) (none_counted (is_atom atom) table) (λ h. absurd (both_ways false refl h))
counted table (new ∷ rest) atom =
    let there = list_any (is_atom atom) table in
    let times = count_by (is_atom atom) table in
    let same = is_atom atom new in
    let known = list_any (is_atom new) table in
    let later = list_any (is_atom atom) rest in
    counted (with_atom table new) rest atom
    ∙ ap (λ b. times_with b (count_by (is_atom atom) (with_atom table new)) later) (has_with table atom new known refl)
    ∙ ap (λ n. times_with (there || same) n later) (counted_with table atom new known refl)
    ∙ times_more there same later times

pub once : (table atoms : List Atom) (atom : Atom) → count_by (is_atom atom) (with_atoms table atoms) ≡ (if is_in table atom then count_by (is_atom atom) table else (if list_any (is_atom atom) atoms then 1 else 0))
once table atoms atom = counted table atoms atom ∙ ap (λ b. times_with b (count_by (is_atom atom) table) (list_any (is_atom atom) atoms)) (sym (in_is table atom))

-- ---- each is there

has_all : (table atoms : List Atom) (atom : Atom) → (list_any (is_atom atom) table || list_any (is_atom atom) atoms) ≡ true → list_any (is_atom atom) (with_atoms table atoms) ≡ true
has_all table [] atom e = either_end (list_any (is_atom atom) table) false (λ h. absurd (both_ways false refl h)) ∙ e
has_all table (new ∷ rest) atom e =
    has_all (with_atom table new) rest atom
    (ap (λ b. b || list_any (is_atom atom) rest) (has_with table atom new (list_any (is_atom new) table) refl) ∙ or_again (list_any (is_atom atom) table) (is_atom atom new) (list_any (is_atom atom) rest) ∙ e)
  where
    or_again : (a b c : Bool) → ((a || b) || c) ≡ (a || (b || c))
    or_again true b c = refl
    or_again false b c = refl

pub each : (table atoms : List Atom) (atom : Atom) → Contains atoms atom → is_in (with_atoms table atoms) atom ≡ true
each table atoms atom found =
    in_is (with_atoms table atoms) atom
    ∙ has_all table atoms atom (right_so (list_any (is_atom atom) table) (list_any (is_atom atom) atoms) (list_any_at (is_atom atom) atoms found.0 atom found.1 (ap (is_atom atom) found.2 ∙ same_atom atom)))
  where
    right_so : (a b : Bool) → b ≡ true → (a || b) ≡ true
    right_so true b e = refl
    right_so false b e = e
