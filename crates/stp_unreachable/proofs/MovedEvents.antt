-- What an event adds and deletes, by the numbers of one table and of another.
use Rattle.std.proofs.Common.{◌≡◌, ℕ, ◌==◌, Bool, true, false, not, List, [], ◌∷◌, Option, Some, None, Contains, inl, inr, refl, sym, ap, ◌∙◌, true≢false, eqb-true, eq-eqb}
use Rattle.std.specs.Prelude.{slice_get}
use Rattle.std.specs.Option.{is_some}
use Rattle.std.specs.List.{list_all, cons_option}
use Rattle.std.proofs.lemmas.Bool.{and_parts, or_cases, or_left, or_right}
use Rattle.stp_schema.specs.Views.{PlainProblem}
use Rattle.stp_tables.specs.Atoms.{Atom, number_of}
use Rattle.stp_cond.specs.Atoms.{has, without}
use Rattle.stp_cond.proofs.Rising.{has_set, has_from_Contains, Contains_from_has}
use Rattle.stp_happen.proofs.Members.{each_passes, here, kept_member, member_cases, member_nil, member_of_kept, there}
use Rattle.stp_task.specs.Certificates.{Pair}
use Rattle.stp_instance.specs.Numbered.{is_in, numbers_in}
use Rattle.stp_instance.specs.Effects.{added, deleted}
use Rattle.stp_unreachable.proofs.Moved.{is_in_both, moved, number_stands, value_there}

-- ---- the numbers of atoms

-- an atom among these that has a number
record HasNumber (table atoms : List Atom) (n : ℕ) : Type 0 where
  atom : Atom
  there : Contains atoms atom
  number : number_of table atom ≡ Some n

later : (table : List Atom) (x : Atom) (xs : List Atom) (n : ℕ) → HasNumber table xs n → HasNumber table (x ∷ xs) n
later table x xs n h = record { atom = h.atom; there = there x xs h.atom h.there; number = h.number }

number_found : (table atoms : List Atom) (n : ℕ) → has (numbers_in table atoms) n ≡ true → HasNumber table atoms n
number_found table [] n e = absurd (true≢false (sym e))
number_found table (x ∷ xs) n e = at (number_of table x) refl e (number_found table xs n)
  where
    at : (o : Option ℕ) → number_of table x ≡ o → has (cons_option o (numbers_in table xs)) n ≡ true → (has (numbers_in table xs) n ≡ true → HasNumber table xs n) → HasNumber table (x ∷ xs) n
    at None s e k = later table x xs n (k e)
    at (Some m) s e k =
        elim (or_cases (m == n) (has (numbers_in table xs) n) e) [
          | inl h ↦ record { atom = x; there = here x xs; number = s ∙ ap Some (eqb-true m n h) }
          | inr h ↦ later table x xs n (k h)
        ]

number_had : (table atoms : List Atom) (atom : Atom) (n : ℕ) → Contains atoms atom → number_of table atom ≡ Some n → has (numbers_in table atoms) n ≡ true
number_had table [] atom n i e = absurd (member_nil atom i)
number_had table (x ∷ xs) atom n i e =
    elim (member_cases x xs atom i) [
      | inl h ↦ ap (λ o. has (cons_option o (numbers_in table xs)) n) (ap (number_of table) h ∙ e) ∙ or_left (n == n) (has (numbers_in table xs) n) (eq-eqb n n refl)
      | inr j ↦ at (number_of table x) (number_had table xs atom n j e)
    ]
  where
    at : (o : Option ℕ) → has (numbers_in table xs) n ≡ true → has (cons_option o (numbers_in table xs)) n ≡ true
    at None h = h
    at (Some m) h = or_right (m == n) (has (numbers_in table xs) n) h

abbrev pub Number : List Atom → Atom → Type 0
Number table atom = (n : ℕ) × (number_of table atom ≡ Some n)

pub its_number : (table : List Atom) (atom : Atom) → is_in table atom ≡ true → Number table atom
its_number table atom e = at (number_of table atom) refl e
  where
    at : (o : Option ℕ) → number_of table atom ≡ o → is_some o ≡ true → Number table atom
    at None s e = absurd (true≢false (sym e))
    at (Some n) s e = (n, s)

some_same : (x y : Atom) (o : Option Atom) → o ≡ Some x → o ≡ Some y → x ≡ y
some_same x y o e f = cc

module _ (p : PlainProblem) (old new : List Atom) (pair : Pair) where
  old_number : (atoms : List Atom) (atom : Atom) → list_all (is_in_both old new) atoms ≡ true → Contains atoms atom → Number old atom
  old_number atoms atom h i = its_number old atom (and_parts (is_in old atom) (is_in new atom) (each_passes (is_in_both old new) atoms h atom i)).0

  pub added_moved : (adding : List Atom) → list_all (is_in_both old new) adding ≡ true → ((n : ℕ) → has (added old adding) n ≡ true → pair.may n ≡ true) → (a : ℕ) → has (added new adding) a ≡ true → (moved p old new pair).may a ≡ true
  added_moved adding h allowed a e =
      let r = number_found new adding a (sym (has_set (numbers_in new adding) a) ∙ e) in
      let n = old_number adding r.atom h r.there in
      value_there p old new pair.may r.atom n.0 a n.1 r.number
      ∙ allowed n.0 (has_set (numbers_in old adding) n.0 ∙ number_had old adding r.atom n.0 r.there n.1)

  -- an atom that is not added by its new number is not added by its old one
  not_added : (adding : List Atom) (atom : Atom) (n a : ℕ) → number_of old atom ≡ Some n → number_of new atom ≡ Some a → not (has (numbers_in new adding) a) ≡ true → not (has (numbers_in old adding) n) ≡ true
  not_added adding atom n a e f h = at (has (numbers_in old adding) n) refl
    where
      at : (b : Bool) → has (numbers_in old adding) n ≡ b → not b ≡ true
      at false s = refl
      at true s =
          let r = number_found old adding n s in
          let same : r.atom ≡ atom = some_same r.atom atom (slice_get old n) (number_stands old r.atom n r.number) (number_stands old atom n e) in
          let there : has (numbers_in new adding) a ≡ true = number_had new adding r.atom a r.there (ap (number_of new) same ∙ f) in
          ap not (sym there) ∙ h

  pub deleted_moved : (adding deleting : List Atom) → list_all (is_in_both old new) deleting ≡ true → ((n : ℕ) → has (deleted old adding deleting) n ≡ true → pair.always n ≡ false) → (a : ℕ) → has (deleted new adding deleting) a ≡ true → (moved p old new pair).always a ≡ false
  deleted_moved adding deleting h allowed a e =
      let left : Contains (without (numbers_in new deleting) (numbers_in new adding)) a = Contains_from_has (without (numbers_in new deleting) (numbers_in new adding)) a (sym (has_set (without (numbers_in new deleting) (numbers_in new adding)) a) ∙ e) in
      let both = member_of_kept (λ x. not (has (numbers_in new adding) x)) (numbers_in new deleting) a left in
      let r = number_found new deleting a (has_from_Contains (numbers_in new deleting) a both.0) in
      let n = old_number deleting r.atom h r.there in
      let there : Contains (numbers_in old deleting) n.0 = Contains_from_has (numbers_in old deleting) n.0 (number_had old deleting r.atom n.0 r.there n.1) in
      let kept = kept_member (λ x. not (has (numbers_in old adding) x)) (numbers_in old deleting) n.0 there (not_added adding r.atom n.0 a n.1 r.number both.1) in
      value_there p old new pair.always r.atom n.0 a n.1 r.number
      ∙ allowed n.0 (has_set (without (numbers_in old deleting) (numbers_in old adding)) n.0 ∙ has_from_Contains (without (numbers_in old deleting) (numbers_in old adding)) n.0 kept)
