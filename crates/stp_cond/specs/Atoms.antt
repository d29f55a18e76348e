-- Sets of atoms as lists of their numbers, and the events that read, add and delete them.
use Rattle.std.specs.Prelude.{◌≡◌, ℕ, Bool, ◌==◌, ◌&&◌, ◌||◌, not, nat_lt, if◌then◌else◌, List, [], ◌∷◌, filter, All}
use Rattle.std.specs.List.{list_any, list_all}

-- whether an atom is among these
abbrev pub has : List ℕ → ℕ → Bool
has atoms atom = list_any (λ a. a == atom) atoms

abbrev pub have_common : List ℕ → List ℕ → Bool
have_common xs ys = list_any (has ys) xs

-- an ascending list with one more number, which is not put in twice
abbrev pub with_number : ℕ → List ℕ → List ℕ
with_number n [] = n ∷ []
with_number n (x ∷ xs) = if nat_lt n x then n ∷ x ∷ xs else (if n == x then x ∷ xs else x ∷ with_number n xs)

-- the numbers of a list, ascending, each once
abbrev pub set_of : List ℕ → List ℕ
set_of [] = []
set_of (x ∷ xs) = with_number x (set_of xs)

-- those of the one list that are not in the other
abbrev pub without : List ℕ → List ℕ → List ℕ
without xs ys = filter (λ x. not (has ys x)) xs

-- an event: what it needs of a state, and the atoms that it reads, adds and deletes
pub record PlainEvent : Type 0 where
  pub cond : (ℕ → Bool) → Bool
  pub reads : List ℕ
  pub adds : List ℕ
  pub dels : List ℕ

-- a condition depends only on the atoms that its event reads
abbrev pub ReadsAlone : PlainEvent → Type 0
ReadsAlone e = (s t : ℕ → Bool) → All (λ a. s a ≡ t a) e.reads → e.cond s ≡ e.cond t

-- the state after an event: what it deletes is false, and then what it adds is true
abbrev pub changed_by : PlainEvent → (ℕ → Bool) → ℕ → Bool
changed_by event state atom = has event.adds atom || (not (has event.dels atom) && state atom)

-- the one reads what the other writes, or adds what the other deletes
abbrev pub disturbs : PlainEvent → PlainEvent → Bool
disturbs one other = have_common one.reads other.adds || have_common one.reads other.dels || have_common one.adds other.dels

abbrev pub interfere : PlainEvent → PlainEvent → Bool
interfere one other = disturbs one other || disturbs other one

-- the event that needs all of some atoms, which it reads; an atom that it both adds and deletes counts as added
abbrev pub conjunctive : List ℕ → List ℕ → List ℕ → PlainEvent
conjunctive needs adds dels = record { cond = λ s. list_all s needs; reads = set_of needs; adds = set_of adds; dels = set_of (without dels adds) }
