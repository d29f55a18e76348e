-- The numbers of shadows and opened atoms: the atoms keep theirs, their shadows follow, and then the opened atoms.
use Rattle.std.specs.Prelude.{◌≡◌, ℕ, ◌+◌, ◌<◌, ◌==◌, ◌||◌, Bool, true, false, if◌then◌else◌, List, [], ◌∷◌, ◌++◌, map, filter, length, All, Option, Some, None, IfSome}
use Rattle.std.specs.List.{list_any, position_or_len, range_with_len}
use Rattle.stp_cond.specs.Atoms.{PlainEvent, has}
use Rattle.stp_cond.specs.Formulas.{Formula, Conjunction, NoMore, atoms_in}
use Rattle.stp_cond.specs.Truth.{state_of_row}
use Rattle.stp_rewriting.specs.Rewritten.{Rewriting, Ending}
use Rattle.stp_rewriting.specs.Fitting.{IsBelow, IsRewriting}

-- what is taken from an action: what happens at its end, if it is uncertain, and its over-all condition
pub record PlainKept : Type 0 where
  pub ending : Option PlainEvent
  pub over : Formula

abbrev pub ending_of : ℕ → Option PlainEvent → List Ending
ending_of key None = []
ending_of key (Some e) = record { key = key; event = e } ∷ []

-- the ends of the uncertain ones of these actions, the first of which has this key
abbrev pub endings_from : ℕ → List PlainKept → List Ending
endings_from key [] = []
endings_from key (a ∷ bs) = ending_of key a.ending ++ endings_from (key + 1) bs

-- the over-all condition of an action by its key
abbrev pub over_from : ℕ → List PlainKept → ℕ → Formula
over_from number [] key = Conjunction NoMore
over_from number (a ∷ bs) key = if key == number then a.over else over_from (number + 1) bs key

-- the atoms below a number that these ends write, in their order
abbrev pub shadowed_among : ℕ → List Ending → List ℕ
shadowed_among n endings = filter (λ a. list_any (λ o. has o.event.adds a || has o.event.dels a) endings) (range_with_len 0 n)

-- shadows in the order of their atoms, opened atoms in the order of the actions; a shadow is at first as its atom
abbrev pub rewriting_of : ℕ → List PlainKept → List Bool → Rewriting
rewriting_of n actions initial = record {
  plain = n;
  shadow = λ a. n + position_or_len (λ x. x == a) (shadowed_among n (endings_from 1 actions));
  opened = λ key. (n + length (shadowed_among n (endings_from 1 actions))) + position_or_len (λ o. o.key == key) (endings_from 1 actions);
  endings = endings_from 1 actions;
  over = over_from 1 actions;
  initial = (initial ++ map (state_of_row initial) (shadowed_among n (endings_from 1 actions))) ++ map (λ o. false) (endings_from 1 actions);
}

-- what is taken from an action has atoms below a number
abbrev pub IsKeptBelow : ℕ → PlainKept → Type 0
IsKeptBelow n a = IfSome a.ending (IsBelow n) × ((x : ℕ) → has (atoms_in a.over) x ≡ true → x < n)

-- plain atoms, shadows and opened atoms have numbers of their own
abbrev pub NumbersAreProper : Type 0
NumbersAreProper = (n : ℕ) (actions : List PlainKept) (initial : List Bool) → All (IsKeptBelow n) actions → length initial ≡ n → IsRewriting (rewriting_of n actions initial)
