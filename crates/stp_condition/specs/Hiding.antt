-- How a scope keeps which variables are hidden.
use Rattle.std.specs.Prelude.{◌≡◌, ℕ, ◌≤◌, ◌<◌, List, [], ◌∷◌, ◌++◌, Option, Some, None, length, map, slice_get}
use Rattle.stp_tables.specs.Names.{number_of}
use Rattle.stp_condition.specs.declared.scope.Variable.{Variable}
use Rattle.stp_condition.specs.Scope.{Var, last_of, with_value}

abbrev pub var_of : Variable → Var
var_of v = record { name = v.name.now; kind = v.kind }

abbrev pub scope_of : List Variable → List Var
scope_of vs = map var_of vs

-- the number that is kept for a word
abbrev pub latest_at : List (Option ℕ) → ℕ → Option ℕ
latest_at latest word = with_value (λ o. o) (slice_get latest word)

-- the number that is kept for a name
abbrev pub latest_in : List (List ℕ) → List (Option ℕ) → List ℕ → Option ℕ
latest_in words latest name = with_value (latest_at latest) (number_of words name)

-- a variable has the number of its name, and of the variable that it hides
pub record IsKept (words : List (List ℕ)) (room : ℕ) (before : List Variable) (v : Variable) : Type 0 where
  pub word : number_of words v.name.now ≡ Some v.word
  pub within : v.word < room
  pub hidden : v.hidden ≡ last_of v.name.now (scope_of before)

abbrev pub AreKept : List (List ℕ) → ℕ → List Variable → List Variable → Type 0
AreKept words room before [] = Unit {0}
AreKept words room before (v ∷ vs) = IsKept words room before v × AreKept words room (before ++ v ∷ []) vs

pub record IsScope (variables : List Variable) (words : List (List ℕ)) (latest : List (Option ℕ)) : Type 0 where
  pub few : length variables ≤ 4000000000
  pub room : length words ≤ length latest
  pub spare : (word : ℕ) → length words ≤ word → latest_at latest word ≡ None
  pub right : (name : List ℕ) → latest_in words latest name ≡ last_of name (scope_of variables)
  pub kept : AreKept words (length latest) [] variables
