-- Variables in scope, the outermost first.
use Rattle.std.specs.Prelude.{ℕ, ◌+◌, List, [], ◌∷◌, Option, Some, None, map, option_map, slice_get, bytes_eq, if◌then◌else◌}

pub record Var : Type 0 where
  pub name : List ℕ
  pub kind : ℕ

abbrev pub kinds_of : List Var → List ℕ
kinds_of vs = map (λ v. v.kind) vs

-- what a second step gives where the first gives something
abbrev pub with_value : {A B : Type 0} → (A → Option B) → Option A → Option B
with_value f None = None
with_value f (Some x) = f x

-- the number of the last variable of a name, of these from number i on, after what was found before
abbrev pub last_from : ℕ → Option ℕ → List ℕ → List Var → Option ℕ
last_from i found name [] = found
last_from i found name (v ∷ vs) = last_from (i + 1) (if bytes_eq name v.name then Some i else found) name vs

-- the number of the last variable of a name
abbrev pub last_of : List ℕ → List Var → Option ℕ
last_of name scope = last_from 0 None name scope

-- a variable's number with its type
abbrev pub variable_at : List Var → ℕ → Option (ℕ × ℕ)
variable_at scope number = option_map (λ v. (number, v.kind)) (slice_get scope number)

-- the number and the type of the innermost variable of a name
abbrev pub variable_in : List ℕ → List Var → Option (ℕ × ℕ)
variable_in name scope = with_value (variable_at scope) (last_of name scope)
