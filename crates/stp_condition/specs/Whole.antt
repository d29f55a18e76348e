-- A condition in the scope of given variables.
use Rattle.std.specs.Prelude.{ℕ, List, [], ◌∷◌, map}
use Rattle.std.specs.Borrow.{Bor}
use Rattle.stp_condition.specs.Scope.{Var}

abbrev pub texts_of : List (Bor (List ℕ)) → List (List ℕ)
texts_of names = map (λ n. n.now) names

-- variables with these names and these types
abbrev pub scope_with : List (List ℕ) → List ℕ → List Var
scope_with [] kinds = []
scope_with (n ∷ ns) [] = []
scope_with (n ∷ ns) (k ∷ ks) = record { name = n; kind = k } ∷ scope_with ns ks
