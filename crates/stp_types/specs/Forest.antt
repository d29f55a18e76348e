-- The forest of types. Type 0 is the root, and is written as its own parent.
use Rattle.std.specs.Prelude.{◌≡◌, ◌≢◌, ℕ, zero, suc, ◌<◌, Bool, true, not, ◌==◌, ◌&&◌, if◌then◌else◌, List, length, slice_index}

abbrev pub parent_of : List ℕ → ℕ → ℕ
parent_of parents kind = slice_index parents kind

-- each parent is a type
pub record IsTable (parents : List ℕ) : Type 0 where
  pub some : 0 < length parents
  pub root : parent_of parents 0 ≡ 0
  pub within : (kind : ℕ) → kind < length parents → parent_of parents kind < length parents

-- the type to which so many steps lead, each from a type to its parent
abbrev pub above : List ℕ → ℕ → ℕ → ℕ
above parents zero kind = kind
above parents (suc n) kind = above parents n (parent_of parents kind)

-- a type is another, or below it
abbrev pub IsBelow : List ℕ → ℕ → ℕ → Type 0
IsBelow parents kind other = (n : ℕ) × (above parents n kind ≡ other)

-- a type other than the root that is an ancestor of itself
abbrev pub IsOwnAncestor : List ℕ → ℕ → Type 0
IsOwnAncestor parents kind = (kind ≢ 0) × IsBelow parents (parent_of parents kind) kind

-- no type is an ancestor of itself
abbrev pub IsForest : List ℕ → Type 0
IsForest parents = (kind : ℕ) → kind < length parents → IsOwnAncestor parents kind → ⊥

-- ---- the same as tests

-- whether at most so many steps lead from a type to another
abbrev pub climbs : List ℕ → ℕ → ℕ → ℕ → Bool
climbs parents zero kind other = kind == other
climbs parents (suc n) kind other = if kind == other then true else climbs parents n (parent_of parents kind) other

-- whether a type is another, or below it
abbrev pub is_below : List ℕ → ℕ → ℕ → Bool
is_below parents kind other = climbs parents (length parents) kind other

-- whether a type other than the root is an ancestor of itself
abbrev pub is_own_ancestor : List ℕ → ℕ → Bool
is_own_ancestor parents kind = not (kind == 0) && is_below parents (parent_of parents kind) kind
