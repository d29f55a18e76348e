-- Types pass their objects on to their parents, one after the other, those with more steps to the root first.
use Rattle.std.specs.Prelude.{◌≡◌, ◌≢◌, ℕ, zero, suc, ◌<◌, ◌≤◌, ◌⊎◌, Bool, true, false, not, ◌==◌, ◌&&◌, if◌then◌else◌, List, length, All}
use Rattle.std.specs.List.{count_by}
use Rattle.std.specs.List.Sorted.{IsNonDecreasingBy}
use Rattle.stp_types.specs.declared.row.Ancestry.{Ancestry}
use Rattle.stp_types.specs.Forest.{parent_of}
use Rattle.stp_types.specs.Rows.{depth_of, parents_of}
use Rattle.stp_schema.specs.declared.rows.ObjectRow.{ObjectRow}
use Rattle.stp_problem.specs.declared.rung.Rung.{Rung}

-- how often a type stands among these
abbrev pub times : List Rung → ℕ → ℕ
times rungs kind = count_by (λ r. r.kind == kind) rungs

-- whether a type has passed its objects on. The root never does.
abbrev pub has_passed : List Rung → ℕ → Bool
has_passed left kind = not (kind == 0) && (times left kind == 0)

-- whether at most so many steps lead from a type to another, each from a type that has passed its objects on
abbrev pub leads : List ℕ → (ℕ → Bool) → ℕ → ℕ → ℕ → Bool
leads parents passed zero kind other = kind == other
leads parents passed (suc n) kind other = if kind == other then true else (if passed kind then leads parents passed n (parent_of parents kind) other else false)

-- the objects that have come to a type
abbrev pub come_to : List Ancestry → List ObjectRow → List Rung → ℕ → ℕ
come_to rows objects left kind = count_by (λ o. leads (parents_of rows) (has_passed left) (length rows) o.kind kind) objects

-- each of these is a type below the root, with its depth
abbrev pub IsRung : List Ancestry → Rung → Type 0
IsRung rows rung = (rung.kind ≢ 0) × (rung.kind < length rows) × (rung.depth ≡ depth_of rows rung.kind)

-- types that are left, each once, the deepest last; with each stand those above it
pub record AreLeft (rows : List Ancestry) (left : List Rung) : Type 0 where
  pub rungs : All (IsRung rows) left
  pub sorted : IsNonDecreasingBy (λ r. r.depth) left
  pub once : (kind : ℕ) → times left kind ≤ 1
  pub above : (kind : ℕ) → kind < length rows → 0 < times left kind → (parent_of (parents_of rows) kind ≡ 0) ⊎ (0 < times left (parent_of (parents_of rows) kind))

-- all types below the root are left
pub record AreAllLeft (rows : List Ancestry) (left : List Rung) : Type 0 where
  pub lawful : AreLeft rows left
  pub complete : (kind : ℕ) → kind ≢ 0 → kind < length rows → times left kind ≡ 1
