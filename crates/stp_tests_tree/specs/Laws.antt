-- The laws of trees that are given by a table.
use Rattle.std.specs.Prelude.{◌≡◌, ◌<◌, ◌≤◌, ℕ, zero, suc, Bool, true, false, List, [], ◌∷◌, ◌++◌, length, slice_index_or, replicate, Option, Some, None, Contains, refl}
use Rattle.std.proofs.Common.{sym, ap, ◌∙◌, subst, true≢false}
use Rattle.std.proofs.Math.Nat.{not-suc-le-zero, le_of_suc-le-suc, le_refl}
use Rattle.std.specs.Option.{is_some}
use Rattle.std.proofs.lemmas.List.{length-replicate}
use Rattle.std.proofs.lemmas.List.Elements.{Contains-push, Contains-append_left}
use Rattle.stp_tree.specs.Trees.{IsTree, GoesOn}
use Rattle.stp_tree.specs.Rests.{AreRests}
use Rattle.stp_tests_tree.specs.declared.table.Row.{Row}
use Rattle.stp_tests_tree.specs.Tables.{step, walk, is_number, IsNode, is_valid_at, IsValid, state_of}

-- More moves lead on.
pub walk_on : (rows : List Row) (at : Option ℕ) (s u : List Bool) → walk rows at (s ++ u) ≡ walk rows (walk rows at s) u
walk_on rows at [] u = refl
walk_on rows at (right ∷ s) u = walk_on rows (step rows at right) s u

-- A number is reached from a number.
pub before : (rows : List Row) (at : Option ℕ) (right : Bool) → is_number (step rows at right) ≡ true → is_number at ≡ true
before rows None right h = h
before rows (Some number) right h = refl

-- What is valid is a node.
pub valid_number : (rows : List Row) (at : Option ℕ) → is_valid_at rows at ≡ true → is_number at ≡ true
valid_number rows None h = h
valid_number rows (Some number) h = refl

-- Each move is one of the two.
pub one_of_two : (right : Bool) → Contains (false ∷ true ∷ []) right
one_of_two false = Contains-append_left (false ∷ []) (true ∷ []) false (Contains-push [] false)
one_of_two true = Contains-push (false ∷ []) true

-- The two differ.
pub two_differ : (j k : ℕ) (d : Bool) → j < k → k < 2 → slice_index_or (false ∷ true ∷ []) j d ≡ slice_index_or (false ∷ true ∷ []) k d → ⊥
two_differ j zero d less l e = not-suc-le-zero less
two_differ zero (suc zero) d less l e = true≢false (sym e)
two_differ (suc j) (suc zero) d less l e = not-suc-le-zero (le_of_suc-le-suc less)
two_differ j (suc (suc k)) d less l e = not-suc-le-zero (le_of_suc-le-suc (le_of_suc-le-suc l))

-- It is a tree, no child of which may be skipped.
pub table_tree : (rows : List Row) → IsTree {M = Bool} (IsNode rows) (IsValid rows) (λ s. ⊥) (false ∷ true ∷ [])
table_tree rows =
    record {
      root = refl;
      prefix = λ s m h. before rows (walk rows (Some 0) s) m (subst (λ at. is_number at ≡ true) (walk_on rows (Some 0) s (m ∷ [])) h);
      valid_node = λ s h. valid_number rows (walk rows (Some 0) s) h;
      listed = λ s m h. one_of_two m;
      once = two_differ;
      skipped = λ s m u k h. absurd k;
    }

-- How long a state is.
abbrev pub size_of : Option (List Bool) → ℕ
size_of None = 0
size_of (Some r) = length r

-- Equal states are those of one number.
pub same_number : (merges : Bool) (a b : Option ℕ) (r : List Bool) → state_of merges a ≡ Some r → state_of merges b ≡ Some r → a ≡ b
same_number false a b r e f = absurd (true≢false (sym (ap is_some e)))
same_number true None None r e f = refl
same_number true None (Some b) r e f = absurd (true≢false (sym (ap is_some e)))
same_number true (Some a) None r e f = absurd (true≢false (sym (ap is_some f)))
same_number true (Some a) (Some b) r e f = ap Some (sym (length-replicate a true) ∙ (ap size_of (e ∙ sym f) ∙ length-replicate b true))

-- Something goes on from a number in the same way, wherever it was reached.
pub table_rests : (rows : List Row) (merges : Bool) → AreRests {M = Bool} (IsNode rows) (IsValid rows) (λ s. state_of merges (walk rows (Some 0) s))
table_rests rows merges s t r e f node u h =
    let same = same_number merges (walk rows (Some 0) s) (walk rows (Some 0) t) r e f in
    let on : walk rows (Some 0) (s ++ u) ≡ walk rows (Some 0) (t ++ u) = walk_on rows (Some 0) s u ∙ (ap (λ at. walk rows at u) same ∙ sym (walk_on rows (Some 0) t u)) in
    (u, subst (λ at. is_valid_at rows at ≡ true) on h, le_refl (length u))
