-- The number of bindings.
use Rattle.std.proofs.Common.{◌≡◌, ℕ, suc, ◌+◌, ◌*◌, refl, sym, ap, ◌∙◌, arith, List, [], ◌∷◌, length, map, filter, length-append}
use Rattle.std.specs.List.{flat_map}
use Rattle.std.proofs.lemmas.List.{length-map}
use Rattle.std.proofs.lemmas.List.Concat.{flat_map-cons}
use Rattle.std.proofs.lemmas.List.Sums.{length-filter}
use Rattle.std.proofs.Math.Nat.{zero-mul}
use Rattle.stp_types.specs.Forest.{is_below}
use Rattle.stp_schema.specs.Rows.{Thing}
use Rattle.stp_problem.specs.Sizes.{size_of}
use Rattle.stp_problem.specs.Nodes.{bindings}
use Rattle.stp_problem.specs.Counting.{all_bindings}

-- each of these before each of those
before_each : {X : Type 0} (xs : List X) (rests : List (List X)) → length (flat_map (λ x. map (λ r. x ∷ r) rests) xs) ≡ length xs * length rests
before_each [] rests = sym (zero-mul (length rests))
before_each (x ∷ xs) rests =
    ap length (flat_map-cons (λ y. map (λ r. y ∷ r) rests) x xs)
    ∙ length-append (map (λ r. x ∷ r) rests) (flat_map (λ y. map (λ r. y ∷ r) rests) xs)
    ∙ (let one = length-map rests (λ r. x ∷ r) in let others = before_each xs rests in sums (length (map (λ r. x ∷ r) rests)) (length (flat_map (λ y. map (λ r. y ∷ r) rests) xs)) (length xs) (length rests) one others)
  where
    sums : (a b n m : ℕ) → a ≡ m → b ≡ n * m → a + b ≡ suc n * m
    sums a b n m e f = grind arith

pub bindings_number : (parents : List ℕ) (objects : List Thing) (kinds : List ℕ) → bindings (size_of parents objects) kinds ≡ length (all_bindings parents objects kinds)
bindings_number parents objects [] = refl
bindings_number parents objects (kind ∷ kinds) =
    ap (λ n. size_of parents objects kind * n) (bindings_number parents objects kinds)
    ∙ ap (λ n. n * length (all_bindings parents objects kinds)) (sym (length-filter (λ o. is_below parents o.kind kind) objects))
    ∙ sym (before_each (filter (λ o. is_below parents o.kind kind) objects) (all_bindings parents objects kinds))
