-- Rows of truth values, of which the first so many are set.
use Rattle.std.proofs.Common.{◌≡◌, ℕ, zero, suc, ◌+◌, Bool, false, List, [], ◌∷◌, length, map, replicate, Option, Some, None, refl, ap, sym, ◌∙◌, arith}
use Rattle.std.specs.Prelude.{is_some, option_map, slice_get, slice_set, unwrap_or}

module _ {X : Type 0} (f : X → Bool) where
  abbrev pub filled : List X → ℕ → List Bool
  filled [] n = []
  filled (x ∷ xs) zero = false ∷ filled xs zero
  filled (x ∷ xs) (suc n) = f x ∷ filled xs n

  pub filled_none : (xs : List X) → replicate (length xs) false ≡ filled xs 0
  filled_none [] = refl
  filled_none (x ∷ xs) = ap (λ l. false ∷ l) (filled_none xs)

  pub filled_all : (xs : List X) → filled xs (length xs) ≡ map f xs
  filled_all [] = refl
  filled_all (x ∷ xs) = ap (λ l. f x ∷ l) (filled_all xs)

  pub filled_long : (xs : List X) (n : ℕ) → length (filled xs n) ≡ length xs
  filled_long [] n = refl
  filled_long (x ∷ xs) zero = ap suc (filled_long xs zero)
  filled_long (x ∷ xs) (suc n) = ap suc (filled_long xs n)

  filled_one : (xs : List X) (n : ℕ) (x : X) → slice_get xs n ≡ Some x → slice_set (filled xs n) n (f x) ≡ filled xs (suc n)
  filled_one [] n x e = refl
  filled_one (y ∷ ys) zero x e = ap (λ o. unwrap_or (option_map f o) false ∷ filled ys 0) (sym e)
  filled_one (y ∷ ys) (suc n) x e = ap (λ l. f y ∷ l) (filled_one ys n x e)

  pub filled_more : (xs : List X) (n : ℕ) (x : X) → slice_get xs n ≡ Some x → slice_set (filled xs n) n (f x) ≡ filled xs (n + 1)
  filled_more xs n x e = filled_one xs n x e ∙ ap (filled xs) (after n)
    where
      after : (n : ℕ) → suc n ≡ n + 1
      after n = omega arith

pub some_kept : {X Y : Type 0} (g : X → Y) (o : Option X) → is_some o ≡ is_some (option_map g o)
some_kept g None = refl
some_kept g (Some x) = refl
