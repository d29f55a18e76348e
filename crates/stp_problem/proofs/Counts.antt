-- Counts of objects.
use Rattle.std.proofs.Common.{◌≡◌, ℕ, suc, ◌+◌, ◌<◌, ◌≤◌, get_or, take, length-take-le, Bool, true, false, cond, List, [], ◌∷◌, length, map, refl, sym, ap, ◌∙◌, arith}
use Rattle.std.proofs.lemmas.List.{get_or_default}
use Rattle.std.specs.Prelude.{All, ◌==◌}
use Rattle.std.specs.List.{count_by}
use Rattle.std.proofs.lemmas.List.Sums.{sum_by-cons, count_by-le-length}

abbrev pub one : Bool → ℕ
one b = cond b 1 0

pub count-cons : {X : Type 0} (p : X → Bool) (x : X) (xs : List X) → count_by p (x ∷ xs) ≡ one (p x) + count_by p xs
count-cons p x xs = sum_by-cons (λ y. one (p y)) x xs

module _ {X : Type 0} (P : X → Type 0) where
  pub head : (x : X) (xs : List X) → All P (x ∷ xs) → P x
  head x xs all = all 0 x (omega arith)

  pub tail : (x : X) (xs : List X) → All P (x ∷ xs) → All P xs
  tail x xs all = λ k d h. all (suc k) d (omega arith)

  -- equal tests count the same
  pub same_count : (f g : X → Bool) (xs : List X) → All P xs → ((x : X) → P x → f x ≡ g x) → count_by f xs ≡ count_by g xs
  same_count f g [] all same = refl
  same_count f g (x ∷ xs) all same =
      count-cons f x xs
      ∙ ap (λ b. one b + count_by f xs) (same x (head x xs all))
      ∙ ap (λ n. one (g x) + n) (same_count f g xs (tail x xs all) same)
      ∙ sym (count-cons g x xs)

  -- a test that is another, or a third besides where something holds
  pub sum_count : (f g h : X → Bool) (b : Bool) (xs : List X) → All P xs → ((x : X) → P x → one (f x) ≡ one (g x) + cond b (one (h x)) 0) → count_by f xs ≡ count_by g xs + cond b (count_by h xs) 0
  sum_count f g h true [] all e = refl
  sum_count f g h false [] all e = refl
  sum_count f g h true (x ∷ xs) all e =
      let a = e x (head x xs all) in
      let r = sum_count f g h true xs (tail x xs all) e in
      let i = count-cons f x xs in
      let j = count-cons g x xs in
      let k = count-cons h x xs in
      omega arith
  sum_count f g h false (x ∷ xs) all e =
      let a = e x (head x xs all) in
      let r = sum_count f g h false xs (tail x xs all) e in
      let i = count-cons f x xs in
      let j = count-cons g x xs in
      omega arith

pub count-map : {X Y : Type 0} (p : Y → Bool) (f : X → Y) (xs : List X) → count_by p (map f xs) ≡ count_by (λ x. p (f x)) xs
count-map p f [] = refl
count-map p f (x ∷ xs) = count-cons p (f x) (map f xs) ∙ ap (λ n. one (p (f x)) + n) (count-map p f xs) ∙ sym (count-cons (λ y. p (f y)) x xs)

-- so far at most so many are counted
pub counted_few : {X : Type 0} (kind_of : X → ℕ) (sizes : List ℕ) (xs : List X) (i : ℕ) → i ≤ length xs → ((kind : ℕ) → get_or sizes kind 0 ≡ count_by (λ x. kind_of x == kind) (take i xs)) → (n kind : ℕ) → kind < length sizes → n ≡ get_or sizes kind n → n ≤ i
counted_few kind_of sizes xs i h so_far n kind there is =
    let e = so_far kind in
    let f = count_by-le-length (λ x. kind_of x == kind) (take i xs) in
    let g = length-take-le i xs h in
    let d = get_or_default sizes kind n 0 there in
    omega (arith, is, e, f, g, d)
