-- Items made one after the other, each of an item of a list.
use Rattle.std.proofs.Common.{◌≡◌, ℕ, ◌+◌, ◌<◌, ◌≤◌, List, [], ◌∷◌, ◌++◌, length, map, drop, get_or, sym, ap, ◌∙◌, append_assoc}
use Rattle.std.proofs.lemmas.List.{append-nil, drop_all, map_push}
use Rattle.stp_exec.proofs.Joining.{at_item}

-- what the items made so far stand for, and then what the items that are left make, is what all make
abbrev pub AreMade : {A B C D : Type 0} → (A → B) → (B → D) → (C → D) → List C → ℕ → List A → Type 0
AreMade view makes shown made i xs = map shown made ++ map makes (map view (drop i xs)) ≡ map makes (map view xs)

module _ {A B C D : Type 0} (view : A → B) (makes : B → D) (shown : C → D) where
  pub made_more : (made : List C) (one : C) (i : ℕ) (xs : List A) (x : A) → i < length xs → get_or xs i x ≡ x → shown one ≡ makes (view x) → AreMade view makes shown made i xs → AreMade view makes shown (made ++ one ∷ []) (i + 1) xs
  made_more made one i xs x h is e so_far =
      let rest = map makes (map view (drop (i + 1) xs)) in
      ap (λ l. l ++ rest) (map_push shown made one)
      ∙ append_assoc (map shown made) (shown one ∷ []) rest
      ∙ ap (λ y. map shown made ++ y ∷ rest) e
      ∙ ap (λ l. map shown made ++ map makes (map view l)) (sym (at_item xs i x h is))
      ∙ so_far

  pub made_all : (made : List C) (i : ℕ) (xs : List A) → length xs ≤ i → AreMade view makes shown made i xs → map shown made ≡ map makes (map view xs)
  made_all made i xs h so_far =
      sym (append-nil (map shown made))
      ∙ ap (λ l. map shown made ++ map makes (map view l)) (sym (drop_all i xs h))
      ∙ so_far
