-- Two lists in order that have the same members are one list.
use Rattle.std.proofs.Common.{◌≡◌, Bool, true, List, [], ◌∷◌, Contains, refl, sym, ap₂, subst, ◌∙◌, inl, inr}
use Rattle.std.specs.List.{list_all}
use Rattle.stp_happen.specs.Orders.{HaveSameMembers}
use Rattle.stp_happen.specs.Sound.{is_ascending}
use Rattle.stp_happen.proofs.Members.{here, there, member_cases, member_nil, and_left, and_right, each_passes}

module _ {X : Type 0} (comes_before : X → X → Bool) (one_way : (x y : X) → comes_before x y ≡ true → comes_before y x ≡ true → ⊥) where
  -- what stands behind the first comes after it
  behind : (x : X) (xs : List X) → is_ascending comes_before (x ∷ xs) ≡ true → (z : X) → Contains xs z → comes_before x z ≡ true
  behind x xs up z i = each_passes (comes_before x) xs (and_left (list_all (comes_before x) xs) (is_ascending comes_before xs) up) z i

  rest_up : (x : X) (xs : List X) → is_ascending comes_before (x ∷ xs) ≡ true → is_ascending comes_before xs ≡ true
  rest_up x xs up = and_right (list_all (comes_before x) xs) (is_ascending comes_before xs) up

  -- the first of one list is the first of the other
  same_first : (x : X) (xs : List X) (y : X) (ys : List X) → is_ascending comes_before (x ∷ xs) ≡ true → is_ascending comes_before (y ∷ ys) ≡ true → HaveSameMembers (x ∷ xs) (y ∷ ys) → x ≡ y
  same_first x xs y ys up up' same =
      elim (member_cases y ys x ((same x).0 (here x xs))) [
        | inl e ↦ sym e
        | inr i ↦ elim (member_cases x xs y ((same y).1 (here y ys))) [ inl e ↦ e | inr j ↦ absurd (one_way y x (behind y ys up' x i) (behind x xs up y j)) ]
      ]

  -- a member of the rest is one of the other rest
  rest_member : (x : X) (xs : List X) (y : X) (ys : List X) → x ≡ y → is_ascending comes_before (x ∷ xs) ≡ true → (z : X) → Contains xs z → Contains (y ∷ ys) z → Contains ys z
  rest_member x xs y ys e up z i j =
      elim (member_cases y ys z j) [
        | inl f ↦ let loop : comes_before x x ≡ true = subst (λ w. comes_before x w ≡ true) (sym (e ∙ f)) (behind x xs up z i) in absurd (one_way x x loop loop)
        | inr k ↦ k
      ]

  pub one_list : (xs ys : List X) → is_ascending comes_before xs ≡ true → is_ascending comes_before ys ≡ true → HaveSameMembers xs ys → xs ≡ ys
  one_list [] [] up up' same = refl
  one_list [] (y ∷ ys) up up' same = absurd (member_nil y ((same y).1 (here y ys)))
  one_list (x ∷ xs) [] up up' same = absurd (member_nil x ((same x).0 (here x xs)))
  one_list (x ∷ xs) (y ∷ ys) up up' same =
      let e : x ≡ y = same_first x xs y ys up up' same in
      let rest : xs ≡ ys = one_list xs ys (rest_up x xs up) (rest_up y ys up') (λ z.
      (λ i. rest_member x xs y ys e up z i ((same z).0 (there x xs z i)), λ i. rest_member y ys x xs (sym e) up' z i ((same z).1 (there y ys z i)))) in
      ap₂ (λ w ws. w ∷ ws) e rest
