-- Lists that are made element by element of another: of what is made a function `f` gives what `g` gives of what it is made of.
use Rattle.std.proofs.Common.{◌≡◌, ℕ, ◌+◌, ◌<◌, ◌≤◌, List, [], ◌∷◌, ◌++◌, length, map, drop, get_or, ap, sym, ◌∙◌, append_assoc}
use Rattle.std.proofs.lemmas.List.{append-nil, drop_more, drop_all, map-append}

-- one more element
pub mapped_next : {A B C : Type 0} (f : B → C) (g : A → C) (out : List B) (made : B) (xs : List A) (i : ℕ) (d : A) →
    i < length xs → f made ≡ g (get_or xs i d) →
    map f out ++ map g (drop i xs) ≡ map g xs →
    map f (out ++ made ∷ []) ++ map g (drop (i + 1) xs) ≡ map g xs
mapped_next f g out made xs i d below same so_far =
    ap (λ o. o ++ map g (drop (i + 1) xs)) (map-append f out (made ∷ []))
    ∙ append_assoc (map f out) (f made ∷ []) (map g (drop (i + 1) xs))
    ∙ ap (λ v. map f out ++ (v ∷ map g (drop (i + 1) xs))) same
    ∙ ap (λ l. map f out ++ map g l) (sym (drop_more xs i d below))
    ∙ so_far

-- one more element, where the element itself has a name
pub mapped_more : {A B C : Type 0} (f : B → C) (g : A → C) (out : List B) (made : B) (xs : List A) (i : ℕ) (x : A) →
    i < length xs → get_or xs i x ≡ x → f made ≡ g x →
    map f out ++ map g (drop i xs) ≡ map g xs →
    map f (out ++ made ∷ []) ++ map g (drop (i + 1) xs) ≡ map g xs
mapped_more f g out made xs i x below is same so_far = mapped_next f g out made xs i x below (same ∙ ap g (sym is)) so_far

-- all elements
pub mapped_done : {A B C : Type 0} (f : B → C) (g : A → C) (out : List B) (xs : List A) (i : ℕ) →
    length xs ≤ i →
    map f out ++ map g (drop i xs) ≡ map g xs →
    map f out ≡ map g xs
mapped_done f g out xs i above so_far =
    sym (append-nil (map f out))
    ∙ ap (λ l. map f out ++ map g l) (sym (drop_all i xs above))
    ∙ so_far
