-- Lists that are made item by item.
use Rattle.std.proofs.Common.{◌≡◌, ℕ, ◌<◌, ◌≤◌, List, [], ◌++◌, length, map, drop, get_or, All, sym, ap, ◌∙◌, subst}
use Rattle.std.proofs.lemmas.List.{append-nil, drop_all, get_or-map, length-map}

-- all items
pub all_done : {X A : Type 0} (f : List X → List A) (done whole : List A) (xs : List X) (i : ℕ) → f [] ≡ [] → length xs ≤ i → done ++ f (drop i xs) ≡ whole → done ≡ whole
all_done f done whole xs i none past h = sym (append-nil done) ∙ ap (λ l. done ++ l) (sym none) ∙ ap (λ l. done ++ f l) (sym (drop_all i xs past)) ∙ h

-- a fact of each item, at one
pub fact_at : {X : Type 0} (P : X → Type 0) (xs : List X) (i : ℕ) (x : X) → i < length xs → x ≡ get_or xs i x → All P xs → P x
fact_at P xs i x l e h = subst P (sym e) (h i x l)

-- an item among those that stand for others
pub mapped_at : {X Y : Type 0} (f : X → Y) (xs items : List X) (i : ℕ) (x : X) → items ≡ xs → i < length items → x ≡ get_or items i x → (i < length (map f xs)) × (get_or (map f xs) i (f x) ≡ f x)
mapped_at f xs items i x same below is =
    let l : i < length xs = subst (λ l. i < length l) same below in
    (subst (λ n. i < n) (sym (length-map xs f)) l, get_or-map f xs i x (f x) l ∙ ap f (sym (subst (λ l. x ≡ get_or l i x) same is)))

pub mapped_past : {X Y : Type 0} (f : X → Y) (xs items : List X) (i : ℕ) → items ≡ xs → length items ≤ i → length (map f xs) ≤ i
mapped_past f xs items i same past = subst (λ n. n ≤ i) (ap length same ∙ sym (length-map xs f)) past
