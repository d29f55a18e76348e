-- One more item of a list, picked or not by the lowest bit that is left.
use Rattle.std.proofs.Common.{◌≡◌, ◌≢◌, ℕ, ◌+◌, ◌<◌, ◌/◌, ◌%◌, ◌==◌, cond, List, [], ◌∷◌, ◌++◌, length, drop, get_or, sym, ap, ◌∙◌, append_assoc}
use Rattle.std.proofs.lemmas.Bool.{ne_eqb}
use Rattle.std.proofs.lemmas.List.{drop_more}
use Rattle.stp_expand.specs.Expanded.{picked}

pub picked_in : {X : Type 0} (xs : List X) (i : ℕ) (d : X) (bits : ℕ) (whole set new : List X) → i < length xs → bits % 2 ≡ 1 → new ≡ set ++ get_or xs i d ∷ [] → set ++ picked (drop i xs) bits ≡ whole → new ++ picked (drop (i + 1) xs) (bits / 2) ≡ whole
picked_in xs i d bits whole set new below one e h =
    let rest = picked (drop (i + 1) xs) (bits / 2) in
    ap (λ l. l ++ rest) e ∙ (append_assoc set (get_or xs i d ∷ []) rest
    ∙ (ap (λ l. set ++ l) (sym (ap (λ l. picked l bits) (drop_more xs i d below) ∙ ap (λ k. cond (k == 1) (get_or xs i d ∷ rest) rest) one)) ∙ h))

pub picked_out : {X : Type 0} (xs : List X) (i : ℕ) (d : X) (bits : ℕ) (whole set : List X) → i < length xs → bits % 2 ≢ 1 → set ++ picked (drop i xs) bits ≡ whole → set ++ picked (drop (i + 1) xs) (bits / 2) ≡ whole
picked_out xs i d bits whole set below none h =
    let rest = picked (drop (i + 1) xs) (bits / 2) in
    ap (λ l. set ++ l) (sym (ap (λ l. picked l bits) (drop_more xs i d below) ∙ ap (λ b. cond b (get_or xs i d ∷ rest) rest) (ne_eqb (bits % 2) 1 none))) ∙ h
