-- The first of some faults, one more at a time.
use Rattle.std.proofs.Common.{◌≡◌, ℕ, ◌+◌, ◌<◌, List, [], ◌∷◌, ◌++◌, map, take, get_or, length, Option, Some, None, refl, sym, ap, ◌∙◌}
use Rattle.std.specs.List.{filter_map, flat_map}
use Rattle.std.proofs.lemmas.Grind.{fold-append, flat_map-append}
use Rattle.std.proofs.lemmas.List.{get_or_default, take_more, map-append, append-nil}
use Rattle.std.proofs.lemmas.List.Elements.{filter_map-append}
use Rattle.stp_happen.specs.declared.fault.Fault.{Fault}
use Rattle.stp_happen.specs.Firsts.{sooner_of, first_from}

pub first_from-append : (best : Option Fault) (xs ys : List Fault) → first_from best (xs ++ ys) ≡ first_from (first_from best xs) ys
first_from-append best xs ys = fold-append (λ b f. sooner_of b (Some f)) best xs ys

-- one more that may be a fault
one_more : (best r : Option Fault) → first_from best (filter_map (λ (x : Option Fault). x) (r ∷ [])) ≡ sooner_of best r
one_more None None = refl
one_more (Some f) None = refl
one_more None (Some g) = refl
one_more (Some f) (Some g) = refl

filter_map_one : {X : Type 0} (h : X → Option Fault) (x : X) → filter_map h (x ∷ []) ≡ filter_map (λ (r : Option Fault). r) (h x ∷ [])
filter_map_one h x = refl

map_more : {A X : Type 0} (v : A → X) (xs : List A) (i : ℕ) (x : A) → i < length xs → x ≡ get_or xs i x → map v (take (i + 1) xs) ≡ map v (take i xs) ++ v x ∷ []
map_more v xs i x h is = ap (map v) (take_more xs i x h ∙ ap (λ y. take i xs ++ y ∷ []) (sym is)) ∙ map-append v (take i xs) (x ∷ [])

-- a step of a loop whose item gives a fault or none
pub first_step : {A X : Type 0} (h : X → Option Fault) (v : A → X) (best : Option Fault) (xs : List A) (i : ℕ) (x : A) → i < length xs → x ≡ get_or xs i x →
    sooner_of (first_from best (filter_map h (map v (take i xs)))) (h (v x)) ≡ first_from best (filter_map h (map v (take (i + 1) xs)))
first_step h v best xs i x inside is =
    sym (one_more (first_from best (filter_map h (map v (take i xs)))) (h (v x)))
    ∙ (sym (first_from-append best (filter_map h (map v (take i xs))) (filter_map h (v x ∷ [])))
    ∙ (ap (first_from best) (sym (filter_map-append h (map v (take i xs)) (v x ∷ []))) ∙ ap (λ l. first_from best (filter_map h l)) (sym (map_more v xs i x inside is))))

-- a step of a loop whose item gives a list of faults
pub firsts_step : {A X : Type 0} (f : X → List Fault) (v : A → X) (best : Option Fault) (xs : List A) (i : ℕ) (x : A) → i < length xs → x ≡ get_or xs i x →
    first_from (first_from best (flat_map f (map v (take i xs)))) (f (v x)) ≡ first_from best (flat_map f (map v (take (i + 1) xs)))
firsts_step f v best xs i x inside is =
    sym (first_from-append best (flat_map f (map v (take i xs))) (f (v x)))
    ∙ (ap (λ l. first_from best (flat_map f (map v (take i xs)) ++ l)) (sym (append-nil (f (v x))))
    ∙ (ap (first_from best) (sym (flat_map-append f (map v (take i xs)) (v x ∷ []))) ∙ ap (λ l. first_from best (flat_map f l)) (sym (map_more v xs i x inside is))))

-- the first step, with the names of a loop: the best so far, what the item gives, and the best then
pub step_with : {A X : Type 0} (h : X → Option Fault) (v : A → X) (start : Option Fault) (xs : List A) (i : ℕ) (x : A) → i < length xs → x ≡ get_or xs i x →
    (best r next : Option Fault) → best ≡ first_from start (filter_map h (map v (take i xs))) → r ≡ h (v x) → next ≡ sooner_of best r → next ≡ first_from start (filter_map h (map v (take (i + 1) xs)))
step_with h v start xs i x inside is best r next so_far gives taken =
    taken ∙ (ap (λ b. sooner_of b r) so_far ∙ (ap (sooner_of (first_from start (filter_map h (map v (take i xs))))) gives ∙ first_step h v start xs i x inside is))

pub steps_with : {A X : Type 0} (f : X → List Fault) (v : A → X) (start : Option Fault) (xs : List A) (i : ℕ) (x : A) → i < length xs → x ≡ get_or xs i x →
    (best next : Option Fault) → best ≡ first_from start (flat_map f (map v (take i xs))) → next ≡ first_from best (f (v x)) → next ≡ first_from start (flat_map f (map v (take (i + 1) xs)))
steps_with f v start xs i x inside is best next so_far taken =
    taken ∙ (ap (λ b. first_from b (f (v x))) so_far ∙ firsts_step f v start xs i x inside is)

-- the same where the item is read at a default
pub step_at : {A X : Type 0} (h : X → Option Fault) (v : A → X) (start : Option Fault) (xs : List A) (i : ℕ) (d : A) → i < length xs →
    (best r next : Option Fault) → best ≡ first_from start (filter_map h (map v (take i xs))) → r ≡ h (v (get_or xs i d)) → next ≡ sooner_of best r → next ≡ first_from start (filter_map h (map v (take (i + 1) xs)))
step_at h v start xs i d inside = step_with h v start xs i (get_or xs i d) inside (get_or_default xs i d (get_or xs i d) inside)
