-- Loops that stop at the first item that fails a test.
use Rattle.std.proofs.Common.{◌≡◌, ℕ, ◌+◌, ◌<◌, Bool, true, false, ◌&&◌, List, map, drop, length, get_or, ap, sym, ◌∙◌}
use Rattle.std.specs.List.{list_all}
use Rattle.std.proofs.lemmas.List.{at_drop_more}

here_too : {X Y : Type 0} (f : X → Y) (test : Y → Bool) (xs : List X) (i : ℕ) (x : X) → i < length xs → x ≡ get_or xs i x → list_all test (map f (drop i xs)) ≡ (test (f x) && list_all test (map f (drop (i + 1) xs)))
here_too f test xs i x l e = at_drop_more (λ ys. list_all test (map f ys)) xs i x l ∙ ap (λ y. test (f y) && list_all test (map f (drop (i + 1) xs))) (sym e)

pub stops : {X Y : Type 0} (f : X → Y) (test : Y → Bool) (xs : List X) (i : ℕ) (x : X) → i < length xs → x ≡ get_or xs i x → test (f x) ≡ false → list_all test (map f (drop i xs)) ≡ list_all test (map f xs) → list_all test (map f xs) ≡ false
stops f test xs i x l e fails all = sym all ∙ (here_too f test xs i x l e ∙ ap (λ b. b && list_all test (map f (drop (i + 1) xs))) fails)

pub goes_on : {X Y : Type 0} (f : X → Y) (test : Y → Bool) (xs : List X) (i : ℕ) (x : X) → i < length xs → x ≡ get_or xs i x → test (f x) ≡ true → list_all test (map f (drop i xs)) ≡ list_all test (map f xs) →
    list_all test (map f (drop (i + 1) xs)) ≡ list_all test (map f xs)
goes_on f test xs i x l e passes all = sym (ap (λ b. b && list_all test (map f (drop (i + 1) xs))) passes) ∙ (sym (here_too f test xs i x l e) ∙ all)
