-- A time put at its place among others.
use Rattle.std.proofs.Common.{◌≡◌, ℕ, List, ◌∷◌, ◌++◌, take, drop, Some, sym, ap, ap₂, ◌∙◌}
use Rattle.std.specs.List.{insert}
use Rattle.std.proofs.lemmas.List.{map-append, take-map, drop-map}
use Rattle.stp_refusal.specs.Read.{given}
use Rattle.stp_frac.specs.declared.frac.Frac.{Frac}
use Rattle.stp_frac.specs.Fractions.{value_of}
use Rattle.stp_problem.specs.Events.{place_from, with_time}
use Rattle.stp_problem.specs.TimedViews.{times_of}

put_in : (xs : List Frac) (n : ℕ) (t : Frac) → times_of (insert xs n t) ≡ insert (times_of xs) n (value_of t)
put_in xs n t =
    map-append value_of (take n xs) (t ∷ drop n xs)
    ∙ ap₂ (λ ys zs. ys ++ value_of t ∷ zs) (sym (take-map value_of n xs)) (sym (drop-map value_of n xs))

pub put_is : (new xs slice : List Frac) (place : ℕ) (t : Frac) → new ≡ insert xs place t → slice ≡ xs → Some place ≡ place_from 0 (value_of t) (times_of slice) → times_of new ≡ with_time (times_of xs) (value_of t)
put_is new xs slice place t e s h =
    ap times_of e
    ∙ put_in xs place t
    ∙ ap (given (times_of xs) (λ n. insert (times_of xs) n (value_of t))) (h ∙ ap (λ ys. place_from 0 (value_of t) (times_of ys)) s)
