use Rattle.std.proofs.Common.{◌≡◌, ℕ, true, ◌&&◌, nat_lt, [], ◌∷◌, map, Bor, refl, ap, ◌∙◌}
use Rattle.std.proofs.lemmas.Bool.{and_from}
use Rattle.stp_base.specs.declared.ids.AtomId.{AtomId}
use Rattle.stp_cond.specs.declared.cond.Cond.{Cond}
use Rattle.stp_cond.specs.declared.cond.Cond.TheVariants.{Atom, Not}
use Rattle.stp_cond.specs.Truth.{all_of, is_below}
use Rattle.stp_cond.proofs.Equations.{reads_atom, reads_not}
use Rattle.stp_tests_boxes.proofs.events.judged.Goals as goal

both_below : (n : ℕ) (atom : AtomId) (part : Bor Cond) → nat_lt atom.0 n ≡ true → is_below n part.now ≡ true → all_of (map (is_below n) (Atom atom ∷ Not part ∷ [])) ≡ true
both_below n atom part low below =
    and_from (is_below n (Atom atom)) (is_below n (Not part) && true) (reads_atom (λ a. nat_lt a n) atom ∙ low)
    (and_from (is_below n (Not part)) true (reads_not (λ a. nat_lt a n) part ∙ below) refl)

pub some_and_all-some-requires-clause-parts : goal.some_and_all-some-requires-clause-parts
some_and_all-some-requires-clause-parts c = both_below 3 (record { 0 = 1 }) c.in_ok-all.all refl (c.in_ok-all.ensures.reads (λ a. nat_lt a 3))

pub holds-requires : goal.holds-requires
holds-requires c = ap (λ n. is_below n c.in_ok-both.both.now) c.in_ok-row.ensures ∙ c.in_ok-both.ensures.reads (λ a. nat_lt a 3)

pub holds-requires-2 : goal.holds-requires-2
holds-requires-2 c = ap (λ n. is_below n c.in_ok-all.all.now) c.in_ok-row.ensures ∙ c.in_ok-all.ensures.reads (λ a. nat_lt a 3)

pub holds-requires-3 : goal.holds-requires-3
holds-requires-3 c = ap (λ n. is_below n c.in_ok-none.none.now) c.in_ok-row.ensures ∙ c.in_ok-none.ensures.reads (λ a. nat_lt a 3)
