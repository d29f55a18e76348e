-- There is at most one least failure.
use Rattle.std.proofs.Common.{◌≡◌, ℕ, true, false, List, refl, sym, ◌∙◌, true≢false}
use Rattle.std.specs.Cmp.Lexicographic.{slice_cmp, nat_list_cmp_total}
use Rattle.std.specs.Ordering.{nat_cmp, is_lt, is_eq, ordering_reverse}
use Rattle.std.specs.declared.cmp.Ordering.{Ordering}
use Rattle.std.specs.declared.cmp.Ordering.TheVariants.{Less, Equal, Greater}
use Rattle.std.proofs.lemmas.Map.Text.{is_eq-slice_cmp}
use Rattle.std.proofs.lemmas.Slice.Eq.{bytes_eq-Decides}
use Rattle.stp_happen.specs.LeastFailure.{LeastFailureIsOne}

neither : (r s : Ordering) → r ≡ ordering_reverse s → is_lt r ≡ false → is_lt s ≡ false → is_eq r ≡ true
neither Less s e h k = absurd (true≢false h)
neither Equal s e h k = refl
neither Greater Less e h k = absurd (true≢false k)
neither Greater Equal e h k = absurd (cc)
neither Greater Greater e h k = absurd (cc)

-- durations of which neither come before the others
pub not_before_each_other : (xs ys : List ℕ) → is_lt (slice_cmp nat_cmp xs ys) ≡ false → is_lt (slice_cmp nat_cmp ys xs) ≡ false → xs ≡ ys
not_before_each_other xs ys h k =
    (bytes_eq-Decides xs ys).0 (sym (is_eq-slice_cmp xs ys) ∙ neither (slice_cmp nat_cmp xs ys) (slice_cmp nat_cmp ys xs) (nat_list_cmp_total.antisymm xs ys) h k)

pub least_failure_is_one : LeastFailureIsOne
least_failure_is_one box one other h k = not_before_each_other one other (k.least one h.failure) (h.least other k.failure)
