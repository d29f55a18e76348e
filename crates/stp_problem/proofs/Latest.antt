-- The greatest time of an event.
use Rattle.std.proofs.Common.{◌≡◌, pos, if◌then◌else◌, Some, None, ap, ◌∙◌}
use Rattle.stp_base.specs.declared.limits.TheConstants.{MAX_MOMENT}
use Rattle.stp_frac.specs.Fractions.{Fraction, fraction, is_in_range}
use Rattle.stp_frac.proofs.Reading.{lowest_whole}
use Rattle.stp_problem.specs.Windows.{latest}

latest_in_lowest : fraction (pos MAX_MOMENT) 1 ≡ Some latest
unfolding fraction
latest_in_lowest = ap (λ f. if is_in_range f then Some f else None) (lowest_whole (pos MAX_MOMENT))

some_same : (f g : Fraction) → Some f ≡ Some g → f ≡ g
some_same f g e = cc

none_not_some : (f : Fraction) → None ≡ Some f → ⊥
none_not_some f e = cc

pub latest_is : (f : Fraction) → Some f ≡ fraction (pos MAX_MOMENT) 1 → f ≡ latest
latest_is f e = some_same f latest (e ∙ latest_in_lowest)

pub latest_is_some : None ≡ fraction (pos MAX_MOMENT) 1 → ⊥
latest_is_some e = none_not_some latest (e ∙ latest_in_lowest)
