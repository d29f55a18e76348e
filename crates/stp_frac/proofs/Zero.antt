-- The number 0.
use Rattle.std.proofs.Common.{◌≡◌, pos, Some, None, refl, ◌∙◌}
use Rattle.stp_frac.specs.Divisors.{gcd, greatest_up_to}
use Rattle.stp_frac.specs.Fractions.{Fraction, fraction, zero}

zero_in_lowest : fraction (pos 0) 1 ≡ Some zero
unfolding fraction gcd greatest_up_to
zero_in_lowest = refl

some_same : (f g : Fraction) → Some f ≡ Some g → f ≡ g
some_same f g e = cc

none_not_some : (f : Fraction) → None ≡ Some f → ⊥
none_not_some f e = cc

pub zero_is : (f : Fraction) → Some f ≡ fraction (pos 0) 1 → f ≡ zero
zero_is f e = some_same f zero (e ∙ zero_in_lowest)

pub zero_is_some : None ≡ fraction (pos 0) 1 → ⊥
zero_is_some e = none_not_some zero (e ∙ zero_in_lowest)
