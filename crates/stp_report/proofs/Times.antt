-- Times on a grid are in the range of fractions.
use Rattle.std.proofs.Common.{◌≡◌, ℕ, ◌/◌, ◌≤◌, true, Option, pos, Some, None, refl, ap, ◌∙◌, arith, div-le_self}
use Rattle.std.proofs.lemmas.Bool.Decides.{nat_tests}
use Rattle.stp_frac.specs.Divisors.{gcd}
use Rattle.stp_frac.specs.Fractions.{Fraction, lowest, fraction, is_in_range}
use Rattle.stp_frac.specs.Reading.{text_of}
use Rattle.stp_report.specs.Bounds.{IsGrid, IsTime}
use Rattle.stp_report.specs.Texts.{time_text}

abbrev none : Option Fraction
none = None

in_range : (grid time : ℕ) → IsGrid grid → IsTime grid time → is_in_range (lowest (pos time) grid) ≡ true
in_range grid time g t =
    let top : time / gcd time grid ≤ time = div-le_self time (gcd time grid) in
    let bottom : grid / gcd time grid ≤ grid = div-le_self grid (gcd time grid) in
    let low = g.low in
    let high = g.high in
    grind (arith, nat_tests)

pub time_fits : (grid time : ℕ) → IsGrid grid → IsTime grid time → fraction (pos time) grid ≡ Some (lowest (pos time) grid)
unfolding fraction
time_fits grid time g t = rw (in_range grid time g t) refl

some_is_not_none : (f : Fraction) → none ≡ Some f → ⊥
some_is_not_none f e = cc

pub fits_some : (grid time : ℕ) → IsGrid grid → IsTime grid time → none ≡ fraction (pos time) grid → ⊥
fits_some grid time g t e = some_is_not_none (lowest (pos time) grid) (e ∙ time_fits grid time g t)

same_fraction : (f g : Fraction) → Some f ≡ Some g → f ≡ g
same_fraction f g e = cc

-- a value that was found prints as the time
pub same_text : (grid time : ℕ) (f : Fraction) → IsGrid grid → IsTime grid time → Some f ≡ fraction (pos time) grid → text_of f ≡ time_text grid time
unfolding time_text
same_text grid time f g t e = ap text_of (same_fraction f (lowest (pos time) grid) (e ∙ time_fits grid time g t))
