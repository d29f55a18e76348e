-- Fractions, and what is done with them.
use Rattle.std.specs.Prelude.{ℕ, suc, ◌*◌, ◌/◌, ◌^◌, ℤ, pos, negsuc, ◌+ℤ◌, ◌-ℤ◌, ◌*ℤ◌, neg_ℤ, unsigned_abs, Bool, true, false, ◌&&◌, ◌==◌, nat_lt, nat_le, if◌then◌else◌, Option, Some, None}
use Rattle.std.specs.Ordering.{int_cmp, is_lt, is_le}
use Rattle.std.specs.declared.cmp.Ordering.{Ordering}
use Rattle.stp_frac.specs.Divisors.{gcd, divides}
use Rattle.stp_frac.specs.declared.frac.Frac.{Frac}

-- an integer over a number from 1 on
pub record Fraction : Type 0 where
  pub top : ℤ
  pub bottom : ℕ

-- a number with a sign
abbrev pub signed : Bool → ℕ → ℤ
signed false n = pos n
signed true n = neg_ℤ (pos n)

-- whether a number is below 0
abbrev pub is_below_zero : ℤ → Bool
is_below_zero (pos n) = false
is_below_zero (negsuc n) = true

-- the fraction that a value holds
abbrev pub value_of : Frac → Fraction
value_of f = record { top = signed f.negative f.top; bottom = f.bottom }

-- an integer divided by one of its divisors
abbrev pub part : ℤ → ℕ → ℤ
part (pos n) d = pos (n / d)
part (negsuc n) d = neg_ℤ (pos (suc n / d))

-- lowest terms: both parts divided by their greatest common divisor
abbrev pub lowest : ℤ → ℕ → Fraction
lowest n d = let g = gcd (unsigned_abs n) d in record { top = part n g; bottom = d / g }

-- a numerator below 10^18 in size, and a denominator of at most 10^12
abbrev pub is_in_range : Fraction → Bool
is_in_range f = nat_lt (unsigned_abs f.top) (10 ^ 18) && nat_le f.bottom (10 ^ 12)

-- n over d in lowest terms, where that is in range
unfoldable pub fraction : ℤ → ℕ → Option Fraction
fraction n d = if is_in_range (lowest n d) then Some (lowest n d) else None

-- the sum, where it is in range
unfoldable pub sum_of : Fraction → Fraction → Option Fraction
sum_of f g = fraction (f.top *ℤ pos g.bottom +ℤ g.top *ℤ pos f.bottom) (f.bottom * g.bottom)

-- the difference, where it is in range
unfoldable pub difference_of : Fraction → Fraction → Option Fraction
difference_of f g = fraction (f.top *ℤ pos g.bottom -ℤ g.top *ℤ pos f.bottom) (f.bottom * g.bottom)

-- the product, where it is in range
unfoldable pub product_of : Fraction → Fraction → Option Fraction
product_of f g = fraction (f.top *ℤ g.top) (f.bottom * g.bottom)

-- one over a fraction other than 0
abbrev pub turned : Fraction → Fraction
turned f = record { top = signed (is_below_zero f.top) f.bottom; bottom = unsigned_abs f.top }

-- the quotient, where it is in range; by 0 there is none
unfoldable pub quotient_of : Fraction → Fraction → Option Fraction
quotient_of f g = if unsigned_abs g.top == 0 then None else product_of f (turned g)

-- which of two fractions is less, by cross-multiplication
unfoldable pub order_of : Fraction → Fraction → Ordering
order_of f g = int_cmp (f.top *ℤ pos g.bottom) (g.top *ℤ pos f.bottom)

-- n over d as a whole number from 0 on, where it is one
unfoldable pub whole_of : ℤ → ℕ → Option ℕ
whole_of (pos n) d = if divides d n then Some (n / d) else None
whole_of (negsuc n) d = None

-- a fraction counted in parts of which k are one, where it is a whole number of them from 0 on
unfoldable pub on_grid_of : ℕ → Fraction → Option ℕ
on_grid_of k f = whole_of (f.top *ℤ pos k) f.bottom

-- n, where it is at most the limit
abbrev pub up_to : ℕ → ℕ → Option ℕ
up_to limit n = if nat_le n limit then Some n else None

abbrev pub zero : Fraction
zero = record { top = pos 0; bottom = 1 }

abbrev pub is_less : Fraction → Fraction → Bool
is_less f g = is_lt (order_of f g)

abbrev pub is_at_most : Fraction → Fraction → Bool
is_at_most f g = is_le (order_of f g)
