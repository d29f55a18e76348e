-- How numbers are read and written.
use Rattle.std.specs.Prelude.{ℕ, ◌+◌, ◌*◌, ◌^◌, Bool, true, false, ◌&&◌, ◌==◌, nat_lt, nat_le, if◌then◌else◌, List, [], ◌∷◌, ◌++◌, length, take, drop, slice_index, decimal, unsigned_abs, Option, Some, None, Result, Ok, Err}
use Rattle.std.specs.List.{list_all, prefix_len}
use Rattle.std.specs.Char.{is_ascii_digit}
use Rattle.std.specs.Str.Parse.{digits_value}
use Rattle.stp_frac.specs.Fractions.{Fraction, signed, is_below_zero, lowest, value_of}
use Rattle.stp_frac.specs.declared.frac.Frac.{Frac}
use Rattle.stp_frac.specs.declared.fault.NumberFault.{NumberFault}
use Rattle.stp_frac.specs.declared.fault.NumberFault.TheVariants.{NotANumber, TooLong, ZeroDenominator}

-- a number without its sign: digits; digits, a point and digits; digits, a bar and digits
pub data Spelling : Type 0 where
  Whole : (digits : List ℕ) → Spelling
  Point : (before after : List ℕ) → Spelling
  Over : (before after : List ℕ) → Spelling

-- a digit or more, and nothing else
abbrev pub is_group : List ℕ → Bool
is_group bs = nat_lt 0 (length bs) && list_all is_ascii_digit bs

-- how many digits stand in front
abbrev pub leading : List ℕ → ℕ
leading bs = prefix_len is_ascii_digit bs

-- two groups parted by 46, a point, or by 47, a bar
abbrev pub parted : ℕ → List ℕ → List ℕ → Option Spelling
parted mark before after =
    if is_group before && is_group after then
    (if mark == 46 then Some (Point before after)
    else if mark == 47 then Some (Over before after)
    else None)
    else None

-- a group, or two that the first byte other than a digit parts
abbrev pub spelling_of : List ℕ → Option Spelling
spelling_of bs =
    if is_group bs then Some (Whole bs)
    else let n = leading bs in parted (slice_index bs n) (take n bs) (drop (n + 1) bs)

-- what a spelling with this sign gives
abbrev pub judged : Bool → Spelling → Result Fraction NumberFault
judged negative (Whole ds) =
    if nat_le (length ds) 9 then Ok (lowest (signed negative (digits_value 10 ds)) 1) else Err TooLong
judged negative (Point before after) =
    if nat_le (length before) 9 && nat_le (length after) 9
    then Ok (lowest (signed negative (digits_value 10 before * 10 ^ length after + digits_value 10 after)) (10 ^ length after))
    else Err TooLong
judged negative (Over before after) =
    if nat_le (length before) 18 && nat_le (length after) 9
    then (if digits_value 10 after == 0 then Err ZeroDenominator
    else Ok (lowest (signed negative (digits_value 10 before)) (digits_value 10 after)))
    else Err TooLong

-- the same, where there is a spelling
abbrev pub number_spelled : Bool → Option Spelling → Result Fraction NumberFault
number_spelled negative None = Err NotANumber
number_spelled negative (Some s) = judged negative s

-- what a text without a sign gives, below 0 or not
abbrev pub unsigned_number_of : Bool → List ℕ → Result Fraction NumberFault
unsigned_number_of negative bs = number_spelled negative (spelling_of bs)

-- the number of a text, in lowest terms, or why it has none; a minus, 45, may stand in front
unfoldable pub number_of : List ℕ → Result Fraction NumberFault
number_of [] = Err NotANumber
number_of (b ∷ bs) = if b == 45 then unsigned_number_of true bs else unsigned_number_of false (b ∷ bs)

-- the same of what a call answers
abbrev pub read_value : Result Frac NumberFault → Result Fraction NumberFault
read_value (Ok f) = Ok (value_of f)
read_value (Err fault) = Err fault

-- the text of a fraction in lowest terms: a minus below 0, the numerator, and a bar and the denominator where that is not 1
unfoldable pub text_of : Fraction → List ℕ
text_of f =
    (if is_below_zero f.top then 45 ∷ [] else [])
    ++ (decimal (unsigned_abs f.top) ++ (if f.bottom == 1 then [] else 47 ∷ decimal f.bottom))
