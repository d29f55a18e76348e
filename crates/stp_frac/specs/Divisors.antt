-- Common divisors and common multiples.
use Rattle.std.specs.Prelude.{ℕ, zero, suc, ◌*◌, ◌%◌, max, Bool, ◌&&◌, ◌==◌, if◌then◌else◌}

-- whether d divides n
abbrev pub divides : ℕ → ℕ → Bool
divides d n = (n % d) == 0

-- the greatest number up to n that passes the test, or 0 where none from 1 on does
unfoldable pub greatest_up_to : ℕ → (ℕ → Bool) → ℕ
greatest_up_to zero test = zero
greatest_up_to (suc n) test = if test (suc n) then suc n else greatest_up_to n test

-- the least number from n on that passes the test, or the one that is so many above n where none before it does
unfoldable pub least_from : ℕ → ℕ → (ℕ → Bool) → ℕ
least_from n zero test = n
least_from n (suc many) test = if test n then n else least_from (suc n) many test

-- the greatest common divisor; that of n and 0 is n
unfoldable pub gcd : ℕ → ℕ → ℕ
gcd a b = greatest_up_to (max a b) (λ d. divides d a && divides d b)

-- the least common multiple of two numbers from 1 on
unfoldable pub lcm : ℕ → ℕ → ℕ
lcm a b = least_from 1 (a * b) (λ m. divides a m && divides b m)
