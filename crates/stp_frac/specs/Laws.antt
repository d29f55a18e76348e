-- Laws of the definitions: what lowest terms and least common multiples are, and that a printed number is read again.
use Rattle.std.specs.Prelude.{◌≡◌, ℕ, ◌*◌, ◌^◌, ◌<◌, ◌≤◌, ℤ, pos, ◌*ℤ◌, unsigned_abs, true, List, ◌∷◌, ◌++◌, Some, IfSome, Ok, ◌↔◌}
use Rattle.std.specs.Ordering.{nat_cmp}
use Prim.Native.Nat.{◌∣◌}
use Rattle.stp_base.specs.declared.limits.TheConstants.{MAX_GRID, MAX_TIME}
use Rattle.stp_frac.specs.Divisors.{gcd, lcm}
use Rattle.stp_frac.specs.Fractions.{Fraction, lowest, on_grid_of, order_of}
use Rattle.stp_frac.specs.Reading.{Spelling, is_group, spelling_of, number_of, text_of}
use Rattle.stp_frac.specs.Reading.Spelling.{Whole, Point, Over}

-- the same number as n over d
abbrev pub IsSame : ℤ → ℕ → Fraction → Type 0
IsSame n d f = f.top *ℤ pos d ≡ n *ℤ pos f.bottom

-- n over d in lowest terms: the same number, with parts that have no common divisor but 1
pub record IsLowest (n : ℤ) (d : ℕ) (f : Fraction) : Type 0 where
  pub same : IsSame n d f
  pub bottom : 0 < f.bottom
  pub coprime : (k : ℕ) → k ∣ unsigned_abs f.top → k ∣ f.bottom → k ≡ 1

-- each fraction has lowest terms
abbrev pub ThereAreLowestTerms : Type 0
ThereAreLowestTerms = (n : ℤ) (d : ℕ) → 0 < d → IsLowest n d (lowest n d)

-- and only these
abbrev pub LowestTermsAreUnique : Type 0
LowestTermsAreUnique = (n : ℤ) (d : ℕ) (f : Fraction) → 0 < d → IsLowest n d f → f ≡ lowest n d

-- no fraction that is the same number has a smaller part
abbrev pub LowestTermsAreLeast : Type 0
LowestTermsAreLeast = (n : ℤ) (d : ℕ) (f : Fraction) → 0 < d → 0 < f.bottom → IsSame n d f → (unsigned_abs (lowest n d).top ≤ unsigned_abs f.top) × ((lowest n d).bottom ≤ f.bottom)

-- the least common multiple is a common multiple, and divides each
pub record IsLeastMultiple (a b m : ℕ) : Type 0 where
  pub some : 0 < m
  pub left : a ∣ m
  pub right : b ∣ m
  pub least : (n : ℕ) → a ∣ n → b ∣ n → m ∣ n

abbrev pub ThereAreLeastMultiples : Type 0
ThereAreLeastMultiples = (a b : ℕ) → 0 < a → 0 < b → IsLeastMultiple a b (lcm a b)

-- the count of a fraction on a grid is the number times the grid, where that is a natural number
abbrev pub CountsAreExact : Type 0
CountsAreExact = (f : Fraction) (k n : ℕ) → 0 < f.bottom → (on_grid_of k f ≡ Some n) ↔ (f.top *ℤ pos k ≡ pos (n * f.bottom))

-- n over k in lowest terms counts n on the grid k
abbrev pub CountsComeBack : Type 0
CountsComeBack = (n k : ℕ) → 0 < k → on_grid_of k (lowest (pos n) k) ≡ Some n

-- fractions are ordered as their counts are
abbrev pub CountsKeepOrder : Type 0
CountsKeepOrder = (f g : Fraction) (k m n : ℕ) → 0 < k → 0 < f.bottom → 0 < g.bottom → on_grid_of k f ≡ Some m → on_grid_of k g ≡ Some n → order_of f g ≡ nat_cmp m n

-- the groups of a spelling are digits
abbrev pub IsSpelling : Spelling → Type 0
IsSpelling (Whole ds) = is_group ds ≡ true
IsSpelling (Point before after) = (is_group before ≡ true) × (is_group after ≡ true)
IsSpelling (Over before after) = (is_group before ≡ true) × (is_group after ≡ true)

-- the bytes of a spelling
abbrev pub spelled : Spelling → List ℕ
spelled (Whole ds) = ds
spelled (Point before after) = before ++ 46 ∷ after
spelled (Over before after) = before ++ 47 ∷ after

-- the spelling of a text is found
abbrev pub SpellingsAreFound : Type 0
SpellingsAreFound = (s : Spelling) → IsSpelling s → spelling_of (spelled s) ≡ Some s

-- and where one is found it is the text's
abbrev pub FoundSpellingsAreTheTexts : Type 0
FoundSpellingsAreTheTexts = (bs : List ℕ) → IfSome (spelling_of bs) (λ s. IsSpelling s × (spelled s ≡ bs))

-- a fraction in lowest terms whose text keeps the limits of digits
pub record CanBeSpelled (f : Fraction) : Type 0 where
  pub low : 1 ≤ f.bottom
  pub high : f.bottom ≤ MAX_GRID
  pub size : unsigned_abs f.top < 10 ^ 18
  pub whole : f.bottom ≡ 1 → unsigned_abs f.top ≤ MAX_TIME
  pub lowest : gcd (unsigned_abs f.top) f.bottom ≡ 1

abbrev pub PrintedNumbersAreReadAgain : Type 0
PrintedNumbersAreReadAgain = (f : Fraction) → CanBeSpelled f → number_of (text_of f) ≡ Ok f
