-- Lists of durations.
use Rattle.std.specs.Prelude.{ℕ, ◌==◌, Bool, if◌then◌else◌, List, [], ◌∷◌, Option, Some, bytes_eq}
use Rattle.std.specs.List.{slice_split}
use Rattle.stp_frac.specs.Fractions.{Fraction}
use Rattle.stp_base.specs.Options.{◌>>=◌}
use Rattle.stp_plan.specs.Numbers.{plain_number}

-- the numbers of these words, if each is a number without a minus
abbrev pub numbers_in : List (List ℕ) → Option (List Fraction)
numbers_in [] = Some []
numbers_in (word ∷ words) = do
  number ← plain_number word
  numbers ← numbers_in words
  Some (number ∷ numbers)

-- the words that single commas, 44, part
abbrev pub words_of : List ℕ → List (List ℕ)
words_of text = slice_split (λ b. b == 44) text

-- the word `none`
abbrev pub is_none_word : List ℕ → Bool
is_none_word text = bytes_eq text (110 ∷ 111 ∷ 110 ∷ 101 ∷ [])

-- the durations that a text lists: none, or numbers that commas part
abbrev pub durations_in : List ℕ → Option (List Fraction)
durations_in text = if is_none_word text then Some [] else numbers_in (words_of text)
