-- The durations of the words that are read, and of those that are left.
use Rattle.std.proofs.Common.{◌≡◌, ℕ, ◌+◌, ◌<◌, ◌≤◌, true, false, if◌then◌else◌, List, [], ◌∷◌, ◌++◌, length, map, drop, get_or, Option, Some, None, option_map, refl, sym, ap, ◌∙◌, append_assoc}
use Rattle.std.proofs.lemmas.List.{at_drop_more, at_drop_all, map_push, append-nil}
use Rattle.stp_frac.specs.Fractions.{Fraction, value_of}
use Rattle.stp_frac.specs.declared.frac.Frac.{Frac}
use Rattle.stp_base.specs.Options.{◌>>=◌}
use Rattle.stp_plan.specs.Numbers.{plain_number}
use Rattle.stp_exec.specs.Lists.{numbers_in, words_of, is_none_word, durations_in}

-- a number before the numbers that follow it
abbrev before : Option Fraction → Option (List Fraction) → Option (List Fraction)
before number numbers = number >>= (λ first. numbers >>= (λ rest. Some (first ∷ rest)))

-- these durations, and the numbers of the words from n on, are the numbers of all words
abbrev pub joined : List Frac → Option (List Fraction) → Option (List Fraction)
joined durations rest = option_map (λ r. map value_of durations ++ r) rest

abbrev pub IsSoFar : List ℕ → ℕ → List Frac → Type 0
IsSoFar text n durations = joined durations (numbers_in (drop n (words_of text))) ≡ numbers_in (words_of text)

-- a word is the one at n
abbrev pub IsWordAt : List ℕ → ℕ → List ℕ → Type 0
IsWordAt text n word = (n < length (words_of text)) × (word ≡ get_or (words_of text) n word)

joined_nil : (rest : Option (List Fraction)) → joined [] rest ≡ rest
joined_nil None = refl
joined_nil (Some r) = refl

pub so_far_start : (text : List ℕ) → IsSoFar text 0 []
so_far_start text = joined_nil (numbers_in (words_of text))

at_word : (text : List ℕ) (n : ℕ) (word : List ℕ) → IsWordAt text n word → numbers_in (drop n (words_of text)) ≡ numbers_in (word ∷ drop (n + 1) (words_of text))
at_word text n word t = at_drop_more numbers_in (words_of text) n word t.0 ∙ ap (λ l. numbers_in (l ∷ drop (n + 1) (words_of text))) (sym t.1)

joined_more : (durations : List Frac) (d : Frac) (rest : Option (List Fraction)) → joined (durations ++ d ∷ []) rest ≡ joined durations (before (Some (value_of d)) rest)
joined_more durations d None = refl
joined_more durations d (Some r) = ap (λ x. Some x) (ap (λ x. x ++ r) (map_push value_of durations d) ∙ append_assoc (map value_of durations) (value_of d ∷ []) r)

pub so_far_more : (text : List ℕ) (n : ℕ) (word : List ℕ) (durations : List Frac) (d : Frac) → IsSoFar text n durations → IsWordAt text n word → Some (value_of d) ≡ plain_number word → IsSoFar text (n + 1) (durations ++ d ∷ [])
so_far_more text n word durations d h t k =
    joined_more durations d (numbers_in (drop (n + 1) (words_of text)))
    ∙ ap (λ o. joined durations (before o (numbers_in (drop (n + 1) (words_of text))))) k
    ∙ ap (joined durations) (sym (at_word text n word t))
    ∙ h

-- ---- the ends

pub listed_none : (text : List ℕ) → is_none_word text ≡ true → durations_in text ≡ Some []
listed_none text h = ap (λ b. if b then Some [] else numbers_in (words_of text)) h

listed_words : (text : List ℕ) → is_none_word text ≡ false → durations_in text ≡ numbers_in (words_of text)
listed_words text h = ap (λ b. if b then Some [] else numbers_in (words_of text)) h

pub no_number : (text : List ℕ) (n : ℕ) (word : List ℕ) (durations : List Frac) → is_none_word text ≡ false → IsSoFar text n durations → IsWordAt text n word → None ≡ plain_number word → durations_in text ≡ None
no_number text n word durations w h t k =
    listed_words text w
    ∙ sym h
    ∙ ap (joined durations) (at_word text n word t)
    ∙ ap (λ o. joined durations (before o (numbers_in (drop (n + 1) (words_of text))))) (sym k)

pub all_read : (text : List ℕ) (n : ℕ) (durations : List Frac) → is_none_word text ≡ false → IsSoFar text n durations → length (words_of text) ≤ n → durations_in text ≡ Some (map value_of durations)
all_read text n durations w h m =
    listed_words text w
    ∙ sym h
    ∙ ap (joined durations) (at_drop_all numbers_in (words_of text) n m)
    ∙ ap (λ x. Some x) (append-nil (map value_of durations))
