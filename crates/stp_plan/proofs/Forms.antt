-- A bracket, read one part at a time.
use Rattle.std.proofs.Common.{◌≡◌, ℕ, suc, ◌<◌, ◌+◌, Bool, true, false, cond, not, ◌||◌, nat_lt, List, [], ◌∷◌, length, take, drop, Option, Some, None, option_map, refl, ap, ◌∙◌, sym, arith}
use Rattle.std.specs.List.{list_all, list_any, position_or_len}
use Rattle.std.proofs.lemmas.Bool.Decides.{nat_tests}
use Rattle.std.proofs.lemmas.Bool.{lt-ltb}
use Rattle.stp_frac.specs.Fractions.{Fraction}
use Rattle.stp_text.specs.Bytes.{is_white}
use Rattle.stp_plan.specs.Parts.{Part, OpenBracket, CloseBracket, Run, parts, after, first_run}
use Rattle.stp_base.specs.Options.{◌>>=◌}
use Rattle.stp_plan.specs.Numbers.{plain_number}
use Rattle.stp_plan.specs.Steps.{PlainBracket, NoBracket, Exactly, Between, is_star, is_comma, pair_of, inside, bracket_of}
use Rattle.stp_plan.proofs.Cuts.{is_nil, nil_parts}

-- ---- the parts of a bracket

-- what is left to read once the word is known
abbrev pub at_end : List ℕ → List Part → Option PlainBracket
at_end word rest = cond (is_nil rest) (inside word) None

abbrev pub after_word : List ℕ → List Part → Option PlainBracket
after_word word rest = after 93 rest >>= at_end word

abbrev pub in_bracket : List Part → Option PlainBracket
in_bracket rest = first_run rest >>= (λ run. after_word run.0 run.1)

pub bracket_start : (ps : List Part) → bracket_of ps ≡ cond (is_nil ps) (Some NoBracket) (after 91 ps >>= in_bracket)
bracket_start [] = refl
bracket_start (OpenBracket ∷ Run word ∷ CloseBracket ∷ []) = refl
bracket_start _ = refl

-- no part is left, or some are
pub at_nil : {A : Type 0} (x y : A) (text : List ℕ) (b : Bool) → b ≡ list_all is_white text → cond (is_nil (parts text)) x y ≡ cond b x y
at_nil x y text b e = ap (λ t. cond t x y) (nil_parts text ∙ sym e)

-- ---- the word of a bracket

any_step : (n len : ℕ) (first : Bool) → (first || nat_lt n len) ≡ nat_lt (cond (not first) (1 + n) 0) (suc len)
any_step n len true = grind (arith, nat_tests)
any_step n len false = grind (arith, nat_tests)

-- a byte is found where its place is no end
any_found : (p : ℕ → Bool) (bs : List ℕ) → list_any p bs ≡ nat_lt (position_or_len p bs) (length bs)
any_found p [] = refl
any_found p (b ∷ bs) = ap (λ t. p b || t) (any_found p bs) ∙ any_step (position_or_len p bs) (length bs) (p b)

no_less : (m n : ℕ) → m ≡ n → nat_lt m n ≡ false
no_less m n e = grind (arith, nat_tests)

-- a word that is no star and has no comma
pub inside_number : (word : List ℕ) → false ≡ is_star word → position_or_len is_comma word ≡ length word → inside word ≡ option_map (λ number. Exactly number) (plain_number word)
inside_number word star e =
    let none : list_any is_comma word ≡ false = any_found is_comma word ∙ no_less (position_or_len is_comma word) (length word) e in
    rw (← star, none) refl

-- one that has a comma
pub inside_pair : (word : List ℕ) (n : ℕ) → false ≡ is_star word → n ≡ position_or_len is_comma word → n < length word → inside word ≡ pair_of (plain_number (take n word)) (plain_number (drop (n + 1) word))
inside_pair word n star e below =
    let some : list_any is_comma word ≡ true = any_found is_comma word ∙ ap (λ m. nat_lt m (length word)) (sym e) ∙ lt-ltb n (length word) below in
    rw (← star, some, ← e) refl

-- two numbers of which one is not there, and two that are
pub no_low : (low high : Option Fraction) → None ≡ low → pair_of low high ≡ None
no_low low high e = ap (λ o. pair_of o high) (sym e)

pub no_high : (low high : Option Fraction) → None ≡ high → pair_of low high ≡ None
no_high None high e = refl
no_high (Some l) high e = ap (λ o. pair_of (Some l) o) (sym e)

pub both : (low high : Option Fraction) (l h : Fraction) → Some l ≡ low → Some h ≡ high → pair_of low high ≡ Some (Between l h)
both low high l h e k = ap (λ o. pair_of o high) (sym e) ∙ ap (λ o. pair_of (Some l) o) (sym k)
