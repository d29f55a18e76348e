-- Which bytes printed names and numbers are made of, and that they are read again.
use Rattle.std.proofs.Common.{◌≡◌, ℕ, ◌<◌, ◌+◌, ◌^◌, Bool, true, false, cond, not, ◌||◌, ◌==◌, if◌then◌else◌, List, [], ◌∷◌, ◌++◌, length, map, take, drop, ℤ, Option, Some, None, decimal, pos, negsuc, refl, ap, ◌∙◌, arith, length-append}
use Rattle.std.specs.List.{list_all, list_any, position_or_len, before_first, after_first}
use Rattle.std.specs.Char.{is_ascii_digit, to_ascii_lowercase}
use Rattle.std.proofs.lemmas.Bool.Decides.{nat_tests}
use Rattle.std.proofs.lemmas.List.Folds.{list_all-append}
use Rattle.std.proofs.Math.Seq.{take-append_seam, drop-append-add}
use Rattle.std.proofs.lemmas.Fmt.{digits_decimal, decimal_nonempty}
use Rattle.stp_frac.specs.Fractions.{Fraction, is_below_zero}
use Rattle.stp_frac.specs.Reading.{number_of, text_of}
use Rattle.stp_frac.specs.Laws.{CanBeSpelled}
use Rattle.stp_frac.proofs.Divisors.{left_true, right_true, both_true}
use Rattle.stp_frac.proofs.Reading.{own, printed_numbers_are_read_again}
use Rattle.stp_plan.specs.Parts.{is_run_byte}
use Rattle.stp_text.specs.Names.{goes_on_name, is_name}
use Rattle.stp_plan.specs.Names.{name_of}
use Rattle.stp_plan.specs.Numbers.{has_minus, if_number, plain_number}
use Rattle.stp_plan.specs.Steps.{is_star, is_comma}
use Rattle.stp_plan.specs.Laws.{IsSpellable}

-- a byte that ends no line and begins no comment
abbrev pub is_kept : ℕ → Bool
is_kept b = not ((b == 10) || (b == 59))

-- a digit or a bar
abbrev pub is_number_byte : ℕ → Bool
is_number_byte b = is_ascii_digit b || (b == 47)

name_runs : (b : ℕ) → goes_on_name b ≡ true → is_run_byte b ≡ true
name_runs b h = grind (arith, nat_tests)

name_kept : (b : ℕ) → goes_on_name b ≡ true → is_kept b ≡ true
name_kept b h = grind (arith, nat_tests)

name_folded : (b : ℕ) → goes_on_name b ≡ true → to_ascii_lowercase b ≡ b
name_folded b h = grind (arith, nat_tests)

number_runs : (b : ℕ) → is_number_byte b ≡ true → is_run_byte b ≡ true
number_runs b h = grind (arith, nat_tests)

number_kept : (b : ℕ) → is_number_byte b ≡ true → is_kept b ≡ true
number_kept b h = grind (arith, nat_tests)

number_no_comma : (b : ℕ) → is_number_byte b ≡ true → is_comma b ≡ false
number_no_comma b h = grind (arith, nat_tests)

number_no_star : (b : ℕ) → is_number_byte b ≡ true → (b == 42) ≡ false
number_no_star b h = grind (arith, nat_tests)

number_no_minus : (b : ℕ) → is_number_byte b ≡ true → (b == 45) ≡ false
number_no_minus b h = grind (arith, nat_tests)

digit_number : (b : ℕ) → is_ascii_digit b ≡ true → is_number_byte b ≡ true
digit_number b h = grind (arith, nat_tests)

or_true : (x : Bool) → (x || true) ≡ true
or_true true = refl
or_true false = refl

-- ---- tests of all bytes

all_more : (p q : ℕ → Bool) → ((b : ℕ) → p b ≡ true → q b ≡ true) → (bs : List ℕ) → list_all p bs ≡ true → list_all q bs ≡ true
all_more p q more [] h = refl
all_more p q more (b ∷ bs) h =
    both_true (q b) (list_all q bs) (more b (left_true (p b) (list_all p bs) h)) (all_more p q more bs (right_true (p b) (list_all p bs) h))

pub all_both : (p : ℕ → Bool) (xs ys : List ℕ) → list_all p xs ≡ true → list_all p ys ≡ true → list_all p (xs ++ ys) ≡ true
all_both p xs ys h k = list_all-append p xs ys ∙ both_true (list_all p xs) (list_all p ys) h k

-- ---- names

start_goes_on : (b : ℕ) (x y : Bool) → x ≡ true → (x || y) ≡ true
start_goes_on b true y h = refl
start_goes_on b false y h = cc

name_bytes : (word : List ℕ) → is_name word ≡ true → list_all goes_on_name word ≡ true
name_bytes [] h = refl
name_bytes (b ∷ bs) h = both_true (goes_on_name b) (list_all goes_on_name bs) (start_goes_on b _ (b == 45) (left_true _ (list_all goes_on_name bs) h)) (right_true _ (list_all goes_on_name bs) h)

pub name_some : (word : List ℕ) → is_name word ≡ true → 0 < length word
name_some [] h = cc
name_some (b ∷ bs) h = omega arith

pub name_is_run : (word : List ℕ) → is_name word ≡ true → list_all is_run_byte word ≡ true
name_is_run word h = all_more goes_on_name is_run_byte name_runs word (name_bytes word h)

pub name_is_kept : (word : List ℕ) → is_name word ≡ true → list_all is_kept word ≡ true
name_is_kept word h = all_more goes_on_name is_kept name_kept word (name_bytes word h)

all_folded : (word : List ℕ) → list_all goes_on_name word ≡ true → map to_ascii_lowercase word ≡ word
all_folded [] h = refl
all_folded (b ∷ bs) h =
    ap (λ c. c ∷ map to_ascii_lowercase bs) (name_folded b (left_true (goes_on_name b) (list_all goes_on_name bs) h))
    ∙ ap (λ cs. b ∷ cs) (all_folded bs (right_true (goes_on_name b) (list_all goes_on_name bs) h))

pub name_again : (word : List ℕ) → is_name word ≡ true → name_of word ≡ Some word
name_again word h =
    ap (λ folded. let r : Option (List ℕ) = if is_name folded then Some folded else None in r) (all_folded word (name_bytes word h))
    ∙ ap (λ b. if b then Some word else None) h

-- ---- numbers

number_of_digits : (n : ℕ) → n < 2 ^ 64 → list_all is_number_byte (decimal n) ≡ true
number_of_digits n h = all_more is_ascii_digit is_number_byte digit_number (decimal n) (digits_decimal own n h)

bar_text : (w : Bool) (b : ℕ) → b < 2 ^ 64 → list_all is_number_byte (if w then [] else 47 ∷ decimal b) ≡ true
bar_text true b h = refl
bar_text false b h = number_of_digits b h

text_bytes : (z : ℤ) (b : ℕ) → is_below_zero z ≡ false → CanBeSpelled (record { top = z; bottom = b }) → list_all is_number_byte (text_of (record { top = z; bottom = b })) ≡ true
unfolding text_of
text_bytes (pos n) b h k = all_both is_number_byte (decimal n) (if b == 1 then [] else 47 ∷ decimal b) (number_of_digits n (omega (arith, k.size))) (bar_text (b == 1) b (omega (arith, k.high)))
text_bytes (negsuc n) b h k = cc

pub number_bytes : (f : Fraction) → IsSpellable f → list_all is_number_byte (text_of f) ≡ true
number_bytes f h = text_bytes f.top f.bottom h.0 h.1

text_some : (z : ℤ) (b : ℕ) → is_below_zero z ≡ false → CanBeSpelled (record { top = z; bottom = b }) → 0 < length (text_of (record { top = z; bottom = b }))
unfolding text_of
text_some (pos n) b h k = omega (arith, length-append (decimal n) (if b == 1 then [] else 47 ∷ decimal b), decimal_nonempty n (omega (arith, k.size)))
text_some (negsuc n) b h k = cc

pub number_some : (f : Fraction) → IsSpellable f → 0 < length (text_of f)
number_some f h = text_some f.top f.bottom h.0 h.1

pub number_is_run : (f : Fraction) → IsSpellable f → list_all is_run_byte (text_of f) ≡ true
number_is_run f h = all_more is_number_byte is_run_byte number_runs (text_of f) (number_bytes f h)

pub number_is_kept : (f : Fraction) → IsSpellable f → list_all is_kept (text_of f) ≡ true
number_is_kept f h = all_more is_number_byte is_kept number_kept (text_of f) (number_bytes f h)

no_minus : (bs : List ℕ) → list_all is_number_byte bs ≡ true → has_minus bs ≡ false
no_minus [] h = refl
no_minus (b ∷ bs) h = number_no_minus b (left_true (is_number_byte b) (list_all is_number_byte bs) h)

pub number_again : (f : Fraction) → IsSpellable f → plain_number (text_of f) ≡ Some f
number_again f h =
    ap (λ b. if b then None else if_number (number_of (text_of f))) (no_minus (text_of f) (number_bytes f h))
    ∙ ap if_number (printed_numbers_are_read_again f h.1)

-- ---- the words of brackets

pub no_star : (bs : List ℕ) → list_all is_number_byte bs ≡ true → is_star bs ≡ false
no_star [] h = refl
no_star (b ∷ []) h = number_no_star b (left_true (is_number_byte b) true h)
no_star (b ∷ c ∷ cs) h = refl

pub no_comma : (bs : List ℕ) → list_all is_number_byte bs ≡ true → list_any is_comma bs ≡ false
no_comma [] h = refl
no_comma (b ∷ bs) h =
    ap (λ t. t || list_any is_comma bs) (number_no_comma b (left_true (is_number_byte b) (list_all is_number_byte bs) h))
    ∙ no_comma bs (right_true (is_number_byte b) (list_all is_number_byte bs) h)

pub pair_no_star : (bs cs : List ℕ) → 0 < length bs → is_star (bs ++ 44 ∷ cs) ≡ false
pair_no_star [] cs h = absurd (omega arith)
pair_no_star (b ∷ []) cs h = refl
pair_no_star (b ∷ c ∷ bs) cs h = refl

pub pair_comma : (bs cs : List ℕ) → list_any is_comma (bs ++ 44 ∷ cs) ≡ true
pair_comma [] cs = refl
pair_comma (b ∷ bs) cs = ap (λ t. is_comma b || t) (pair_comma bs cs) ∙ or_true (is_comma b)

comma_place : (bs cs : List ℕ) → list_all is_number_byte bs ≡ true → position_or_len is_comma (bs ++ 44 ∷ cs) ≡ length bs
comma_place [] cs h = refl
comma_place (b ∷ bs) cs h =
    ap (λ t. cond (not t) (1 + position_or_len is_comma (bs ++ 44 ∷ cs)) 0) (number_no_comma b (left_true (is_number_byte b) (list_all is_number_byte bs) h))
    ∙ ap (λ n. 1 + n) (comma_place bs cs (right_true (is_number_byte b) (list_all is_number_byte bs) h))
    ∙ (omega arith)

pub before_comma : (bs cs : List ℕ) → list_all is_number_byte bs ≡ true → before_first is_comma (bs ++ 44 ∷ cs) ≡ bs
before_comma bs cs h = ap (λ n. take n (bs ++ 44 ∷ cs)) (comma_place bs cs h) ∙ take-append_seam bs (44 ∷ cs)

pub after_comma : (bs cs : List ℕ) → list_all is_number_byte bs ≡ true → after_first is_comma (bs ++ 44 ∷ cs) ≡ cs
after_comma bs cs h = ap (λ n. drop (n + 1) (bs ++ 44 ∷ cs)) (comma_place bs cs h) ∙ drop-append-add bs (44 ∷ cs) 1
