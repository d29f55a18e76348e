-- Laws of reading: the spellings one by one, and what is printed.
use Rattle.std.proofs.Common.{◌≡◌, ℕ, suc, ◌+◌, ◌/◌, ◌^◌, ◌<◌, ◌≤◌, Bool, true, false, ◌&&◌, ◌==◌, if◌then◌else◌, nat_lt, nat_le, List, [], ◌∷◌, ◌++◌, length, take, drop, slice_index, decimal, ℤ, pos, negsuc, neg_ℤ, unsigned_abs, Option, Some, None, Ok, Err, refl, sym, ◌∙◌, ap, ap₂, arith, rules, div-one, append-nil, eqb-true, lt-ltb, le-leb}
use Rattle.std.specs.List.{list_all}
use Rattle.std.specs.Char.{is_ascii_digit}
use Rattle.std.specs.Str.Parse.{digits_value}
use Rattle.std.proofs.lemmas.Bool.Decides.{nat_tests}
use Rattle.std.proofs.lemmas.Str.Parse.{IsNumeralModel, IsDigitsTest, numerals_by_value}
use Rattle.std.proofs.lemmas.Fmt.{digits_decimal, digits_value-decimal, decimal_nonempty, length-decimal-le}
use Rattle.stp_frac.specs.declared.fault.NumberFault.TheVariants.{TooLong}
use Rattle.stp_frac.specs.Divisors.{gcd}
use Rattle.stp_frac.specs.Fractions.{Fraction, signed, part, lowest}
use Rattle.stp_frac.specs.Reading.{Spelling, is_group, leading, parted, spelling_of, judged, number_spelled, unsigned_number_of, number_of, text_of}
use Rattle.stp_frac.specs.Reading.Spelling.{Whole, Point, Over}
use Rattle.stp_frac.specs.Laws.{CanBeSpelled, PrintedNumbersAreReadAgain}
use Rattle.stp_frac.proofs.Divisors.{left_true, right_true, both_true, gcd_with_one}

-- texts of digits, as the laws of decimal numbers speak of them
pub tells_digits : IsDigitsTest (λ ds. list_all is_ascii_digit ds ≡ true)
tells_digits = search rules

pub own : IsNumeralModel (λ ds. list_all is_ascii_digit ds ≡ true) (digits_value 10)
own = numerals_by_value (λ ds. list_all is_ascii_digit ds ≡ true) tells_digits

pub group_digits : (bs : List ℕ) → is_group bs ≡ true → list_all is_ascii_digit bs ≡ true
group_digits bs h = right_true (nat_lt 0 (length bs)) (list_all is_ascii_digit bs) h

pub group_some : (bs : List ℕ) → is_group bs ≡ true → nat_lt 0 (length bs) ≡ true
group_some bs h = left_true (nat_lt 0 (length bs)) (list_all is_ascii_digit bs) h

-- ---- two groups with a byte between them that is no digit

leading_parted : (before after : List ℕ) (b : ℕ) → list_all is_ascii_digit before ≡ true → is_ascii_digit b ≡ false → leading (before ++ b ∷ after) ≡ length before
leading_parted [] after b h e = rw e
leading_parted (d ∷ ds) after b h e =
    let first : is_ascii_digit d ≡ true = left_true (is_ascii_digit d) (list_all is_ascii_digit ds) h in
    let rest : leading (ds ++ b ∷ after) ≡ length ds = leading_parted ds after b (right_true (is_ascii_digit d) (list_all is_ascii_digit ds) h) e in
    rw (first, rest) (omega arith)

and_false : (x : Bool) → (x && false) ≡ false
and_false true = refl
and_false false = refl

not_all_parted : (before after : List ℕ) (b : ℕ) → is_ascii_digit b ≡ false → list_all is_ascii_digit (before ++ b ∷ after) ≡ false
not_all_parted [] after b e = rw e refl
not_all_parted (d ∷ ds) after b e =
    ap (λ (x : Bool). is_ascii_digit d && x) (not_all_parted ds after b e) ∙ and_false (is_ascii_digit d)

no_group_parted : (before after : List ℕ) (b : ℕ) → is_ascii_digit b ≡ false → is_group (before ++ b ∷ after) ≡ false
no_group_parted before after b e =
    ap (λ (x : Bool). nat_lt 0 (length (before ++ b ∷ after)) && x) (not_all_parted before after b e) ∙ and_false (nat_lt 0 (length (before ++ b ∷ after)))

take_front : (before after : List ℕ) → take (length before) (before ++ after) ≡ before
take_front [] after = refl
take_front (x ∷ xs) after = ap (λ (ys : List ℕ). x ∷ ys) (take_front xs after)

drop_front : (before after : List ℕ) (b : ℕ) → drop (length before + 1) (before ++ b ∷ after) ≡ after
drop_front [] after b = refl
drop_front (x ∷ xs) after b =
    let e : suc (length xs) + 1 ≡ suc (length xs + 1) = omega arith in
    ap (λ (k : ℕ). drop k (x ∷ (xs ++ b ∷ after))) e ∙ drop_front xs after b

mark_at : (before after : List ℕ) (b : ℕ) → slice_index (before ++ b ∷ after) (length before) ≡ b
mark_at [] after b = refl
mark_at (x ∷ xs) after b = mark_at xs after b

-- such a text is the two groups around its byte
spelled_parted : (before after : List ℕ) (b : ℕ) → is_group before ≡ true → is_ascii_digit b ≡ false → spelling_of (before ++ b ∷ after) ≡ parted b before after
spelled_parted before after b h e =
    let bs : List ℕ = before ++ b ∷ after in
    let at : ℕ → Option Spelling = λ n. parted (slice_index bs n) (take n bs) (drop (n + 1) bs) in
    ap (λ (x : Bool). if x then Some (Whole bs) else at (leading bs)) (no_group_parted before after b e)
    ∙ ap at (leading_parted before after b (group_digits before h) e)
    ∙ ap (λ (m : ℕ). parted m (take (length before) bs) (drop (length before + 1) bs)) (mark_at before after b)
    ∙ ap₂ (λ (xs ys : List ℕ). parted b xs ys) (take_front before (b ∷ after)) (drop_front before after b)

-- ---- what is read of each spelling

pub spelled_whole : (ds : List ℕ) → is_group ds ≡ true → spelling_of ds ≡ Some (Whole ds)
spelled_whole ds h = rw h refl

pub spelled_point : (before after : List ℕ) → is_group before ≡ true → is_group after ≡ true → spelling_of (before ++ 46 ∷ after) ≡ Some (Point before after)
spelled_point before after h k = spelled_parted before after 46 h refl ∙ ap (λ (x : Bool). if x then Some (Point before after) else None) (both_true (is_group before) (is_group after) h k)

pub spelled_over : (before after : List ℕ) → is_group before ≡ true → is_group after ≡ true → spelling_of (before ++ 47 ∷ after) ≡ Some (Over before after)
spelled_over before after h k = spelled_parted before after 47 h refl ∙ ap (λ (x : Bool). if x then Some (Over before after) else None) (both_true (is_group before) (is_group after) h k)

-- a digit is no minus
digit_is_no_minus : (d : ℕ) → is_ascii_digit d ≡ true → (d == 45) ≡ false
digit_is_no_minus d h = grind (arith, nat_tests)

pub read_from_digit : (ds rest : List ℕ) → is_group ds ≡ true → number_of (ds ++ rest) ≡ unsigned_number_of false (ds ++ rest)
unfolding number_of
read_from_digit [] rest h = cc
read_from_digit (d ∷ ds) rest h =
    let first : is_ascii_digit d ≡ true = left_true (is_ascii_digit d) (list_all is_ascii_digit ds) (group_digits (d ∷ ds) h) in
    rw (digit_is_no_minus d first) refl

-- ---- lowest terms of what has them already

part_by_one : (z : ℤ) → part z 1 ≡ z
part_by_one (pos n) = ap pos (div-one n)
part_by_one (negsuc n) = ap (λ (k : ℕ). neg_ℤ (pos k)) (div-one (suc n))

pub lowest_already : (n : ℤ) (d : ℕ) → gcd (unsigned_abs n) d ≡ 1 → lowest n d ≡ record { top = n; bottom = d }
lowest_already n d e =
    ap (λ (g : ℕ). let r : Fraction = record { top = part n g; bottom = d / g } in r) e
    ∙ ap₂ (λ (t : ℤ) (k : ℕ). let r : Fraction = record { top = t; bottom = k } in r) (part_by_one n) (div-one d)

-- ---- what is printed is read again

group_of_decimal : (n : ℕ) → n < 2 ^ 64 → is_group (decimal n) ≡ true
group_of_decimal n h =
    both_true (nat_lt 0 (length (decimal n))) (list_all is_ascii_digit (decimal n)) (lt-ltb 0 (length (decimal n)) (decimal_nonempty n h)) (digits_decimal own n h)

few_digits : (k n : ℕ) → 0 < k → n < 10 ^ k → n < 2 ^ 64 → nat_le (length (decimal n)) k ≡ true
few_digits k n some small h = le-leb (length (decimal n)) k (length-decimal-le k n some small h)

judged_whole : (s : Bool) (ds : List ℕ) → nat_le (length ds) 9 ≡ true → judged s (Whole ds) ≡ Ok (lowest (signed s (digits_value 10 ds)) 1)
judged_whole s ds h = rw h refl

too_many : (n k : ℕ) → k < n → nat_le n k ≡ false
too_many n k h = grind (arith, nat_tests)

judged_many : (s : Bool) (ds : List ℕ) → 9 < length ds → judged s (Whole ds) ≡ Err TooLong
judged_many s ds h = rw (too_many (length ds) 9 h) refl

judged_over : (s : Bool) (before after : List ℕ) → nat_le (length before) 18 ≡ true → nat_le (length after) 9 ≡ true → (digits_value 10 after == 0) ≡ false → judged s (Over before after) ≡ Ok (lowest (signed s (digits_value 10 before)) (digits_value 10 after))
judged_over s before after h k e = rw (h, k, e) refl

denominator_text : ℕ → List ℕ
denominator_text b = if b == 1 then [] else 47 ∷ decimal b

pub whole_read_again : (s : Bool) (n : ℕ) → n ≤ 999999999 → unsigned_number_of s (decimal n) ≡ Ok (lowest (signed s n) 1)
whole_read_again s n few =
    ap (number_spelled s) (spelled_whole (decimal n) (group_of_decimal n (omega arith)))
    ∙ judged_whole s (decimal n) (few_digits 9 n (omega arith) (omega arith) (omega arith))
    ∙ ap (λ (k : ℕ). Ok (lowest (signed s k) 1)) (digits_value-decimal own n (omega arith))

not_zero : (b : ℕ) → 1 ≤ b → (b == 0) ≡ false
not_zero b h = grind (arith, nat_tests)

pub over_read_again : (s : Bool) (n b : ℕ) → n < 10 ^ 18 → 1 ≤ b → b ≤ 999999999 → unsigned_number_of s (decimal n ++ 47 ∷ decimal b) ≡ Ok (lowest (signed s n) b)
over_read_again s n b small some few =
    let value : digits_value 10 (decimal b) ≡ b = digits_value-decimal own b (omega arith) in
    ap (number_spelled s) (spelled_over (decimal n) (decimal b) (group_of_decimal n (omega arith)) (group_of_decimal b (omega arith)))
    ∙ judged_over s (decimal n) (decimal b) (few_digits 18 n (omega arith) small (omega arith)) (few_digits 9 b (omega arith) (omega arith) (omega arith)) (ap (λ (k : ℕ). k == 0) value ∙ not_zero b some)
    ∙ ap₂ (λ (k m : ℕ). Ok (lowest (signed s k) m)) (digits_value-decimal own n (omega arith)) value

text_read_again : (w : Bool) (s : Bool) (n b : ℕ) → (b == 1) ≡ w → n < 10 ^ 18 → 1 ≤ b → b ≤ 999999999 → (b ≡ 1 → n ≤ 999999999) → unsigned_number_of s (decimal n ++ (if w then [] else 47 ∷ decimal b)) ≡ Ok (lowest (signed s n) b)
text_read_again true s n b e small some few whole =
    let one : b ≡ 1 = eqb-true b 1 e in
    ap (unsigned_number_of s) (append-nil (decimal n)) ∙ whole_read_again s n (whole one) ∙ ap (λ (k : ℕ). Ok (lowest (signed s n) k)) (sym one)
text_read_again false s n b e small some few whole = over_read_again s n b small some few

read_again : (z : ℤ) (b : ℕ) → CanBeSpelled (record { top = z; bottom = b }) → number_of (text_of (record { top = z; bottom = b })) ≡ Ok (record { top = z; bottom = b })
unfolding number_of text_of
read_again (pos n) b h =
    read_from_digit (decimal n) (if b == 1 then [] else 47 ∷ decimal b) (group_of_decimal n (omega (arith, h.size)))
    ∙ text_read_again (b == 1) false n b refl h.size h.low h.high h.whole
    ∙ ap (λ (f : Fraction). Ok f) (lowest_already (pos n) b h.lowest)
read_again (negsuc n) b h =
    text_read_again (b == 1) true (suc n) b refl h.size h.low h.high h.whole
    ∙ ap (λ (f : Fraction). Ok f) (lowest_already (negsuc n) b h.lowest)

pub printed_numbers_are_read_again : PrintedNumbersAreReadAgain
printed_numbers_are_read_again f h = read_again f.top f.bottom h

-- ---- whole numbers

pub lowest_whole : (n : ℤ) → lowest n 1 ≡ record { top = n; bottom = 1 }
lowest_whole n = lowest_already n 1 (gcd_with_one (unsigned_abs n))

-- what is read of 1 to 9 digits
pub read_digits : (ds : List ℕ) → is_group ds ≡ true → length ds ≤ 9 → number_of ds ≡ Ok (record { top = pos (digits_value 10 ds); bottom = 1 })
read_digits ds h few =
    ap number_of (sym (append-nil ds)) ∙ read_from_digit ds [] h ∙ ap (unsigned_number_of false) (append-nil ds)
    ∙ ap (number_spelled false) (spelled_whole ds h)
    ∙ judged_whole false ds (le-leb (length ds) 9 few)
    ∙ ap (λ (f : Fraction). Ok f) (lowest_whole (pos (digits_value 10 ds)))

-- more than 9 digits are too many
pub read_too_many_digits : (ds : List ℕ) → is_group ds ≡ true → 9 < length ds → number_of ds ≡ Err TooLong
read_too_many_digits ds h many =
    ap number_of (sym (append-nil ds)) ∙ read_from_digit ds [] h ∙ ap (unsigned_number_of false) (append-nil ds)
    ∙ ap (number_spelled false) (spelled_whole ds h)
    ∙ judged_many false ds many

-- what is read of a point between two groups, and of a bar
pub read_point_between : (before after : List ℕ) → is_group before ≡ true → is_group after ≡ true → number_of (before ++ 46 ∷ after) ≡ judged false (Point before after)
read_point_between before after h k =
    read_from_digit before (46 ∷ after) h ∙ ap (number_spelled false) (spelled_point before after h k)

pub read_bar_between : (before after : List ℕ) → is_group before ≡ true → is_group after ≡ true → number_of (before ++ 47 ∷ after) ≡ judged false (Over before after)
read_bar_between before after h k =
    read_from_digit before (47 ∷ after) h ∙ ap (number_spelled false) (spelled_over before after h k)
