-- How a text is cut into lines, and where they stand.
use Rattle.std.proofs.Common.{◌≡◌, ℕ, zero, suc, ◌≤◌, ◌<◌, ◌+◌, ◌-◌, Bool, true, false, cond, not, ◌==◌, List, [], ◌∷◌, ◌++◌, length, map, take, drop, refl, ap, ◌∙◌, sym, arith, append_assoc}
use Rattle.std.specs.List.{onto_first, position_or_len, prefix_len, suffix_len}
use Rattle.std.proofs.lemmas.List.{length-take, length-take-le, length-drop, take-take, drop-drop, map_push, append-nil, nil_from_length}
use Rattle.std.proofs.lemmas.List.Sums.{prefix_len-le-length}
use Rattle.stp_plan.specs.declared.line.Line.{Line}
use Rattle.stp_text.specs.Bytes.{is_white}
use Rattle.stp_plan.specs.Lines.{lines_of, before_comment, line_text, texts_of, place_of, places_of, text_at}

-- ---- the first line

-- where the first line ends
abbrev pub line_length : List ℕ → ℕ
line_length bs = position_or_len (λ b. b == 10) bs

line_step : (b : ℕ) (bs : List ℕ) (ends : Bool) → (b == 10) ≡ ends → (0 < length bs → lines_of bs ≡ take (line_length bs) bs ∷ lines_of (drop (line_length bs + 1) bs)) → lines_of (b ∷ bs) ≡ take (cond (not ends) (1 + line_length bs) 0) (b ∷ bs) ∷ lines_of (drop (cond (not ends) (1 + line_length bs) 0 + 1) (b ∷ bs))
unfolding lines_of
line_step b bs true e ih = ap (λ t. cond t ([] ∷ lines_of bs) (onto_first b (lines_of bs))) e
line_step b [] false e ih = ap (λ t. cond t ([] ∷ lines_of []) (onto_first b (lines_of []))) e
line_step b (c ∷ cs) false e ih =
    let n : ℕ = line_length (c ∷ cs) in
    let s : 1 + n ≡ suc n = omega arith in
    let s' : 1 + n + 1 ≡ suc (n + 1) = omega arith in
    ap (λ t. cond t ([] ∷ lines_of (c ∷ cs)) (onto_first b (lines_of (c ∷ cs)))) e
    ∙ ap (onto_first b) (ih (omega arith))
    ∙ sym (ap (λ k. take k (b ∷ c ∷ cs) ∷ lines_of (drop (1 + n + 1) (b ∷ c ∷ cs))) s ∙ ap (λ k. take (suc n) (b ∷ c ∷ cs) ∷ lines_of (drop k (b ∷ c ∷ cs))) s')

-- the first line, and those after it
pub first_line : (bs : List ℕ) → 0 < length bs → lines_of bs ≡ take (line_length bs) bs ∷ lines_of (drop (line_length bs + 1) bs)
first_line [] h = absurd (omega arith)
first_line (b ∷ bs) h = line_step b bs (b == 10) refl (first_line bs)

pub no_line : lines_of [] ≡ []
unfolding lines_of
no_line = refl

-- the same of the bytes from a place on
first_from : (bytes : List ℕ) (at end : ℕ) → at < length bytes → end ≡ line_length (drop at bytes) → lines_of (drop at bytes) ≡ take end (drop at bytes) ∷ lines_of (drop (at + (end + 1)) bytes)
first_from bytes at end below e =
    first_line (drop at bytes) (omega (arith, length-drop at bytes))
    ∙ ap (λ n. take n (drop at bytes) ∷ lines_of (drop (n + 1) (drop at bytes))) (sym e)
    ∙ ap (λ rest. take end (drop at bytes) ∷ lines_of rest) (drop-drop (end + 1) at bytes)

pub end_within : (bytes : List ℕ) (at end : ℕ) → end ≡ line_length (drop at bytes) → length (take end (drop at bytes)) ≡ end
end_within bytes at end e =
    let h : line_length (drop at bytes) ≤ length (drop at bytes) = prefix_len-le-length (λ b. not (b == 10)) (drop at bytes) in
    length-take-le end (drop at bytes) (omega arith)

-- ---- places

-- one more line
pub places_more : (bytes : List ℕ) (found : List Line) (at end : ℕ) → at < length bytes → end ≡ line_length (drop at bytes) →
    found ++ places_of at (lines_of (drop at bytes)) ≡ places_of 0 (lines_of bytes) →
    (found ++ place_of at (take end (drop at bytes)) ∷ []) ++ places_of (at + (end + 1)) (lines_of (drop (at + (end + 1)) bytes)) ≡ places_of 0 (lines_of bytes)
places_more bytes found at end below e so_far =
    let line : List ℕ = take end (drop at bytes) in
    let next : at + length line + 1 ≡ at + (end + 1) = omega (arith, end_within bytes at end e) in
    append_assoc found (place_of at line ∷ []) (places_of (at + (end + 1)) (lines_of (drop (at + (end + 1)) bytes)))
    ∙ ap (λ n. found ++ (place_of at line ∷ places_of n (lines_of (drop (at + (end + 1)) bytes)))) (sym next)
    ∙ ap (λ ls. found ++ places_of at ls) (sym (first_from bytes at end below e))
    ∙ so_far

-- ---- texts

-- one text is the front of another
abbrev pub IsFront : List ℕ → List ℕ → Type 0
IsFront xs ys = xs ≡ take (length xs) ys

front_take : (n : ℕ) (xs : List ℕ) → IsFront (take n xs) xs
front_take zero xs = refl
front_take (suc n) [] = refl
front_take (suc n) (x ∷ xs) = ap (λ ys. x ∷ ys) (front_take n xs)

front_length : (xs ys : List ℕ) → IsFront xs ys → length xs ≤ length ys
front_length xs ys h = omega (arith, ap length h, length-take (length xs) ys)

front_trans : (xs ys zs : List ℕ) → IsFront xs ys → IsFront ys zs → IsFront xs zs
front_trans xs ys zs h k = h ∙ ap (take (length xs)) k ∙ take-take (length xs) (length ys) zs (front_length xs ys h)

front_drop : (n : ℕ) (xs ys : List ℕ) → IsFront xs ys → IsFront (drop n xs) (drop n ys)
front_drop zero xs ys h = h
front_drop (suc n) [] ys h = refl
front_drop (suc n) (x ∷ xs) [] h = cc
front_drop (suc n) (x ∷ xs) (y ∷ ys) h = front_drop n xs ys (ap (drop 1) h)

-- what a line says stands where its place tells
line_text_front : (line rest : List ℕ) → IsFront line rest → IsFront (line_text line) (drop (prefix_len is_white (before_comment line)) rest)
line_text_front line rest h =
    let text : List ℕ = before_comment line in
    let n : ℕ = prefix_len is_white text in
    front_trans (line_text line) (drop n text) (drop n rest) (front_take (length (drop n text) - suffix_len is_white (drop n text)) (drop n text))
    (front_drop n text rest (front_trans text line rest (front_take (position_or_len (λ b. b == 59) line) line) h))

text_at_place : (bytes line : List ℕ) (at : ℕ) → IsFront line (drop at bytes) → text_at bytes (place_of at line) ≡ line_text line
text_at_place bytes line at h =
    let n : ℕ = prefix_len is_white (before_comment line) in
    let l : (at + n + length (line_text line)) - (at + n) ≡ length (line_text line) = omega arith in
    ap (λ k. take k (drop (at + n) bytes)) l
    ∙ ap (take (length (line_text line))) (sym (drop-drop n at bytes))
    ∙ sym (line_text_front line (drop at bytes) h)

-- one more line
pub texts_more : (bytes : List ℕ) (found : List Line) (at end : ℕ) → at < length bytes → end ≡ line_length (drop at bytes) →
    map (text_at bytes) found ++ texts_of (drop at bytes) ≡ texts_of bytes →
    map (text_at bytes) (found ++ place_of at (take end (drop at bytes)) ∷ []) ++ texts_of (drop (at + (end + 1)) bytes) ≡ texts_of bytes
texts_more bytes found at end below e so_far =
    let line : List ℕ = take end (drop at bytes) in
    let rest : List (List ℕ) = texts_of (drop (at + (end + 1)) bytes) in
    ap (λ ts. ts ++ rest) (map_push (text_at bytes) found (place_of at line))
    ∙ append_assoc (map (text_at bytes) found) (text_at bytes (place_of at line) ∷ []) rest
    ∙ ap (λ t. map (text_at bytes) found ++ (t ∷ rest)) (text_at_place bytes line at (front_take end (drop at bytes)))
    ∙ ap (λ ls. map (text_at bytes) found ++ map line_text ls) (sym (first_from bytes at end below e))
    ∙ so_far

-- ---- all lines

pub places_done : (bytes : List ℕ) (found : List Line) (at : ℕ) → length bytes ≤ at → found ++ places_of at (lines_of (drop at bytes)) ≡ places_of 0 (lines_of bytes) → found ≡ places_of 0 (lines_of bytes)
places_done bytes found at above so_far =
    let none : drop at bytes ≡ [] = nil_from_length (drop at bytes) (omega (arith, length-drop at bytes)) in
    sym (append-nil found) ∙ ap (λ ls. found ++ places_of at ls) (sym (ap lines_of none ∙ no_line)) ∙ so_far

pub texts_done : (bytes : List ℕ) (found : List Line) (at : ℕ) → length bytes ≤ at → map (text_at bytes) found ++ texts_of (drop at bytes) ≡ texts_of bytes → map (text_at bytes) found ≡ texts_of bytes
texts_done bytes found at above so_far =
    let none : drop at bytes ≡ [] = nil_from_length (drop at bytes) (omega (arith, length-drop at bytes)) in
    sym (append-nil (map (text_at bytes) found)) ∙ ap (λ ls. map (text_at bytes) found ++ map line_text ls) (sym (ap lines_of none ∙ no_line)) ∙ so_far

-- ---- places are within the text

pub place_within : (at : ℕ) (line : List ℕ) → (at ≤ (place_of at line).from) × ((place_of at line).from ≤ (place_of at line).to) × ((place_of at line).to ≤ at + length line)
place_within at line =
    let text : List ℕ = before_comment line in
    let n : ℕ = prefix_len is_white text in
    let a : n ≤ length text = prefix_len-le-length is_white text in
    let b : length text ≤ length line = front_length text line (front_take (position_or_len (λ b. b == 59) line) line) in
    let c : length (line_text line) ≤ length (drop n text) = front_length (line_text line) (drop n text) (front_take (length (drop n text) - suffix_len is_white (drop n text)) (drop n text)) in
    let d : length (drop n text) ≡ length text - n = length-drop n text in
    (omega arith, omega arith, omega arith)
