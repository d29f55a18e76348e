-- The words of a text without comments are its longest runs.
use Rattle.std.proofs.Common.{◌≡◌, ℕ, ◌+◌, ◌<◌, Bool, true, false, ◌&&◌, List, [], ◌∷◌, ◌++◌, length, take, drop, Some, refl, ap, sym, ◌∙◌, arith}
use Rattle.std.specs.List.{list_all, prefix_len}
use Rattle.std.proofs.Math.Seq.{take-append_seam, drop-append_seam}
use Rattle.stp_text.specs.declared.bytes.ByteKind.{ByteKind}
use Rattle.stp_text.specs.declared.bytes.ByteKind.TheVariants.{White, Semicolon, Open, Close, Word, Other}
use Rattle.stp_text.specs.Bytes.{is_white, kind, is_word, is_word_byte}
use Rattle.stp_text.specs.Signs.{Sign, Opens, Closes, Spells, Strange, Nothing, signs}
use Rattle.stp_text.specs.Runs.{bytes_of, EndsWord, IsLongestRun, StandsAt, BeginsWith, IsMadeOf, WordsAreLongestRuns}
use Rattle.stp_text.proofs.Lexing.{at_byte, at_word, past_word, at_end}

left_true : (a b : Bool) → (a && b) ≡ true → a ≡ true
left_true true b h = refl
left_true false b h = cc

right_true : (a b : Bool) → (a && b) ≡ true → b ≡ true
right_true true b h = h
right_true false b h = cc

-- ---- white bytes

white_kind : (b : ℕ) → is_white b ≡ true → kind b ≡ White
unfolding kind
white_kind b h = rw h refl

-- a white byte before what follows
past_white : (n b : ℕ) (text : List ℕ) → is_white b ≡ true → signs Nothing n (b ∷ text) ≡ signs Nothing (n + 1) text
past_white n b text h = at_byte n b (b ∷ text) White refl (white_kind b h)

past_gap : (n : ℕ) (gap text : List ℕ) → list_all is_white gap ≡ true → signs Nothing n (gap ++ text) ≡ signs Nothing (n + length gap) text
past_gap n [] text h = ap (λ m. signs Nothing m text) (let e : n ≡ n + 0 = omega arith in e)
past_gap n (b ∷ bs) text h =
    let e : n + 1 + length bs ≡ n + length (b ∷ bs) = omega arith in
    past_white n b (bs ++ text) (left_true (is_white b) (list_all is_white bs) h)
    ∙ past_gap (n + 1) bs text (right_true (is_white b) (list_all is_white bs) h)
    ∙ ap (λ m. signs Nothing m text) e

nothing_there : (n : ℕ) (text : List ℕ) → list_all is_white text ≡ true → signs Nothing n text ≡ []
nothing_there n [] h = at_end n [] refl
nothing_there n (b ∷ bs) h =
    past_white n b bs (left_true (is_white b) (list_all is_white bs) h)
    ∙ nothing_there (n + 1) bs (right_true (is_white b) (list_all is_white bs) h)

-- ---- a parenthesis or a word

kind_open : kind 40 ≡ Open
unfolding kind
kind_open = refl

kind_close : kind 41 ≡ Close
unfolding kind
kind_close = refl

word_kind : (k : ByteKind) → is_word k ≡ true → k ≡ Word
word_kind White h = cc
word_kind Semicolon h = cc
word_kind Open h = cc
word_kind Close h = cc
word_kind Word h = refl
word_kind Other h = cc

-- a run of bytes of words goes on to its end
run_length : (text rest : List ℕ) → list_all is_word_byte text ≡ true → EndsWord rest → prefix_len is_word_byte (text ++ rest) ≡ length text
run_length [] [] h ends = refl
run_length [] (b ∷ bs) h ends = rw ends refl
run_length (b ∷ bs) rest h ends =
    rw (left_true (is_word_byte b) (list_all is_word_byte bs) h)
    (let e = run_length bs rest (right_true (is_word_byte b) (list_all is_word_byte bs) h) ends in omega (arith, e))

word_begins : (m : ℕ) (text rest : List ℕ) → 0 < length text → list_all is_word_byte text ≡ true → EndsWord rest
    → signs Nothing m (text ++ rest) ≡ Spells m (take (prefix_len is_word_byte (text ++ rest)) (text ++ rest)) ∷ signs Nothing (m + prefix_len is_word_byte (text ++ rest)) (drop (prefix_len is_word_byte (text ++ rest)) (text ++ rest))
word_begins m [] rest some h ends = absurd (omega arith)
word_begins m (b ∷ bs) rest some h ends =
    let bytes : List ℕ = (b ∷ bs) ++ rest in
    at_word m b bytes refl (word_kind (kind b) (left_true (is_word_byte b) (list_all is_word_byte bs) h))
    ∙ ap (λ ss. Spells m (take (prefix_len is_word_byte bytes) bytes) ∷ ss) (past_word m bytes)

one_sign : (m : ℕ) (s : Sign) (rest : List ℕ) → StandsAt m s rest → signs Nothing m (bytes_of s ++ rest) ≡ s ∷ signs Nothing (m + length (bytes_of s)) rest
one_sign m (Opens at) rest h = at_byte m 40 (40 ∷ rest) Open refl kind_open ∙ ap (λ a. Opens a ∷ signs Nothing (m + 1) rest) (sym h)
one_sign m (Closes at) rest h = at_byte m 41 (41 ∷ rest) Close refl kind_close ∙ ap (λ a. Closes a ∷ signs Nothing (m + 1) rest) (sym h)
one_sign m (Spells at text) rest h =
    let bytes : List ℕ = text ++ rest in
    let n : ℕ = length text in
    word_begins m text rest h.some h.bytes h.ends
    ∙ ap (λ k. Spells m (take k bytes) ∷ signs Nothing (m + k) (drop k bytes)) (run_length text rest h.bytes h.ends)
    ∙ ap (λ word. Spells m word ∷ signs Nothing (m + n) (drop n bytes)) (take-append_seam text rest)
    ∙ ap (λ left. Spells m text ∷ signs Nothing (m + n) left) (drop-append_seam text rest)
    ∙ ap (λ a. Spells a text ∷ signs Nothing (m + n) rest) (sym h.there)
one_sign m (Strange at) rest h = absurd h

made_from : (n : ℕ) (ss : List Sign) (text : List ℕ) → IsMadeOf n ss text → signs Nothing n text ≡ ss
made_from n [] text h = nothing_there n text h
made_from n (s ∷ ss) text h =
    let gap = h.0 in
    let rest = h.1 in
    let begins = h.2 in
    ap (signs Nothing n) begins.same
    ∙ past_gap n gap (bytes_of s ++ rest) begins.blank
    ∙ one_sign (n + length gap) s rest begins.stands
    ∙ ap (λ more. s ∷ more) (made_from (n + length gap + length (bytes_of s)) ss rest h.3)

pub words_are_longest_runs : WordsAreLongestRuns
words_are_longest_runs bytes ss h = made_from 0 ss bytes h
