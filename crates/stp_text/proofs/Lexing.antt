-- Equations of the signs at the next byte.
use Rattle.std.proofs.Common.{◌≡◌, ℕ, ◌+◌, ◌≤◌, Bool, true, false, eqb, eqb-true, List, [], ◌∷◌, ◌++◌, length, drop, slice_get, Some, None, refl, ap, ◌∙◌, arith, add-zero, one-add, suc}
use Rattle.std.specs.List.{prefix_len}
use Rattle.stp_text.specs.declared.bytes.ByteKind.{ByteKind}
use Rattle.stp_text.specs.declared.bytes.ByteKind.TheVariants.{White, Semicolon, Open, Close, Word, Other}
use Rattle.stp_text.specs.Bytes.{kind, run, is_word_byte, is_comment_byte}
use Rattle.stp_text.specs.Signs.{Sign, Spells, Nothing, AWord, AComment, signs, begins_here, within_kind}

pub at_end : (n : ℕ) (bytes : List ℕ) → slice_get bytes 0 ≡ None → signs Nothing n bytes ≡ []
unfolding signs
at_end n [] g = refl
at_end n (x ∷ bytes) g = cc

pub at_byte : (n b : ℕ) (bytes : List ℕ) (k : ByteKind) → slice_get bytes 0 ≡ Some b → kind b ≡ k → signs Nothing n bytes ≡ begins_here k n bytes ++ signs (within_kind k) (n + 1) (drop 1 bytes)
unfolding signs
at_byte n b [] k g e = cc
at_byte n b (x ∷ bytes) k g e = let h : kind x ≡ k = ap kind (let s : x ≡ b = cc in s) ∙ e in rw h refl

pub begun : (b : ℕ) (bytes : List ℕ) → slice_get bytes 0 ≡ Some b → 1 ≤ length bytes
begun b [] g = cc
begun b (x ∷ bytes) g = omega arith

kind_line_feed : kind 10 ≡ White
unfolding kind
kind_line_feed = refl

further : (F : ℕ → List ℕ → List Sign) (n k b : ℕ) (bytes : List ℕ) → F (n + 1 + k) (drop k bytes) ≡ F (n + (1 + k)) (drop (1 + k) (b ∷ bytes))
further F n k b bytes = rw one-add (ap (λ m. F m (drop k bytes)) (let h : n + 1 + k ≡ n + suc k = omega arith in h))

-- a comment goes on to the line feed or the end
comment_step : (n b : ℕ) (bytes : List ℕ) (t : Bool) → eqb b 10 ≡ t
    → signs AComment (n + 1) bytes ≡ signs Nothing (n + 1 + prefix_len is_comment_byte bytes) (drop (prefix_len is_comment_byte bytes) bytes)
    → signs AComment n (b ∷ bytes) ≡ signs Nothing (n + prefix_len is_comment_byte (b ∷ bytes)) (drop (prefix_len is_comment_byte (b ∷ bytes)) (b ∷ bytes))
unfolding signs
comment_step n b bytes true e h = rw (e, add-zero, eqb-true b 10 e, kind_line_feed) refl
comment_step n b bytes false e h = rw e (h ∙ further (signs Nothing) n (prefix_len is_comment_byte bytes) b bytes)

pub past_comment : (n : ℕ) (bytes : List ℕ) → signs AComment n bytes ≡ signs Nothing (n + prefix_len is_comment_byte bytes) (drop (prefix_len is_comment_byte bytes) bytes)
unfolding signs
past_comment n [] = refl
past_comment n (b ∷ bytes) = comment_step n b bytes (eqb b 10) refl (past_comment (n + 1) bytes)

-- a word goes on to a byte that is none of a word
word_step : (n b : ℕ) (bytes : List ℕ) (k : ByteKind) → kind b ≡ k
    → signs AWord (n + 1) bytes ≡ signs Nothing (n + 1 + prefix_len is_word_byte bytes) (drop (prefix_len is_word_byte bytes) bytes)
    → signs AWord n (b ∷ bytes) ≡ signs Nothing (n + prefix_len is_word_byte (b ∷ bytes)) (drop (prefix_len is_word_byte (b ∷ bytes)) (b ∷ bytes))
unfolding signs
word_step n b bytes White e h = rw (e, add-zero, e) refl
word_step n b bytes Semicolon e h = rw (e, add-zero, e) refl
word_step n b bytes Open e h = rw (e, add-zero, e) refl
word_step n b bytes Close e h = rw (e, add-zero, e) refl
word_step n b bytes Word e h = rw e (h ∙ further (signs Nothing) n (prefix_len is_word_byte bytes) b bytes)
word_step n b bytes Other e h = rw (e, add-zero, e) refl

pub past_word : (n : ℕ) (bytes : List ℕ) → signs AWord n bytes ≡ signs Nothing (n + prefix_len is_word_byte bytes) (drop (prefix_len is_word_byte bytes) bytes)
unfolding signs
past_word n [] = refl
past_word n (b ∷ bytes) = word_step n b bytes (kind b) refl (past_word (n + 1) bytes)

-- where a word begins
pub at_word : (n b : ℕ) (bytes : List ℕ) → slice_get bytes 0 ≡ Some b → kind b ≡ Word → signs Nothing n bytes ≡ Spells n (run bytes) ∷ signs AWord n bytes
unfolding signs
at_word n b [] g e = cc
at_word n b (x ∷ bytes) g e = let h : kind x ≡ Word = ap kind (let s : x ≡ b = cc in s) ∙ e in rw h (rw h refl)

pub run_begun : (b : ℕ) (bytes : List ℕ) → slice_get bytes 0 ≡ Some b → kind b ≡ Word → 1 ≤ length (run bytes)
run_begun b [] g e = cc
run_begun b (x ∷ bytes) g e = let h : kind x ≡ Word = ap kind (let s : x ≡ b = cc in s) ∙ e in rw h (rw one-add (omega arith))
