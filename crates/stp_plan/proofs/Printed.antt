-- A printed plan is read again.
use Rattle.std.proofs.Common.{◌≡◌, ℕ, zero, suc, ◌<◌, ◌≤◌, ◌+◌, ◌-◌, Bool, true, false, cond, not, ◌||◌, ◌==◌, List, [], ◌∷◌, ◌++◌, length, map, take, drop, reverse, All, None, Ok, slice_get, filter_map, eqb, refl, ap, ◌∙◌, arith, length-append}
use Rattle.std.specs.List.{list_all, onto_first, prefix_len, suffix_len, position_or_len}
use Rattle.std.proofs.lemmas.Bool.{ne_eqb}
use Rattle.std.proofs.lemmas.List.{reverse-append, length-reverse}
use Rattle.std.proofs.lemmas.List.Folds.{prefix_len-append}
use Rattle.std.proofs.Math.Seq.{take-length}
use Rattle.stp_frac.specs.Reading.{text_of}
use Rattle.stp_frac.proofs.Divisors.{left_true, right_true}
use Rattle.stp_text.specs.Bytes.{is_white}
use Rattle.stp_plan.specs.Parts.{is_mark, is_run_byte}
use Rattle.stp_plan.specs.Lines.{lines_of, trim_start, trim_end, line_text, texts_of}
use Rattle.stp_text.specs.Names.{is_name}
use Rattle.stp_plan.specs.Steps.{PlainBracket, NoBracket, Exactly, AnyNumber, Between, PlainStep, step_of}
use Rattle.stp_plan.specs.Plans.{LineKind, AStep, if_step, kind_of, is_bad, is_step, step_in, numbers_of, unless_bad, unless_many, plan_in, plan_of}
use Rattle.stp_plan.specs.Printing.{args_text, bracket_text, step_text, plan_text}
use Rattle.stp_plan.specs.Laws.{bracket_numbers, IsSpellable, IsLawful, PrintedPlansAreReadAgain}
use Rattle.stp_plan.proofs.Signs.{is_kept, all_both, name_is_kept, number_some, number_is_run, number_is_kept}
use Rattle.stp_plan.proofs.Joining.{step_again}

-- ---- a line and its line feed

line_onto : (b : ℕ) (t : List ℕ) (rest : List (List ℕ)) (feed comment : Bool) → not (feed || comment) ≡ true → cond feed ([] ∷ (t ∷ rest)) ((b ∷ t) ∷ rest) ≡ (b ∷ t) ∷ rest
line_onto b t rest true comment h = cc
line_onto b t rest false comment h = refl

lines_before : (t rest : List ℕ) → list_all is_kept t ≡ true → lines_of (t ++ 10 ∷ rest) ≡ t ∷ lines_of rest
unfolding lines_of
lines_before [] rest h = refl
lines_before (b ∷ t) rest h =
    ap (λ ls. cond (b == 10) ([] ∷ ls) (onto_first b ls)) (lines_before t rest (right_true (is_kept b) (list_all is_kept t) h))
    ∙ line_onto b t (lines_of rest) (b == 10) (b == 59) (left_true (is_kept b) (list_all is_kept t) h)

-- ---- a line without a comment and white ends

no_comment : (feed comment : Bool) → not (feed || comment) ≡ true → comment ≡ false
no_comment true comment h = cc
no_comment false true h = cc
no_comment false false h = refl

comment_place : (t : List ℕ) → list_all is_kept t ≡ true → position_or_len (λ b. b == 59) t ≡ length t
comment_place [] h = refl
comment_place (b ∷ t) h =
    ap (λ c. cond (not c) (1 + position_or_len (λ b. b == 59) t) 0) (no_comment (b == 10) (b == 59) (left_true (is_kept b) (list_all is_kept t) h))
    ∙ ap (λ n. 1 + n) (comment_place t (right_true (is_kept b) (list_all is_kept t) h))
    ∙ (omega arith)

-- nothing is taken away
line_text_whole : (t : List ℕ) → list_all is_kept t ≡ true → prefix_len is_white t ≡ 0 → suffix_len is_white t ≡ 0 → line_text t ≡ t
line_text_whole t h begins ends =
    ap (λ n. trim_end (trim_start (take n t))) (comment_place t h)
    ∙ ap (λ x. trim_end (trim_start x)) (take-length t)
    ∙ ap (λ n. trim_end (drop n t)) begins
    ∙ ap (λ n. take (length t - n) t) ends
    ∙ (let e : length t - 0 ≡ length t = omega arith in ap (λ n. take n t) e ∙ take-length t)

run_is_black : (white mark : Bool) → not (white || mark) ≡ true → white ≡ false
run_is_black true mark h = cc
run_is_black false mark h = refl

begins_black : (word rest : List ℕ) → 0 < length word → list_all is_run_byte word ≡ true → prefix_len is_white (word ++ rest) ≡ 0
begins_black [] rest some h = absurd (omega arith)
begins_black (b ∷ bs) rest some h =
    ap (λ w. cond w (1 + prefix_len is_white (bs ++ rest)) 0) (run_is_black (is_white b) (is_mark b) (left_true (is_run_byte b) (list_all is_run_byte bs) h))

ends_black : (xs ys : List ℕ) → 0 < length ys → suffix_len is_white ys ≡ 0 → suffix_len is_white (xs ++ ys) ≡ 0
ends_black xs ys some h =
    ap (prefix_len is_white) (reverse-append xs ys)
    ∙ prefix_len-append is_white (reverse ys) (reverse xs)
    ∙ ap (λ n. cond (eqb n (length (reverse ys))) (length (reverse ys) + prefix_len is_white (reverse xs)) n) h
    ∙ ap (λ b. cond b (length (reverse ys) + prefix_len is_white (reverse xs)) 0) (ne_eqb 0 (length (reverse ys)) (λ (e : 0 ≡ length (reverse ys)). absurd (omega (arith, length-reverse ys))))

-- ---- the line of a step

args_kept : (args : List (List ℕ)) → list_all is_name args ≡ true → list_all is_kept (args_text args) ≡ true
args_kept [] h = refl
args_kept (arg ∷ args) h =
    all_both is_kept arg (args_text args) (name_is_kept arg (left_true (is_name arg) (list_all is_name args) h)) (args_kept args (right_true (is_name arg) (list_all is_name args) h))

bracket_kept : (b : PlainBracket) → All IsSpellable (bracket_numbers b) → list_all is_kept (bracket_text b) ≡ true
bracket_kept NoBracket h = refl
bracket_kept (Exactly f) h = all_both is_kept (text_of f) (93 ∷ []) (number_is_kept f (h 0 f (omega arith))) refl
bracket_kept AnyNumber h = refl
bracket_kept (Between l u) h =
    all_both is_kept (text_of l) (44 ∷ (text_of u ++ 93 ∷ [])) (number_is_kept l (h 0 l (omega arith)))
    (all_both is_kept (text_of u) (93 ∷ []) (number_is_kept u (h 1 u (omega arith))) refl)

bracket_ends : (b : PlainBracket) → suffix_len is_white (41 ∷ bracket_text b) ≡ 0
bracket_ends NoBracket = refl
bracket_ends (Exactly f) = ends_black (41 ∷ 32 ∷ 91 ∷ text_of f) (93 ∷ []) (omega arith) refl
bracket_ends AnyNumber = refl
bracket_ends (Between l u) =
    ends_black (41 ∷ 32 ∷ 91 ∷ text_of l) (44 ∷ (text_of u ++ 93 ∷ [])) (omega arith) (ends_black (44 ∷ text_of u) (93 ∷ []) (omega arith) refl)

step_kept : (s : PlainStep) → IsLawful IsSpellable s → list_all is_kept (step_text s) ≡ true
step_kept s h =
    let numbers : All IsSpellable (bracket_numbers s.bracket) = λ k d below. h.numbers (suc k) d (omega arith) in
    let ending : List ℕ = args_text s.args ++ 41 ∷ bracket_text s.bracket in
    all_both is_kept (text_of s.at) (58 ∷ 32 ∷ 40 ∷ (s.name ++ ending)) (number_is_kept s.at (h.numbers 0 s.at (omega arith)))
    (all_both is_kept s.name ending (name_is_kept s.name (left_true (is_name s.name) (list_all is_name s.args) h.names))
    (all_both is_kept (args_text s.args) (41 ∷ bracket_text s.bracket) (args_kept s.args (right_true (is_name s.name) (list_all is_name s.args) h.names)) (bracket_kept s.bracket numbers)))

step_ends : (s : PlainStep) → suffix_len is_white (step_text s) ≡ 0
step_ends s =
    let ending : List ℕ = 41 ∷ bracket_text s.bracket in
    let a : suffix_len is_white (args_text s.args ++ ending) ≡ 0 = ends_black (args_text s.args) ending (omega arith) (bracket_ends s.bracket) in
    let b : suffix_len is_white (s.name ++ (args_text s.args ++ ending)) ≡ 0 = ends_black s.name (args_text s.args ++ ending) (omega (arith, length-append (args_text s.args) ending)) a in
    let c : suffix_len is_white (58 ∷ 32 ∷ 40 ∷ (s.name ++ (args_text s.args ++ ending))) ≡ 0 = ends_black (58 ∷ 32 ∷ 40 ∷ []) (s.name ++ (args_text s.args ++ ending)) (omega (arith, length-append (args_text s.args) ending, length-append s.name (args_text s.args ++ ending))) b in
    ends_black (text_of s.at) (58 ∷ 32 ∷ 40 ∷ (s.name ++ (args_text s.args ++ ending))) (omega arith) c

step_begins : (s : PlainStep) → IsLawful IsSpellable s → prefix_len is_white (step_text s) ≡ 0
step_begins s h =
    let at : IsSpellable s.at = h.numbers 0 s.at (omega arith) in
    begins_black (text_of s.at) (58 ∷ 32 ∷ 40 ∷ (s.name ++ (args_text s.args ++ 41 ∷ bracket_text s.bracket))) (number_some s.at at) (number_is_run s.at at)

step_line_text : (s : PlainStep) → IsLawful IsSpellable s → line_text (step_text s) ≡ step_text s
step_line_text s h = line_text_whole (step_text s) (step_kept s h) (step_begins s h) (step_ends s)

kind_of_some : (t : List ℕ) → 0 < length t → kind_of t ≡ if_step (step_of t)
kind_of_some [] h = absurd (omega arith)
kind_of_some (b ∷ bs) h = refl

step_kind : (s : PlainStep) → IsLawful IsSpellable s → kind_of (step_text s) ≡ AStep s
step_kind s h =
    let some : 0 < length (step_text s) = omega (arith, length-append (text_of s.at) (58 ∷ 32 ∷ 40 ∷ (s.name ++ (args_text s.args ++ 41 ∷ bracket_text s.bracket)))) in
    kind_of_some (step_text s) some ∙ ap if_step (step_again s h)

-- ---- all lines

lines_kinds : (plan : List PlainStep) → All (IsLawful IsSpellable) plan → map kind_of (texts_of (plan_text plan)) ≡ map (λ s. AStep s) plan
unfolding lines_of
lines_kinds [] h = refl
lines_kinds (s ∷ ss) h =
    let p : IsLawful IsSpellable s = h 0 s (omega arith) in
    ap (λ ls. map kind_of (map line_text ls)) (lines_before (step_text s) (plan_text ss) (step_kept s p))
    ∙ ap (λ t. kind_of t ∷ map kind_of (texts_of (plan_text ss))) (step_line_text s p)
    ∙ ap (λ j. j ∷ map kind_of (texts_of (plan_text ss))) (step_kind s p)
    ∙ ap (λ js. AStep s ∷ js) (lines_kinds ss (λ k d below. h (suc k) d (omega arith)))

none_bad : (n : ℕ) (plan : List PlainStep) → numbers_of is_bad n (map (λ s. AStep s) plan) ≡ []
none_bad n [] = refl
none_bad n (s ∷ ss) = none_bad (n + 1) ss

none_more : (n most : ℕ) (plan : List PlainStep) → length plan ≤ most → slice_get (numbers_of is_step n (map (λ s. AStep s) plan)) most ≡ None
none_more n most [] h = refl
none_more n zero (s ∷ ss) h = absurd (omega arith)
none_more n (suc most) (s ∷ ss) h = none_more (n + 1) most ss (omega arith)

all_steps : (plan : List PlainStep) → filter_map step_in (map (λ s. AStep s) plan) ≡ plan
all_steps [] = refl
all_steps (s ∷ ss) = ap (λ xs. s ∷ xs) (all_steps ss)

pub printed_plans_are_read_again : PrintedPlansAreReadAgain
unfolding plan_of plan_in
printed_plans_are_read_again plan h =
    let steps : List LineKind = map (λ s. AStep s) plan in
    ap plan_in (lines_kinds plan h.steps)
    ∙ ap (λ numbers. unless_bad (slice_get numbers 0) (unless_many (slice_get (numbers_of is_step 1 steps) 500) (filter_map step_in steps))) (none_bad 1 plan)
    ∙ ap (λ o. unless_many o (filter_map step_in steps)) (none_more 1 500 plan h.few)
    ∙ ap (λ x. Ok x) (all_steps plan)
