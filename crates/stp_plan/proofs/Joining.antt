-- The parts of printed steps.
use Rattle.std.proofs.Common.{◌≡◌, ℕ, suc, ◌<◌, Bool, true, false, not, ◌||◌, List, [], ◌∷◌, ◌++◌, length, map, All, Option, Some, None, option_map, is_some, refl, ap, ◌∙◌, sym, arith, append_assoc, append-nil, length-append}
use Rattle.std.specs.List.{list_all}
use Rattle.stp_frac.specs.Fractions.{Fraction}
use Rattle.stp_frac.specs.Reading.{text_of}
use Rattle.stp_frac.proofs.Divisors.{left_true, right_true}
use Rattle.stp_plan.specs.declared.atoms.Named.{Named}
use Rattle.stp_text.specs.Bytes.{is_white}
use Rattle.stp_plan.specs.Parts.{Part, Colon, Open, Close, OpenBracket, CloseBracket, Run, mark_of, is_run_byte, ended, cut, parts}
use Rattle.stp_base.specs.Options.{◌>>=◌}
use Rattle.stp_text.specs.Names.{is_name}
use Rattle.stp_plan.specs.Names.{names_of, named_by, runs_of, until_close, atom_of}
use Rattle.stp_plan.specs.Numbers.{plain_number}
use Rattle.stp_plan.specs.Steps.{PlainBracket, NoBracket, Exactly, AnyNumber, Between, PlainStep, time_of, pair_of, inside, bracket_of, step_of}
use Rattle.stp_plan.specs.Printing.{args_text, bracket_text, step_text}
use Rattle.stp_plan.specs.Laws.{bracket_numbers, IsSpellable, IsLawful}
use Rattle.stp_plan.proofs.Signs.{name_some, name_is_run, name_again, number_bytes, number_some, number_is_run, number_again, no_star, no_comma, pair_no_star, pair_comma, before_comma, after_comma, all_both}
use Rattle.stp_plan.proofs.Cuts.{parts_nil, parts_white, parts_mark, cut_cons}

-- ---- runs

run_onto : (b : ℕ) (bs : List ℕ) (white : Bool) (mark : Option Part) → is_white b ≡ white → mark_of b ≡ mark → not (white || is_some mark) ≡ true → cut (b ∷ bs) ≡ (b ∷ (cut bs).0, (cut bs).1)
run_onto b bs true mark h k e = cc
run_onto b bs false (Some mark) h k e = cc
run_onto b bs false None h k e = cut_cons b bs false None h k

-- bytes of a run before what follows
cut_onto : (word rest : List ℕ) → list_all is_run_byte word ≡ true → cut (word ++ rest) ≡ (word ++ (cut rest).0, (cut rest).1)
cut_onto [] rest h = refl
cut_onto (b ∷ bs) rest h =
    run_onto b (bs ++ rest) (is_white b) (mark_of b) refl refl (left_true (is_run_byte b) (list_all is_run_byte bs) h)
    ∙ ap (λ x. (b ∷ x.0, x.1)) (cut_onto bs rest (right_true (is_run_byte b) (list_all is_run_byte bs) h))

-- a text that begins with no byte of a run
abbrev pub IsApart : List ℕ → Type 0
IsApart rest = (cut rest).0 ≡ []

one_run : (word : List ℕ) (ps : List Part) → 0 < length word → ended (word ++ [], ps) ≡ Run word ∷ ps
one_run [] ps h = absurd (omega arith)
one_run (b ∷ bs) ps h = ap (λ xs. Run (b ∷ xs) ∷ ps) (append-nil bs)

pub parts_run : (word rest : List ℕ) → 0 < length word → list_all is_run_byte word ≡ true → IsApart rest → parts (word ++ rest) ≡ Run word ∷ parts rest
unfolding parts
parts_run word rest some h apart =
    ap ended (cut_onto word rest h)
    ∙ ap (λ xs. ended (word ++ xs, (cut rest).1)) apart
    ∙ one_run word (cut rest).1 some
    ∙ ap (λ ps. Run word ∷ ps) (sym (ap (λ xs. ended (xs, (cut rest).1)) apart))

pub apart_nil : IsApart []
unfolding cut
apart_nil = refl

pub apart_white : (b : ℕ) (bs : List ℕ) → is_white b ≡ true → IsApart (b ∷ bs)
apart_white b bs h = ap (λ x. x.0) (cut_cons b bs true (mark_of b) h refl)

pub apart_mark : (b : ℕ) (bs : List ℕ) (mark : Part) → is_white b ≡ false → mark_of b ≡ Some mark → IsApart (b ∷ bs)
apart_mark b bs mark h k = ap (λ x. x.0) (cut_cons b bs false (Some mark) h k)

-- ---- arguments

abbrev pub runs : List (List ℕ) → List Part
runs words = map (λ w. Run w) words

args_apart : (args : List (List ℕ)) (rest : List ℕ) → IsApart rest → IsApart (args_text args ++ rest)
args_apart [] rest h = h
args_apart (arg ∷ args) rest h = apart_white 32 ((arg ++ args_text args) ++ rest) refl

parts_args : (args : List (List ℕ)) (rest : List ℕ) → list_all is_name args ≡ true → IsApart rest → parts (args_text args ++ rest) ≡ runs args ++ parts rest
parts_args [] rest h apart = refl
parts_args (arg ∷ args) rest h apart =
    let name : is_name arg ≡ true = left_true (is_name arg) (list_all is_name args) h in
    parts_white 32 ((arg ++ args_text args) ++ rest) refl
    ∙ ap parts (append_assoc arg (args_text args) rest)
    ∙ parts_run arg (args_text args ++ rest) (name_some arg name) (name_is_run arg name) (args_apart args rest apart)
    ∙ ap (λ ps. Run arg ∷ ps) (parts_args args rest (right_true (is_name arg) (list_all is_name args) h) apart)

pub runs_before : (words : List (List ℕ)) (rest : List Part) → runs_of (runs words ++ Close ∷ rest) ≡ (words, Close ∷ rest)
runs_before [] rest = refl
runs_before (word ∷ words) rest = ap (λ r. (word ∷ r.0, r.1)) (runs_before words rest)

names_again : (words : List (List ℕ)) → list_all is_name words ≡ true → names_of words ≡ Some words
names_again [] h = refl
names_again (word ∷ words) h =
    ap (λ n. n >>= (λ name. names_of words >>= (λ names. Some (name ∷ names)))) (name_again word (left_true (is_name word) (list_all is_name words) h))
    ∙ ap (λ ns. ns >>= (λ names. Some (word ∷ names))) (names_again words (right_true (is_name word) (list_all is_name words) h))

named_again : (name : List ℕ) (args : List (List ℕ)) → list_all is_name (name ∷ args) ≡ true → named_by (name ∷ args) ≡ Some (record { name = name; args = args })
named_again name args h =
    ap (λ n. n >>= (λ name. names_of args >>= (λ args. let r : Option Named = Some (record { name = name; args = args }) in r))) (name_again name (left_true (is_name name) (list_all is_name args) h))
    ∙ ap (λ ns. ns >>= (λ args. let r : Option Named = Some (record { name = name; args = args }) in r)) (names_again args (right_true (is_name name) (list_all is_name args) h))

atom_again : (name : List ℕ) (args : List (List ℕ)) (rest : List Part) → list_all is_name (name ∷ args) ≡ true → atom_of (Open ∷ (Run name ∷ (runs args ++ Close ∷ rest))) ≡ Some (record { name = name; args = args }, rest)
atom_again name args rest h =
    ap until_close (runs_before (name ∷ args) rest)
    ∙ ap (option_map (λ named. (named, rest))) (named_again name args h)

-- ---- brackets

inside_again : (f : Fraction) → IsSpellable f → inside (text_of f) ≡ Some (Exactly f)
inside_again f h = rw (no_star (text_of f) (number_bytes f h), no_comma (text_of f) (number_bytes f h)) (ap (option_map (λ n. Exactly n)) (number_again f h))

pair_again : (l h : Fraction) → IsSpellable l → IsSpellable h → inside (text_of l ++ 44 ∷ text_of h) ≡ Some (Between l h)
pair_again l h p q =
    rw (pair_no_star (text_of l) (text_of h) (number_some l p), pair_comma (text_of l) (text_of h), before_comma (text_of l) (text_of h) (number_bytes l p), after_comma (text_of l) (text_of h) (number_bytes l p))
    (ap (λ o. pair_of o (plain_number (text_of h))) (number_again l p) ∙ ap (λ o. pair_of (Some l) o) (number_again h q))

-- a bracket's word, and its parts
parts_bracket : (word : List ℕ) → 0 < length word → list_all is_run_byte word ≡ true → parts (32 ∷ 91 ∷ (word ++ 93 ∷ [])) ≡ OpenBracket ∷ (Run word ∷ (CloseBracket ∷ []))
parts_bracket word some h =
    parts_white 32 (91 ∷ (word ++ 93 ∷ [])) refl
    ∙ parts_mark 91 (word ++ 93 ∷ []) OpenBracket refl refl
    ∙ ap (λ ps. OpenBracket ∷ ps) (parts_run word (93 ∷ []) some h (apart_mark 93 [] CloseBracket refl refl)
    ∙ ap (λ ps. Run word ∷ ps) (parts_mark 93 [] CloseBracket refl refl ∙ ap (λ ps. CloseBracket ∷ ps) parts_nil))

bracket_again : (b : PlainBracket) → All IsSpellable (bracket_numbers b) → bracket_of (parts (bracket_text b)) ≡ Some b
bracket_again NoBracket h = ap bracket_of parts_nil
bracket_again (Exactly f) h =
    let p : IsSpellable f = h 0 f (omega arith) in
    ap bracket_of (parts_bracket (text_of f) (number_some f p) (number_is_run f p)) ∙ inside_again f p
bracket_again AnyNumber h = ap bracket_of (parts_bracket (42 ∷ []) (omega arith) refl)
bracket_again (Between l u) h =
    let p : IsSpellable l = h 0 l (omega arith) in
    let q : IsSpellable u = h 1 u (omega arith) in
    let word : List ℕ = text_of l ++ 44 ∷ text_of u in
    let some : 0 < length word = omega (arith, length-append (text_of l) (44 ∷ text_of u), number_some l p) in
    ap (λ bs. bracket_of (parts (32 ∷ 91 ∷ bs))) (sym (append_assoc (text_of l) (44 ∷ text_of u) (93 ∷ [])))
    ∙ ap bracket_of (parts_bracket word some (all_both is_run_byte (text_of l) (44 ∷ text_of u) (number_is_run l p) (number_is_run u q)))
    ∙ pair_again l u p q

-- ---- steps

bracket_apart : (b : PlainBracket) → IsApart (bracket_text b)
bracket_apart NoBracket = apart_nil
bracket_apart (Exactly f) = apart_white 32 (91 ∷ (text_of f ++ 93 ∷ [])) refl
bracket_apart AnyNumber = apart_white 32 (91 ∷ 42 ∷ 93 ∷ []) refl
bracket_apart (Between l h) = apart_white 32 (91 ∷ (text_of l ++ 44 ∷ (text_of h ++ 93 ∷ []))) refl

abbrev step_parts : PlainStep → List Part
step_parts s = Run (text_of s.at) ∷ (Colon ∷ (Open ∷ (Run s.name ∷ (runs s.args ++ Close ∷ parts (bracket_text s.bracket)))))

parts_step : (s : PlainStep) → IsLawful IsSpellable s → parts (step_text s) ≡ step_parts s
parts_step s h =
    let at : IsSpellable s.at = h.numbers 0 s.at (omega arith) in
    let name : is_name s.name ≡ true = left_true (is_name s.name) (list_all is_name s.args) h.names in
    let args : list_all is_name s.args ≡ true = right_true (is_name s.name) (list_all is_name s.args) h.names in
    let ending : List ℕ = 41 ∷ bracket_text s.bracket in
    let close : IsApart ending = apart_mark 41 (bracket_text s.bracket) Close refl refl in
    let rest : List ℕ = s.name ++ (args_text s.args ++ ending) in
    parts_run (text_of s.at) (58 ∷ 32 ∷ 40 ∷ rest) (number_some s.at at) (number_is_run s.at at) (apart_mark 58 (32 ∷ 40 ∷ rest) Colon refl refl)
    ∙ ap (λ ps. Run (text_of s.at) ∷ ps) (parts_mark 58 (32 ∷ 40 ∷ rest) Colon refl refl
    ∙ ap (λ ps. Colon ∷ ps) (parts_white 32 (40 ∷ rest) refl ∙ parts_mark 40 rest Open refl refl
    ∙ ap (λ ps. Open ∷ ps) (parts_run s.name (args_text s.args ++ ending) (name_some s.name name) (name_is_run s.name name) (args_apart s.args ending close)
    ∙ ap (λ ps. Run s.name ∷ ps) (parts_args s.args ending args close
    ∙ ap (λ ps. runs s.args ++ ps) (parts_mark 41 (bracket_text s.bracket) Close refl refl)))))

-- what is left to read of a step
abbrev pub with_bracket : Fraction → Named → Option PlainBracket → Option PlainStep
with_bracket at named bracket = bracket >>= (λ b. Some (record { at = at; name = named.name; args = named.args; bracket = b }))

abbrev pub with_atom : Fraction → Option (Named × List Part) → Option PlainStep
with_atom at atom = atom >>= (λ a. with_bracket at a.0 (bracket_of a.1))

abbrev pub with_time : Option (Fraction × List Part) → Option PlainStep
with_time time = time >>= (λ t. with_atom t.0 (atom_of t.1))

-- a printed step is read again
pub step_again : (s : PlainStep) → IsLawful IsSpellable s → step_of (step_text s) ≡ Some s
unfolding step_of
step_again s h =
    let at : IsSpellable s.at = h.numbers 0 s.at (omega arith) in
    let numbers : All IsSpellable (bracket_numbers s.bracket) = λ k d below. h.numbers (suc k) d (omega arith) in
    let rest : List Part = parts (bracket_text s.bracket) in
    let atom : List Part = Open ∷ (Run s.name ∷ (runs s.args ++ Close ∷ rest)) in
    ap (λ ps. with_time (time_of ps)) (parts_step s h)
    ∙ ap (λ n. with_time (option_map (λ at. (at, atom)) n)) (number_again s.at at)
    ∙ ap (with_atom s.at) (atom_again s.name s.args rest h.names)
    ∙ ap (with_bracket s.at (record { name = s.name; args = s.args })) (bracket_again s.bracket numbers)
