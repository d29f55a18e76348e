-- A text that spells parts has these parts.
use Rattle.std.proofs.Common.{◌≡◌, ℕ, Bool, true, false, not, ◌||◌, List, [], ◌∷◌, ◌++◌, map, Option, Some, None, is_some, option_map, refl, ap, ◌∙◌, sym}
use Rattle.std.specs.List.{list_all}
use Rattle.stp_frac.proofs.Divisors.{left_true, right_true}
use Rattle.stp_base.specs.Options.{◌>>=◌}
use Rattle.stp_text.specs.Bytes.{is_white}
use Rattle.stp_plan.specs.Parts.{Part, Colon, Open, Close, OpenBracket, CloseBracket, Run, mark_of, byte_of, parts}
use Rattle.stp_plan.specs.Names.{named_by, until_close, atom_of}
use Rattle.stp_plan.specs.Numbers.{plain_number}
use Rattle.stp_plan.specs.Steps.{PlainStep, bracket_of, time_of, step_of}
use Rattle.stp_plan.specs.Spelling.{bytes_of, EndsRun, IsRun, StandsBefore, IsBlank, BeginsWith, Spells, step_parts, IsSpelling}
use Rattle.stp_plan.proofs.Cuts.{parts_nil, parts_white, parts_mark}
use Rattle.stp_plan.proofs.Joining.{IsApart, parts_run, apart_nil, apart_white, apart_mark, runs_before, with_bracket, with_atom, with_time}

-- white bytes before a text have no part
past_blank : (gap text : List ℕ) → IsBlank gap → parts (gap ++ text) ≡ parts text
past_blank [] text h = refl
past_blank (b ∷ bs) text h =
    parts_white b (bs ++ text) (left_true (is_white b) (list_all is_white bs) h)
    ∙ past_blank bs text (right_true (is_white b) (list_all is_white bs) h)

no_parts : (text : List ℕ) → IsBlank text → parts text ≡ []
no_parts [] h = parts_nil
no_parts (b ∷ bs) h =
    parts_white b bs (left_true (is_white b) (list_all is_white bs) h)
    ∙ no_parts bs (right_true (is_white b) (list_all is_white bs) h)

-- a byte that is of no run ends one
apart_by : (b : ℕ) (bs : List ℕ) (white : Bool) (mark : Option Part) → is_white b ≡ white → mark_of b ≡ mark → not (white || is_some mark) ≡ false → IsApart (b ∷ bs)
apart_by b bs true mark h k e = apart_white b bs h
apart_by b bs false (Some mark) h k e = apart_mark b bs mark h k
apart_by b bs false None h k e = cc

apart : (rest : List ℕ) → EndsRun rest → IsApart rest
apart [] h = apart_nil
apart (b ∷ bs) h = apart_by b bs (is_white b) (mark_of b) refl refl h

-- a part before what follows it
one_part : (p : Part) (rest : List ℕ) → StandsBefore p rest → parts (bytes_of p ++ rest) ≡ p ∷ parts rest
one_part Colon rest h = parts_mark 58 rest Colon refl refl
one_part Open rest h = parts_mark 40 rest Open refl refl
one_part Close rest h = parts_mark 41 rest Close refl refl
one_part OpenBracket rest h = parts_mark 91 rest OpenBracket refl refl
one_part CloseBracket rest h = parts_mark 93 rest CloseBracket refl refl
one_part (Run word) rest h = parts_run word rest h.some h.bytes (apart rest h.ends)

pub spelled_parts : (ps : List Part) (text : List ℕ) → Spells ps text → parts text ≡ ps
spelled_parts [] text h = no_parts text h
spelled_parts (p ∷ ps) text h =
    let begins = h.2 in
    ap parts begins.same
    ∙ past_blank h.0 (bytes_of p ++ h.1) begins.blank
    ∙ one_part p h.1 begins.stands
    ∙ ap (λ qs. p ∷ qs) (spelled_parts ps h.1 h.3)

-- a text that spells a step is read as that step
pub spelled_step : (s : PlainStep) (text : List ℕ) → IsSpelling s text → step_of text ≡ Some s
unfolding step_of
spelled_step s text h =
    let rest : List Part = Open ∷ (map (λ w. Run w) h.words ++ Close ∷ h.bracket) in
    ap (λ ps. with_time (time_of ps)) (spelled_parts (step_parts h.time h.words h.bracket) text h.spelled)
    ∙ ap (λ at. with_time (option_map (λ a. (a, rest)) at)) h.at
    ∙ ap (λ r. with_atom s.at (until_close r)) (runs_before h.words h.bracket)
    ∙ ap (λ named. with_atom s.at (option_map (λ n. (n, h.bracket)) named)) h.names
    ∙ ap (with_bracket s.at (record { name = s.name; args = s.args })) h.ends
