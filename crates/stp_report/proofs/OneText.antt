-- The text of a run tells only what its plain entries and spans tell, and those stand in one order.
use Rattle.std.proofs.Common.{◌≡◌, ℕ, ◌==◌, nat_lt, Bool, true, ◌&&◌, ◌||◌, if◌then◌else◌, List, [], ◌∷◌, ◌++◌, map, Option, Bor, refl, sym, ap, ap₂, ◌∙◌, codes, arith}
use Rattle.std.specs.Fmt.{decimal}
use Rattle.std.proofs.Math.Logic.{∥∥₁_elim}
use Rattle.std.proofs.Props.{props}
use Rattle.std.proofs.lemmas.Bool.Decides.{nat_tests}
use Rattle.stp_happen.specs.declared.fault.Fault.{Fault}
use Rattle.stp_happen.specs.declared.run.Run.{Run}
use Rattle.stp_happen.specs.declared.run.Entry.{Entry}
use Rattle.stp_happen.specs.declared.run.Span.{Span}
use Rattle.stp_happen.specs.Orders.{IsInSomeOrder}
use Rattle.stp_happen.specs.Plain.{PlainEntry, PlainSpan, PlainRun}
use Rattle.stp_happen.specs.Runs.{plain_run}
use Rattle.stp_happen.specs.Sound.{is_ascending}
use Rattle.stp_happen.specs.Views.{entry_of, span_of}
use Rattle.stp_happen.proofs.Ascending.{ascending_map}
use Rattle.stp_happen.proofs.OneList.{one_list}
use Rattle.stp_report.specs.declared.answer.Answer.TheVariants.{Replay}
use Rattle.stp_report.specs.Texts.{line, time_text, outer_text, kind_in, entry_lines, ending_line, text_of}
use Rattle.stp_report.specs.OneText.{ReplaysHaveOneText}

-- ---- one order

abbrev before : PlainEntry → PlainEntry → Bool
before e o = nat_lt e.time o.time || ((e.time == o.time) && nat_lt e.step o.step)

before_one_way : (e o : PlainEntry) → before e o ≡ true → before o e ≡ true → ⊥
before_one_way e o h k = grind (arith, nat_tests)

in_order : (run : Run) → is_ascending before (plain_run run).entries ≡ true
in_order run = ascending_map before entry_of run.entries ∙ ∥∥₁_elim run.sound (Prim.hlevel props) (λ s. s.entries_ordered)

same_entries : (run other : Run) (plain : PlainRun) → IsInSomeOrder (plain_run run) plain → IsInSomeOrder (plain_run other) plain → (plain_run run).entries ≡ (plain_run other).entries
same_entries run other plain h k =
    one_list before before_one_way (plain_run run).entries (plain_run other).entries (in_order run) (in_order other)
    (λ e. (λ i. (k.entries e).1 ((h.entries e).0 i), λ i. (h.entries e).1 ((k.entries e).0 i)))

-- ---- the lines, of plain entries and spans

plain_kind : ℕ → ℕ → List PlainSpan → List ℕ
plain_kind time step [] = outer_text step
plain_kind time step (s ∷ ss) =
    if s.step == step
    then (if s.from == s.to then codes "moment" else (if time == s.from then codes "start" else codes "end"))
    else plain_kind time step ss

plain_lines : ℕ → List PlainSpan → List PlainEntry → List ℕ
plain_lines grid spans [] = []
plain_lines grid spans (e ∷ es) = line (time_text grid e.time ++ codes " " ++ plain_kind e.time e.step spans ++ codes " " ++ decimal e.step) ++ plain_lines grid spans es

kind_is : (time step : ℕ) (spans : List Span) → kind_in time step spans ≡ plain_kind time step (map span_of spans)
unfolding plain_kind
kind_is time step [] = refl
kind_is time step (s ∷ ss) = ap (λ rest. if s.step.0 == step then (if s.from == s.to then codes "moment" else (if time == s.from then codes "start" else codes "end")) else rest) (kind_is time step ss)

lines_are : (grid : ℕ) (spans : List Span) (entries : List Entry) → entry_lines grid spans entries ≡ plain_lines grid (map span_of spans) (map entry_of entries)
unfolding plain_lines
lines_are grid spans [] = refl
lines_are grid spans (e ∷ es) =
    ap₂ (λ kind rest. line (time_text grid e.time ++ codes " " ++ kind ++ codes " " ++ decimal e.step.0) ++ rest) (kind_is e.time e.step.0 spans) (lines_are grid spans es)

-- ---- the text

text_is : (run : Bor Run) (fault : Option Fault) → text_of (Replay run fault) ≡ plain_lines run.now.grid (plain_run run.now).spans (plain_run run.now).entries ++ ending_line run.now.grid fault
text_is run fault = ap (λ lines. lines ++ ending_line run.now.grid fault) (lines_are run.now.grid run.now.spans run.now.entries)

pub replays_have_one_text : ReplaysHaveOneText
replays_have_one_text run other plain fault grid h k =
    text_is run fault
    ∙ ap (λ g. plain_lines g (plain_run run.now).spans (plain_run run.now).entries ++ ending_line g fault) grid
    ∙ ap₂ (λ spans entries. plain_lines other.now.grid spans entries ++ ending_line other.now.grid fault) (h.spans ∙ sym k.spans) (same_entries run.now other.now plain h k)
    ∙ sym (text_is other fault)
