-- Two problems worked by the definitions: what becomes of one that has an uncertain action and one with something to
-- hold inside, and a box whose over-all condition holds whether the unsettled end has come or not.
use Rattle.std.proofs.Common.{◌≡◌, true, false, ◌==◌, List, [], ◌∷◌, length, Some, None, refl}
use Rattle.stp_cond.specs.Atoms.{PlainEvent}
use Rattle.stp_cond.specs.Formulas.{Formula, Always, Atomic, Negation, Conjunction, Disjunction, NoMore, More, holds_in}
use Rattle.stp_cond.specs.Truth.{state_of_row}
use Rattle.stp_happen.specs.Faults.{faults_of}
use Rattle.stp_happen.specs.Boxes.{PlainBox}
use Rattle.stp_happen.specs.Owners.{PlainBoxStep, owners_of}
use Rattle.stp_window.specs.OwnerWindows.{windows_of}
use Rattle.stp_strength.specs.Failures.{is_sound}
use Rattle.stp_expand.specs.Expanded.{expanded}
use Rattle.stp_rewriting.specs.Rewritten.{Rewriting, Settled, Opening, Closing, rewritten, other_ends}
use Rattle.stp_rewriting.specs.Dated.{dated_run}
use Rattle.stp_rewriting.specs.Numbering.{rewriting_of}

-- ---- an end that needs g and adds f, and a step that deletes g at its start and wants f false inside

abbrev on_end : PlainEvent
on_end = record { cond = λ s. s 0; reads = 0 ∷ []; adds = 1 ∷ []; dels = [] }

abbrev hold_start : PlainEvent
hold_start = record { cond = λ s. true; reads = []; adds = []; dels = 0 ∷ [] }

abbrev duo : Rewriting
duo = rewriting_of 2 (record { ending = Some on_end; over = Always } ∷ record { ending = None; over = Negation (Atomic 1) } ∷ []) (true ∷ false ∷ [])

first_state : duo.initial ≡ true ∷ false ∷ false ∷ false ∷ []
first_state = refl

opening_reads : (rewritten duo Opening 1 on_end).reads ≡ 0 ∷ []
opening_reads = refl

opening_adds : (rewritten duo Opening 1 on_end).adds ≡ 2 ∷ 3 ∷ []
opening_adds = refl

closing_adds : (rewritten duo Closing 1 on_end).adds ≡ 1 ∷ 2 ∷ []
closing_adds = refl

closing_deletes : (rewritten duo Closing 1 on_end).dels ≡ 3 ∷ []
closing_deletes = refl

start_reads_its_lock : (rewritten duo Settled 2 hold_start).reads ≡ 3 ∷ []
start_reads_its_lock = refl

start_is_locked_out : (rewritten duo Settled 2 hold_start).cond (state_of_row (true ∷ false ∷ false ∷ true ∷ [])) ≡ false
start_is_locked_out = refl

inside : expanded duo.shadow (other_ends duo 2) (Negation (Atomic 1)) ≡ Conjunction (More (Negation (Atomic 1)) (More (Disjunction (More (Negation (Atomic 3)) (More (Negation (Atomic 2)) NoMore))) NoMore))
inside = refl

-- ---- an end that adds f and deletes g, from 2 to 6, while another step wants something inside from 1 to 7

abbrev swap_end : PlainEvent
swap_end = record { cond = λ s. true; reads = []; adds = 1 ∷ []; dels = 0 ∷ [] }

abbrev nothing : PlainEvent
nothing = record { cond = λ s. true; reads = []; adds = []; dels = [] }

abbrev steps : Formula → List PlainBoxStep
steps f =
    record { start = 0; low = 2; high = 6; uncertain = true; key = 1; first = nothing; last = Some swap_end; over = λ s. true }
    ∷ record { start = 1; low = 7; high = 7; uncertain = false; key = 2; first = nothing; last = None; over = λ s. holds_in s f }
    ∷ []

abbrev box : Formula → PlainBox
box f = record { owners = owners_of (steps f) []; initial = state_of_row (true ∷ false ∷ []); goal = λ s. s 1 }

abbrev swap : Formula → Rewriting
swap f = rewriting_of 2 (record { ending = Some swap_end; over = Always } ∷ record { ending = None; over = f } ∷ []) (true ∷ false ∷ [])

abbrev either : Formula
either = Disjunction (More (Atomic 0) (More (Atomic 1) NoMore))

valid_either_way : faults_of (dated_run (swap either) (box either)) ≡ []
valid_either_way = refl

sound_either_way : is_sound (windows_of (box either)) ≡ true
sound_either_way = refl

not_valid_after : (length (faults_of (dated_run (swap (Atomic 0)) (box (Atomic 0)))) == 0) ≡ false
not_valid_after = refl

not_sound_after : is_sound (windows_of (box (Atomic 0))) ≡ false
not_sound_after = refl
