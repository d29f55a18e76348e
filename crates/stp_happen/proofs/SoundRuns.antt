-- What each run keeps.
use Rattle.std.proofs.Common.{◌≡◌, ℕ, ◌<◌, ◌≤◌, true, List, [], ◌∷◌, length, get_or, All, refl, zero, suc, arith}
use Rattle.std.proofs.Math.Logic.{∥∥₁_elim}
use Rattle.std.proofs.Props.{props}
use Rattle.std.specs.List.{list_all}
use Rattle.std.specs.List.Sorted.{IsNonDecreasingBy}
use Rattle.std.proofs.lemmas.Bool.{and_parts}
use Rattle.std.proofs.lemmas.Bool.Decides.{nat_tests}
use Rattle.std.proofs.lemmas.List.Recursion.{and_at}
use Rattle.stp_cond.specs.Events.{IsEventInRange}
use Rattle.stp_cond.specs.Truth.{is_below}
use Rattle.stp_happen.specs.declared.run.Entry.{Entry}
use Rattle.stp_happen.specs.declared.run.Run.{Run}
use Rattle.stp_happen.specs.Sound.{is_ascending, entry_before}

not_after : (e o : Entry) → entry_before e o ≡ true → e.time ≤ o.time
not_after e o h = grind (arith, nat_tests)

-- entries by time and then by step are by time
pub times_rise : (entries : List Entry) → is_ascending entry_before entries ≡ true → (i j : ℕ) (d : Entry) → i ≤ j → j < length entries → (get_or entries i d).time ≤ (get_or entries j d).time
times_rise [] up i j d order inside = absurd (omega arith)
times_rise (x ∷ xs) up zero zero d order inside = omega arith
times_rise (x ∷ xs) up zero (suc j) d order inside = not_after x (get_or xs j d) (and_at (list_all (entry_before x)) (entry_before x) refl (λ _ _. refl) xs j d (omega arith) (and_parts (list_all (entry_before x) xs) (is_ascending entry_before xs) up).0)
times_rise (x ∷ xs) up (suc i) zero d order inside = absurd (omega arith)
times_rise (x ∷ xs) up (suc i) (suc j) d order inside = times_rise xs (and_parts (list_all (entry_before x) xs) (is_ascending entry_before xs) up).1 i j d (omega arith) (omega arith)

pub times_ordered : (run : Run) → IsNonDecreasingBy (λ e. e.time) run.entries
times_ordered run = ∥∥₁_elim run.sound (Prim.hlevel props) (λ s. times_rise run.entries s.entries_ordered)

pub events_in_range : (run : Run) → All (λ e. IsEventInRange (length run.initial) e.event) run.entries
events_in_range run = ∥∥₁_elim run.sound (Prim.hlevel props) (λ s k d h. (s.entries_in_range k d h).event)

pub over_in_range : (run : Run) → All (λ s. is_below (length run.initial) s.over.now ≡ true) run.spans
over_in_range run = ∥∥₁_elim run.sound (Prim.hlevel props) (λ s k d h. (s.spans_in_range k d h).over)

pub goal_in_range : (run : Run) → is_below (length run.initial) run.goal.now ≡ true
goal_in_range run = ∥∥₁_elim run.sound (Prim.hlevel props) (λ s. s.goal_in_range)
