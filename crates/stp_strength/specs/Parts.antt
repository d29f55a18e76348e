-- The state at a moment by parts: what is certain, and what the unsettled ends that have come make of it.
use Rattle.std.specs.Prelude.{◌≡◌, ℕ, Bool, true, ◌&&◌, if◌then◌else◌}
use Rattle.std.specs.List.{list_any}
use Rattle.stp_cond.specs.Atoms.{has}
use Rattle.stp_window.specs.Windows.{Point, WindowBox, IsProper, is_unsettled}
use Rattle.stp_window.specs.States.{certain, state_at}
use Rattle.stp_window.specs.Certain.{sets, NoneClash}
use Rattle.stp_strength.specs.Failures.{all_calm}

-- where points whose windows meet do not interfere, no two opposite writers of any atom have windows that meet
abbrev pub CalmBoxesDoNotClash : Type 0
CalmBoxesDoNotClash = (b : WindowBox) → IsProper b → all_calm b ≡ true → (a : ℕ) → NoneClash b a

-- the way of a chosen unsettled point that writes the atom, and else what is certain
abbrev pub by_parts : WindowBox → ℕ → (Point → Bool) → ℕ → Bool
by_parts b t chosen a =
    if list_any (λ p. (chosen p && is_unsettled t p) && sets p a) b.points
    then list_any (λ p. (chosen p && is_unsettled t p) && has p.event.adds a) b.points
    else certain b t a

abbrev pub StatesGoByParts : Type 0
StatesGoByParts = (b : WindowBox) → IsProper b → (a : ℕ) → NoneClash b a → (t : ℕ) (chosen : Point → Bool) → state_at b t chosen a ≡ by_parts b t chosen a
