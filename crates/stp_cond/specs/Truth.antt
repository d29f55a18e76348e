-- What a formula means in a state. A state says of each atom whether it is true.
use Rattle.std.specs.Prelude.{ℕ, Bool, true, false, not, ◌&&◌, ◌||◌, nat_lt, List, [], ◌∷◌, slice_index_or}
use Rattle.stp_cond.specs.declared.cond.Cond.{Cond}
use Rattle.stp_cond.specs.declared.cond.Cond.TheOpen.{Cond-F}
use Rattle.stp_cond.specs.declared.cond.Cond.TheFolds.{fold-Cond}

abbrev pub all_of : List Bool → Bool
all_of [] = true
all_of (b ∷ bs) = b && all_of bs

abbrev pub any_of : List Bool → Bool
any_of [] = false
any_of (b ∷ bs) = b || any_of bs

abbrev pub truth_step : (ℕ → Bool) → Cond-F Bool → Bool
truth_step state Cond-F.True = true
truth_step state Cond-F.False = false
truth_step state (Cond-F.Atom atom) = state atom.0
truth_step state (Cond-F.Not part) = not part.now
truth_step state (Cond-F.And parts) = all_of parts.now
truth_step state (Cond-F.Or parts) = any_of parts.now

-- the usual truth of a formula in a state
abbrev pub truth : (ℕ → Bool) → Cond → Bool
truth state = fold-Cond Bool (truth_step state)

-- what a formula says of a state
abbrev pub meaning_of : Cond → (ℕ → Bool) → Bool
meaning_of cond state = truth state cond

-- of a row of values by atom number; an atom past its end is false
abbrev pub state_of_row : List Bool → ℕ → Bool
state_of_row row atom = slice_index_or row atom false

abbrev pub reads_step : (ℕ → Bool) → Cond-F Bool → Bool
reads_step these Cond-F.True = true
reads_step these Cond-F.False = true
reads_step these (Cond-F.Atom atom) = these atom.0
reads_step these (Cond-F.Not part) = part.now
reads_step these (Cond-F.And parts) = all_of parts.now
reads_step these (Cond-F.Or parts) = all_of parts.now

-- whether each atom of a formula is one of these
abbrev pub reads_only : (ℕ → Bool) → Cond → Bool
reads_only these = fold-Cond Bool (reads_step these)

-- whether each atom of a formula is below a number
abbrev pub is_below : ℕ → Cond → Bool
is_below n = reads_only (λ a. nat_lt a n)
