-- Which steps and events of the environment are unsettled at a moment.
use Rattle.std.specs.Prelude.{ℕ, List, map, filter}
use Rattle.stp_base.specs.declared.ids.StepId.{StepId}
use Rattle.stp_happen.specs.Boxes.{PlainOwner, PlainBox}
use Rattle.stp_window.specs.Windows.{is_unsettled}
use Rattle.stp_window.specs.OwnerWindows.{end_point}

abbrev pub numbers_of : List StepId → List ℕ
numbers_of steps = map (λ s. s.0) steps

-- of these owners, the numbers of those whose ends may have come by a moment or not
abbrev pub unsettled_among : List PlainOwner → ℕ → List ℕ
unsettled_among owners time = map (λ o. o.number) (filter (λ o. is_unsettled time (end_point o)) owners)

abbrev pub unsettled : PlainBox → ℕ → List ℕ
unsettled box time = unsettled_among box.owners time
