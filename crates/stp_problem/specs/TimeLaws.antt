-- What the times of timed literals are.
use Rattle.std.specs.Prelude.{◌≡◌, Bool, true, ◌&&◌, List, [], All}
use Rattle.std.specs.List.{list_any}
use Rattle.std.specs.Ordering.{is_eq}
use Rattle.stp_frac.specs.Fractions.{Fraction, order_of}
use Rattle.stp_problem.specs.TimedItems.{PlainTimedItem}
use Rattle.stp_problem.specs.Events.{has_time, times_read}

-- whether two fractions are one time
abbrev pub is_same_time : Fraction → Fraction → Bool
is_same_time f g = is_eq (order_of f g)

-- Without an offence the times are those of the items whose literals come at one time, and of no others.
pub record TimesAreThoseOfItems : Type 0 where
  pub complete : (items : List PlainTimedItem) → (times_read items).offences ≡ [] → All (λ i. has_time i ≡ true → list_any (is_same_time i.low) (times_read items).value ≡ true) items
  pub sound : (items : List PlainTimedItem) → All (λ t. list_any (λ i. has_time i && is_same_time i.low t) items ≡ true) (times_read items).value
