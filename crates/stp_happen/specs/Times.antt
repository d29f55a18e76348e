-- What entries are sorted by.
use Rattle.std.specs.Prelude.{ℕ}
use Rattle.std.specs.Ordering.{nat_cmp, ordering_then}
use Rattle.std.specs.declared.cmp.Ordering.{Ordering}
use Rattle.stp_happen.specs.declared.run.Entry.{Entry}

abbrev pub time_and_step : Entry → ℕ × ℕ
time_and_step e = (e.time, e.step.0)

abbrev pub by_time_and_step : ℕ × ℕ → ℕ × ℕ → Ordering
by_time_and_step a b = ordering_then (nat_cmp a.0 b.0) (nat_cmp a.1 b.1)
