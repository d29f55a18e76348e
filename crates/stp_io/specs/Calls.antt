-- Calls that are numbered, some of which are to fail.
use Rattle.std.specs.Prelude.{ℕ, ◌+◌, min, Bool, [], ◌∷◌, ◌++◌, nat_le, ◌==◌}
use Rattle.std.specs.List.{list_any}
use Rattle.stp_io.specs.declared.calls.Calls.{Calls}

-- One more, in a counter that stands still at its last value.
abbrev pub one_more : ℕ → ℕ
one_more n = min (n + 1) 18446744073709551615

-- No call was made, and none is to fail.
abbrev pub no_calls : Calls
no_calls = record { failing = []; next = 1; faults = 0 }

-- One more number of a call that is to fail.
abbrev pub with_failing : ℕ → Calls → Calls
with_failing number c = record c { failing = c.failing ++ number ∷ [] }

-- The next call is to fail.
abbrev pub fails_now : Calls → Bool
fails_now c = list_any (λ number. number == c.next) c.failing

-- The next call or a later one is to fail.
abbrev pub fails_later : Calls → Bool
fails_later c = list_any (λ number. nat_le c.next number) c.failing

-- A call was made.
abbrev pub after_call : Calls → Calls
after_call c = record c { next = one_more c.next }

-- A call failed.
abbrev pub after_fault : Calls → Calls
after_fault c = record c { faults = one_more c.faults }
