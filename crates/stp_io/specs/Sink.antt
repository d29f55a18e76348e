-- What a sink in memory is.
use Rattle.std.specs.Prelude.{ℕ, List}
use Rattle.stp_io.specs.declared.calls.Calls.{Calls}

-- What a sink in memory keeps: what was written, how much it can hold, how much it takes in a call, and its calls.
pub record SinkState : Type 0 where
  pub written : List ℕ
  pub room : ℕ
  pub most : ℕ
  pub calls : Calls
