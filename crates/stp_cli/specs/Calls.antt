-- Calls of a store and a sink, as the call of the program began and as it ended.
use Rattle.std.specs.Prelude.{ℕ, Bool, true, List, Option, Some, None}
use Rattle.stp_io.specs.Steady.{SteadyState, content_of}

-- the bytes of the file of a name, or nothing where there is no such file
abbrev pub Files : Type 0
Files = List ℕ → Option (List ℕ)

pub record StoreCall : Type 0 where
  -- the files that the store tells, and the names that are steady, as the call began
  pub told : Option Files
  pub steady : List ℕ → Bool
  -- the count of faults, before and after
  pub faults : ℕ
  pub faults_after : ℕ

pub record SinkCall : Type 0 where
  -- what was written, where the sink tells it, before and after
  pub written : Option (List ℕ)
  pub written_after : Option (List ℕ)
  -- the count of faults, before and after
  pub faults : ℕ
  pub faults_after : ℕ

-- by what a store of this kind says of itself before and after
abbrev pub store_call : {S : Type 0} → (S → Option Files) → (S → List ℕ → Bool) → (S → ℕ) → S → S → StoreCall
store_call files steady faults before after = record {
  told = files before;
  steady = steady before;
  faults = faults before;
  faults_after = faults after;
}

-- by what a sink of this kind says of itself before and after
abbrev pub sink_call : {K : Type 0} → (K → Option (List ℕ)) → (K → ℕ) → K → K → SinkCall
sink_call written faults before after = record {
  written = written before;
  written_after = written after;
  faults = faults before;
  faults_after = faults after;
}

-- a store of which no read fails
abbrev pub steady_call : SteadyState → StoreCall
steady_call store = record {
  told = Some (λ name. Some (content_of store name));
  steady = λ name. true;
  faults = 0;
  faults_after = 0;
}

-- a sink of which no write fails, and which tells nothing
abbrev pub silent_call : SinkCall
silent_call = record { written = None; written_after = None; faults = 0; faults_after = 0 }
