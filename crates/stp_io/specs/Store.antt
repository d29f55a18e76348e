-- What a read of a file gives, and what a store in memory is.
use Rattle.std.specs.Prelude.{◌≡◌, ◌⊎◌, ◌-◌, ◌<◌, ◌≤◌, ℕ, Bool, List, length, take, drop, Option, Some, is_some, not, ◌&&◌}
use Rattle.stp_base.specs.declared.limits.TheConstants.{MAX_FILE_BYTES}
use Rattle.stp_io.specs.Calls.{fails_later}
use Rattle.stp_io.specs.Named.{file_of}
use Rattle.stp_io.specs.declared.calls.Calls.{Calls}
use Rattle.stp_io.specs.declared.named.NamedFile.{NamedFile}

-- A count is greater than before, or stands at the last value of a counter.
abbrev pub HasRisen : ℕ → ℕ → Type 0
HasRisen old new = (old < new) ⊎ (new ≡ 18446744073709551615)

-- A buffer begins with the next n bytes of a file from an offset, of which there is at least one where any byte remains.
pub record Reads (bytes : List ℕ) (offset n : ℕ) (buffer : List ℕ) : Type 0 where
  pub next : take n buffer ≡ take n (drop offset bytes)
  pub inside : n ≤ length bytes - offset
  pub some : offset < length bytes → 0 < n

-- The file is there, and the next n bytes of it were read.
abbrev pub IsRead : Option (List ℕ) → ℕ → ℕ → List ℕ → Type 0
IsRead file offset n buffer = (bytes : List ℕ) × (file ≡ Some bytes) × Reads bytes offset n buffer

-- The file is there, and is longer than a file may be.
abbrev pub IsTooLong : Option (List ℕ) → Type 0
IsTooLong file = (bytes : List ℕ) × (file ≡ Some bytes) × (MAX_FILE_BYTES < length bytes)

-- What a store in memory keeps: its files, and its calls.
pub record StoreState : Type 0 where
  pub files : List NamedFile
  pub calls : Calls

-- The name is there, and no call that is to fail is still to come.
abbrev pub is_steady : StoreState → List ℕ → Bool
is_steady s name = is_some (file_of s.files name) && not (fails_later s.calls)
