-- What a store of which no read fails is.
use Rattle.std.specs.Prelude.{ℕ, List, [], unwrap_or}
use Rattle.stp_io.specs.Named.{file_of}
use Rattle.stp_io.specs.declared.named.NamedFile.{NamedFile}

-- What a steady store keeps: its files.
pub record SteadyState : Type 0 where
  pub files : List NamedFile

-- The bytes of a name, none where no file was put.
abbrev pub content_of : SteadyState → List ℕ → List ℕ
content_of s name = unwrap_or (file_of s.files name) []
