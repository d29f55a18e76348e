-- Files by name.
use Rattle.std.specs.Prelude.{ℕ, cond, List, [], ◌∷◌, Option, Some, None, bytes_eq}
use Rattle.stp_io.specs.declared.named.NamedFile.{NamedFile}

-- The bytes of the first file of a name.
abbrev pub file_of : List NamedFile → List ℕ → Option (List ℕ)
file_of [] name = None
file_of (f ∷ fs) name = cond (bytes_eq f.name name) (Some f.bytes) (file_of fs name)

-- The same for each name, but for this one.
abbrev pub put_at : {A : Type 0} → List ℕ → A → (List ℕ → A) → List ℕ → A
put_at name value of_name n = cond (bytes_eq name n) value (of_name n)
