-- Names, and names with their arguments.
use Rattle.std.specs.Prelude.{ℕ, if◌then◌else◌, List, [], ◌∷◌, map, Option, Some, None, option_map, option_and_then}
use Rattle.std.specs.Char.{to_ascii_lowercase}
use Rattle.stp_base.specs.Options.{◌>>=◌}
use Rattle.stp_text.specs.Names.{is_name}
use Rattle.stp_plan.specs.declared.atoms.Named.{Named}
use Rattle.stp_plan.specs.Parts.{Part, Open, Close, Run, parts}

-- the name that a word spells, folded
abbrev pub name_of : List ℕ → Option (List ℕ)
name_of word = let folded = map to_ascii_lowercase word in if is_name folded then Some folded else None

-- the names that words spell, where each is one
abbrev pub names_of : List (List ℕ) → Option (List (List ℕ))
names_of [] = Some []
names_of (word ∷ words) = do
  name ← name_of word
  names ← names_of words
  Some (name ∷ names)

-- a name and its arguments
abbrev pub named_by : List (List ℕ) → Option Named
named_by [] = None
named_by (word ∷ words) = do
  name ← name_of word
  args ← names_of words
  Some (record { name = name; args = args })

-- the runs that parts begin with, and what follows them
abbrev pub runs_of : List Part → List (List ℕ) × List Part
runs_of (Run word ∷ rest) = (word ∷ (runs_of rest).0, (runs_of rest).1)
runs_of rest = ([], rest)

-- words that a `)` follows, and what follows that
abbrev pub until_close : List (List ℕ) × List Part → Option (Named × List Part)
until_close (words, Close ∷ rest) = option_map (λ named. (named, rest)) (named_by words)
until_close (words, _) = None

-- the `(NAME NAME ..)` that parts begin with, and what follows it
abbrev pub atom_of : List Part → Option (Named × List Part)
atom_of (Open ∷ rest) = until_close (runs_of rest)
atom_of _ = None

-- the same, where nothing follows it
abbrev pub only_atom : Named × List Part → Option Named
only_atom (named, []) = Some named
only_atom (named, _) = None

-- the `(NAME NAME ..)` that a text is
unfoldable pub named_of : List ℕ → Option Named
named_of text = atom_of (parts text) >>= only_atom

-- ---- the names one by one

-- the names that parts begin with, and what follows them
abbrev pub names_from : List Part → Option (List (List ℕ) × List Part)
names_from ps = option_map (λ names. (names, (runs_of ps).1)) (names_of (runs_of ps).0)
