-- The forms of whole files.
use Rattle.std.specs.Prelude.{ℕ, ◌&&◌, List, Option, bytes_eq, codes}
use Rattle.stp_base.specs.Options.{◌>>=◌}
use Rattle.stp_text.specs.Tree.{Tree, Trees}
use Rattle.stp_text.specs.Items.{when, word_of, first_of, only, keyed}
use Rattle.stp_text.specs.Names.{is_name}

-- the name in `(KIND NAME)`
abbrev pub name_behind : List ℕ → Tree → Option (List ℕ)
name_behind kind tree = do
  title ← keyed tree
  item ← only title.1
  name ← word_of item
  when (bytes_eq title.0 kind && is_name name) name

-- the name and the sections of `(define (KIND NAME) SECTION*)`
abbrev pub definition : List ℕ → Tree → Option (List ℕ × Trees)
definition kind tree = do
  file ← keyed tree
  title ← first_of file.1
  name ← name_behind kind title.0
  when (bytes_eq file.0 (codes "define")) (name, title.1)
