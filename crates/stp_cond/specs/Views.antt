-- What conditions and lists of atoms in an arena stand for, and what each event keeps.
use Rattle.std.specs.Prelude.{◌≡◌, ℕ, true, false, List, map}
use Rattle.stp_base.specs.declared.ids.AtomId.{AtomId}
use Rattle.stp_cond.specs.declared.cond.Cond.{Cond}
use Rattle.stp_cond.specs.Truth.{reads_only}
use Rattle.stp_cond.specs.Atoms.{has, have_common, set_of}

-- the numbers of atoms
abbrev pub atoms_of : List AtomId → List ℕ
atoms_of atoms = map (λ a. a.0) atoms

-- What each event keeps: its lists are ascending, each atom once; no atom is both added and deleted; and
-- each atom of its condition is read.
pub record IsEvent (cond : Cond) (reads adds dels : List AtomId) : Type 0 where
  pub reads_once : set_of (atoms_of reads) ≡ atoms_of reads
  pub adds_once : set_of (atoms_of adds) ≡ atoms_of adds
  pub dels_once : set_of (atoms_of dels) ≡ atoms_of dels
  pub apart : have_common (atoms_of adds) (atoms_of dels) ≡ false
  pub reading : reads_only (has (atoms_of reads)) cond ≡ true
