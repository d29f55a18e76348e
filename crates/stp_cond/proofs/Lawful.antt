-- What each event keeps.
use Rattle.std.proofs.Common.{◌≡◌, true, false}
use Rattle.std.proofs.Math.Logic.{∥∥₁_elim}
use Rattle.std.proofs.Props.{props}
use Rattle.stp_cond.specs.declared.event.Event.{Event}
use Rattle.stp_cond.specs.Atoms.{has, have_common, set_of}
use Rattle.stp_cond.specs.Truth.{reads_only}
use Rattle.stp_cond.specs.Views.{atoms_of}

pub reads_once : (e : Event) → set_of (atoms_of e.reads.now) ≡ atoms_of e.reads.now
reads_once e = ∥∥₁_elim e.lawful (Prim.hlevel props) (λ l. l.reads_once)

pub adds_once : (e : Event) → set_of (atoms_of e.adds.now) ≡ atoms_of e.adds.now
adds_once e = ∥∥₁_elim e.lawful (Prim.hlevel props) (λ l. l.adds_once)

pub dels_once : (e : Event) → set_of (atoms_of e.dels.now) ≡ atoms_of e.dels.now
dels_once e = ∥∥₁_elim e.lawful (Prim.hlevel props) (λ l. l.dels_once)

pub apart : (e : Event) → have_common (atoms_of e.adds.now) (atoms_of e.dels.now) ≡ false
apart e = ∥∥₁_elim e.lawful (Prim.hlevel props) (λ l. l.apart)

pub reading : (e : Event) → reads_only (has (atoms_of e.reads.now)) e.cond.now ≡ true
reading e = ∥∥₁_elim e.lawful (Prim.hlevel props) (λ l. l.reading)
