-- What footprints in an arena and rows of shadows stand for.
use Rattle.std.specs.Prelude.{ℕ, List, map, Option, Some, None, slice_get}
use Rattle.stp_base.specs.declared.ids.AtomId.{AtomId}
use Rattle.stp_cond.specs.Views.{atoms_of}
use Rattle.stp_expand.specs.declared.footprint.Footprint.{Footprint}
use Rattle.stp_expand.specs.Footprints.{PlainFootprint}

abbrev pub footprint_of : Footprint → PlainFootprint
footprint_of p = record { adds = atoms_of p.adds.now; dels = atoms_of p.dels.now; opened = atoms_of p.opened.now }

abbrev pub footprints_of : List Footprint → List PlainFootprint
footprints_of ps = map footprint_of ps

abbrev pub shadow_or : Option (Option AtomId) → ℕ → ℕ
shadow_or None atom = atom
shadow_or (Some None) atom = atom
shadow_or (Some (Some shadow)) atom = shadow.0

-- the shadow of an atom by its number; an atom without one stays
abbrev pub shadow_in : List (Option AtomId) → ℕ → ℕ
shadow_in row atom = shadow_or (slice_get row atom) atom
