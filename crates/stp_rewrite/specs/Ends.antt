-- The ends of uncertain actions, and rows of shadows.
use Rattle.std.specs.Prelude.{ℕ, Bool, ◌==◌, not, ◌&&◌, List, [], ◌∷◌, map, slice_get, Option, Some, None}
use Rattle.std.specs.List.{filter_map}
use Rattle.stp_base.specs.declared.ids.AtomId.{AtomId}
use Rattle.stp_cond.specs.Atoms.{PlainEvent, interfere}
use Rattle.stp_cond.specs.Events.{event_of}
use Rattle.stp_expand.specs.Footprints.{PlainFootprint}
use Rattle.stp_expand.specs.Views.{footprint_of}
use Rattle.stp_task.specs.Actions.{PlainHappening, event_in}
use Rattle.stp_rewriting.specs.Rewritten.{Rewriting, Ending, footprint_of_end}
use Rattle.stp_rewrite.specs.declared.end.End.{End}

-- the end of an uncertain action, the atom that says that the action is opened, and what the end writes
pub record PlainEnd : Type 0 where
  pub key : ℕ
  pub event : PlainEvent
  pub opened : ℕ
  pub footprint : PlainFootprint

abbrev pub end_view : End → PlainEnd
end_view e = record { key = e.action.0; event = event_of e.event; opened = e.opened.0; footprint = footprint_of e.footprint }

abbrev pub end_views : List End → List PlainEnd
end_views ends = map end_view ends

abbrev pub end_with : ℕ → PlainEvent → ℕ → PlainEnd
end_with key e opened = record { key = key; event = e; opened = opened; footprint = record { adds = e.adds; dels = e.dels; opened = opened ∷ [] } }

-- the end of an action that has one, where the action has an opened atom
abbrev pub ends_with : ℕ → Option PlainHappening → Option ℕ → List PlainEnd
ends_with key None opened = []
ends_with key (Some e) None = []
ends_with key (Some e) (Some opened) = end_with key (event_in e) opened ∷ []

abbrev pub end_by : Rewriting → Ending → PlainEnd
end_by r o = record { key = o.key; event = o.event; opened = r.opened o.key; footprint = footprint_of_end r o }

-- the ends of all uncertain actions
abbrev pub ends_by : Rewriting → List PlainEnd
ends_by r = map (end_by r) r.endings

-- whether an event of an action is locked by the end of another
abbrev pub is_lock : ℕ → PlainEvent → PlainEnd → Bool
is_lock key e o = not (o.key == key) && interfere e o.event

abbrev pub is_other : ℕ → PlainEnd → Bool
is_other key o = not (o.key == key)

abbrev pub number_or_none : Option (Option AtomId) → Option ℕ
number_or_none None = None
number_or_none (Some None) = None
number_or_none (Some (Some atom)) = Some atom.0

-- the shadow of an atom by its place in a row
abbrev pub shadow_by : List (Option AtomId) → ℕ → Option ℕ
shadow_by row atom = number_or_none (slice_get row atom)

-- the shadows of these atoms, of those that have one
abbrev pub shadows_by : List (Option AtomId) → List ℕ → List ℕ
shadows_by row atoms = filter_map (shadow_by row) atoms
