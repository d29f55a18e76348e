-- What becomes of events and of over-all conditions where a problem is rewritten: the end of an uncertain action is
-- opened at its least end and closed at its greatest, and in between what it writes may be there or not.
use Rattle.std.specs.Prelude.{ℕ, Bool, true, ◌==◌, not, ◌&&◌, ◌||◌, List, [], ◌∷◌, ◌++◌, map, filter}
use Rattle.std.specs.List.{list_any, list_all}
use Rattle.stp_cond.specs.Atoms.{PlainEvent, has, interfere, set_of}
use Rattle.stp_cond.specs.Formulas.{Formula, holds_in}
use Rattle.stp_expand.specs.Footprints.{PlainFootprint}
use Rattle.stp_expand.specs.Expanded.{expanded}

-- the end of an uncertain action: which action it is of, and what happens then
pub record Ending : Type 0 where
  pub key : ℕ
  pub event : PlainEvent

-- What a problem is rewritten by: how many atoms it has, the shadow of each, the atom that says that an action is
-- opened, the ends of the uncertain actions, the over-all condition of each action, and the first state.
pub record Rewriting : Type 0 where
  pub plain : ℕ
  pub shadow : ℕ → ℕ
  pub opened : ℕ → ℕ
  pub endings : List Ending
  pub over : ℕ → Formula
  pub initial : List Bool

-- an atom has a shadow where the end of an uncertain action writes it
abbrev pub is_shadowed : Rewriting → ℕ → Bool
is_shadowed r a = list_any (λ o. has o.event.adds a || has o.event.dels a) r.endings

-- the shadows of those of these atoms that have one
abbrev pub shadows : Rewriting → List ℕ → List ℕ
shadows r atoms = map r.shadow (filter (is_shadowed r) atoms)

-- ---- locks

-- the ends of other uncertain actions that interfere with an event of an action
abbrev pub locks : Rewriting → ℕ → PlainEvent → List Ending
locks r key e = filter (λ o. not (o.key == key) && interfere e o.event) r.endings

-- none of these actions is opened
abbrev pub is_free : Rewriting → ℕ → PlainEvent → (ℕ → Bool) → Bool
is_free r key e state = list_all (λ o. not (state (r.opened o.key))) (locks r key e)

-- what an event reads, with the opened atoms of its locks
abbrev pub reads_locked : Rewriting → ℕ → PlainEvent → List ℕ
reads_locked r key e = set_of (e.reads ++ map (λ o. r.opened o.key) (locks r key e))

-- ---- events

-- an event that comes at one moment, and the opening and the closing of the end of an uncertain action
pub data Kind : Type 0 where
  Settled : Kind
  Opening : Kind
  Closing : Kind

-- what is needed: what the event needs and that its locks are free, and for a closing nothing
abbrev pub cond_of : Rewriting → Kind → ℕ → PlainEvent → (ℕ → Bool) → Bool
cond_of r Settled key e state = e.cond state && is_free r key e state
cond_of r Opening key e state = e.cond state && is_free r key e state
cond_of r Closing key e state = true

abbrev pub reads_of : Rewriting → Kind → ℕ → PlainEvent → List ℕ
reads_of r Settled key e = reads_locked r key e
reads_of r Opening key e = reads_locked r key e
reads_of r Closing key e = []

-- a settled event and a closing write the atoms and their shadows, and an opening the shadows alone
abbrev pub adds_of : Rewriting → Kind → ℕ → PlainEvent → List ℕ
adds_of r Settled key e = set_of (e.adds ++ shadows r e.adds)
adds_of r Opening key e = set_of (shadows r e.adds ++ r.opened key ∷ [])
adds_of r Closing key e = set_of (e.adds ++ shadows r e.adds)

abbrev pub dels_of : Rewriting → Kind → ℕ → PlainEvent → List ℕ
dels_of r Settled key e = set_of (e.dels ++ shadows r e.dels)
dels_of r Opening key e = set_of (shadows r e.dels)
dels_of r Closing key e = set_of ((e.dels ++ shadows r e.dels) ++ r.opened key ∷ [])

-- what becomes of an event of an action
abbrev pub rewritten : Rewriting → Kind → ℕ → PlainEvent → PlainEvent
rewritten r kind key e = record { cond = cond_of r kind key e; reads = reads_of r kind key e; adds = adds_of r kind key e; dels = dels_of r kind key e }

-- ---- over-all conditions

abbrev pub footprint_of_end : Rewriting → Ending → PlainFootprint
footprint_of_end r o = record { adds = o.event.adds; dels = o.event.dels; opened = r.opened o.key ∷ [] }

-- the ends of the uncertain actions other than this one
abbrev pub other_ends : Rewriting → ℕ → List PlainFootprint
other_ends r key = map (footprint_of_end r) (filter (λ o. not (o.key == key)) r.endings)

-- what has to hold inside an action, expanded over the ends of the others
abbrev pub over_of : Rewriting → ℕ → (ℕ → Bool) → Bool
over_of r key state = holds_in state (expanded r.shadow (other_ends r key) (r.over key))
