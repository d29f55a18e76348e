-- Events of the rewritten problem with their conditions as formulas.
use Rattle.std.specs.Prelude.{ℕ, List, [], ◌∷◌, map}
use Rattle.stp_cond.specs.Atoms.{PlainEvent, set_of}
use Rattle.stp_cond.specs.Formulas.{Formula, Always, Conjunction, formulas_of}
use Rattle.stp_expand.specs.Expanded.{not_opened}
use Rattle.stp_task.specs.Actions.{PlainHappening, event_in}
use Rattle.stp_rewriting.specs.Rewritten.{Rewriting, Kind, Settled, Opening, Closing, locks, reads_of, adds_of, dels_of}

-- the opened atoms of the uncertain actions that an event is locked by, in the order of the actions
abbrev pub lock_atoms : Rewriting → ℕ → PlainEvent → List ℕ
lock_atoms r key e = map (λ o. r.opened o.key) (locks r key e)

-- a formula, and that none of some actions is opened; the formula alone where there are none
abbrev pub guarded : Formula → List ℕ → Formula
guarded f [] = f
guarded f (o ∷ os) = Conjunction (formulas_of (f ∷ map not_opened (o ∷ os)))

-- the event that needs a formula, and reads, adds and deletes some atoms, each once
abbrev pub made_of : Formula → List ℕ → List ℕ → List ℕ → PlainHappening
made_of f reads adds dels = record { cond = f; reads = set_of reads; adds = set_of adds; dels = set_of dels }

abbrev pub condition : Rewriting → Kind → ℕ → PlainHappening → Formula
condition r Settled key h = guarded h.cond (lock_atoms r key (event_in h))
condition r Opening key h = guarded h.cond (lock_atoms r key (event_in h))
condition r Closing key h = Always

-- what becomes of an event of an action
abbrev pub happening : Rewriting → Kind → ℕ → PlainHappening → PlainHappening
happening r kind key h = record { cond = condition r kind key h; reads = reads_of r kind key (event_in h); adds = adds_of r kind key (event_in h); dels = dels_of r kind key (event_in h) }
