-- The ground action of what is chosen, and what an event of the environment does, over a table of numbered atoms.
use Rattle.std.specs.Prelude.{ℕ, Bool, true, false, List, [], ◌++◌, if◌then◌else◌, Some, None, Result, Ok}
use Rattle.stp_schema.specs.Timed.{PlainTimedFact}
use Rattle.stp_schema.specs.Views.{PlainProblem}
use Rattle.stp_tables.specs.Atoms.{Atom}
use Rattle.stp_cond.specs.Atoms.{set_of}
use Rattle.stp_cond.specs.Formulas.{Formula, Always}
use Rattle.stp_task.specs.Actions.{PlainAction, PlainHappening}
use Rattle.stp_task.specs.Durations.{lasts}
use Rattle.stp_instance.specs.Expanded.{Claim}
use Rattle.stp_instance.specs.Numbered.{fluent_atoms, folded_ground, numbers_in, with_atoms}
use Rattle.stp_instance.specs.Effects.{added, deleted}
use Rattle.stp_ground.specs.Problems.{is_fact, is_written, atoms_of_kind}
use Rattle.stp_ground.specs.declared.fault.InstanceFault.{InstanceFault}
use Rattle.stp_base.specs.Results.{◌>>=◌}
use Rattle.stp_ground.specs.Chosen.{PlainChosen, chosen_by}

-- the fluent atoms of what is chosen, in the order in which they are numbered; an atom that an effect names is fluent
abbrev pub atoms_in_order : (ℕ → Bool) → PlainChosen → List Atom
atoms_in_order fluent c = fluent_atoms fluent c.start_cond ++ fluent_atoms fluent c.over_all ++ fluent_atoms fluent c.end_cond ++ c.start_adds ++ c.start_dels ++ c.end_adds ++ c.end_dels

abbrev pub atoms_of_chosen : PlainProblem → PlainChosen → List Atom
atoms_of_chosen p = atoms_in_order (is_written p)

-- what is left of a condition once what is static is known
abbrev pub left_of : PlainProblem → List Atom → Claim → Formula
left_of p table claim = folded_ground (is_written p) (is_fact p) table claim

-- an event that needs a condition, of which it reads all fluent atoms, those too that folding drops
abbrev pub happening : PlainProblem → List Atom → Claim → List Atom → List Atom → PlainHappening
happening p table claim adding deleting = record {
  cond = left_of p table claim;
  reads = set_of (numbers_in table (fluent_atoms (is_written p) claim));
  adds = added table adding;
  dels = deleted table adding deleting;
}

-- the action: what takes no time has neither a finish nor a condition over all
abbrev pub action_by : PlainProblem → List Atom → PlainChosen → PlainAction
action_by p table c = record {
  schema = c.schema;
  args = c.args;
  duration = c.duration;
  start = happening p table c.start_cond c.start_adds c.start_dels;
  finish = if lasts c.duration then Some (happening p table c.end_cond c.end_adds c.end_dels) else None;
  over = if lasts c.duration then left_of p table c.over_all else Always;
}

-- the table and the action in the end, or why there is none
abbrev pub instance_by : PlainProblem → List ℕ → List (List ℕ) → List Atom → Result (List Atom × PlainAction) InstanceFault
instance_by p name names table = do
  c ← chosen_by p name names
  Ok (with_atoms table (atoms_of_chosen p c), action_by p (with_atoms table (atoms_of_chosen p c)) c)

-- what an event of the environment does: it needs nothing and reads nothing, and an atom that it both adds and deletes
-- it adds
abbrev pub event_by : List Atom → PlainTimedFact → PlainHappening
event_by table e = record {
  cond = Always;
  reads = [];
  adds = added table (atoms_of_kind true e.literals);
  dels = deleted table (atoms_of_kind true e.literals) (atoms_of_kind false e.literals);
}
