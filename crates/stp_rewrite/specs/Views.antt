-- Rewritten problems without pointers.
use Rattle.std.specs.Prelude.{ℕ, ◌+◌, Bool, if◌then◌else◌, List, map, Option, Some, None, option_map}
use Rattle.stp_base.specs.declared.ids.AtomId.{AtomId}
use Rattle.stp_cond.specs.Formulas.{view}
use Rattle.stp_task.specs.Actions.{happening_of}
use Rattle.stp_task.specs.Durations.{plain_duration}
use Rattle.stp_task.specs.Tasks.{timed_event_of}
use Rattle.stp_rewrite.specs.declared.problem.Point.{Point}
use Rattle.stp_rewrite.specs.declared.problem.RewrittenAction.{RewrittenAction}
use Rattle.stp_rewrite.specs.declared.problem.Rewritten.{Rewritten}
use Rattle.stp_rewrite.specs.RewrittenTasks.{PlainPoint, PlainRewritten, PlainRewrittenAction}

-- the numbers of atoms, where there are some
abbrev pub numbers_of : List (Option AtomId) → List (Option ℕ)
numbers_of row = map (option_map (λ a. a.0)) row

-- the next number, if there is one, and the number after it
abbrev pub number_of : Bool → ℕ → Option ℕ
number_of has_one next = if has_one then Some next else None

abbrev pub after_number : Bool → ℕ → ℕ
after_number has_one next = if has_one then next + 1 else next

abbrev pub point_of : Point → PlainPoint
point_of p = record { kind = p.kind; event = happening_of p.event }

abbrev pub rewritten_action_of : RewrittenAction → PlainRewrittenAction
rewritten_action_of a = record { duration = plain_duration a.duration; points = map point_of a.points.now; over = view a.over.now }

abbrev pub plain_rewritten : Rewritten → PlainRewritten
plain_rewritten r = record {
  plain = r.plain;
  shadow_of = numbers_of r.shadow_of;
  opened = numbers_of r.opened;
  initial = r.initial;
  actions = map rewritten_action_of r.actions;
  timed = map timed_event_of r.timed;
  goal = view r.goal.now;
  grid = r.grid;
}
