-- The rewritten problem of a task.
use Rattle.std.specs.Prelude.{ℕ, ◌+◌, Bool, if◌then◌else◌, List, [], ◌∷◌, map, length, Option, Some, None, option_map}
use Rattle.std.specs.List.{enumerate_from, range_with_len}
use Rattle.stp_cond.specs.Formulas.{Formula}
use Rattle.stp_expand.specs.Expanded.{expanded}
use Rattle.stp_task.specs.declared.point.PointKind.{PointKind}
use Rattle.stp_task.specs.declared.point.PointKind.TheVariants as kinds
use Rattle.stp_task.specs.Actions.{PlainAction, PlainHappening, event_in}
use Rattle.stp_task.specs.Durations.{PlainDuration, Instant, Controlled, Uncertain}
use Rattle.stp_task.specs.Tasks.{PlainTask, PlainTimedEvent}
use Rattle.stp_rewriting.specs.Rewritten.{Rewriting, Settled, Opening, Closing, is_shadowed, other_ends}
use Rattle.stp_rewriting.specs.Numbering.{PlainKept, rewriting_of, shadowed_among}
use Rattle.stp_rewrite.specs.Happenings.{happening}

-- ---- what a task is rewritten by

-- the end of an action, if its duration is uncertain
abbrev pub uncertain_end : PlainDuration → Option PlainHappening → Option PlainHappening
uncertain_end Instant e = None
uncertain_end (Controlled low high) e = None
uncertain_end (Uncertain low high) e = e

abbrev pub end_of : PlainAction → Option PlainHappening
end_of a = uncertain_end a.duration a.finish

abbrev pub kept_of : PlainAction → PlainKept
kept_of a = record { ending = option_map event_in (end_of a); over = a.over }

abbrev pub rewriting_in : PlainTask → Rewriting
rewriting_in t = rewriting_of (length t.atoms) (map kept_of t.actions) t.initial

-- the number after those of the atoms and their shadows
abbrev pub first_opened : PlainTask → ℕ
first_opened t = length t.atoms + length (shadowed_among (length t.atoms) (rewriting_in t).endings)

-- ---- actions

-- an event of an action, and what it is
pub record PlainPoint : Type 0 where
  pub kind : PointKind
  pub event : PlainHappening

abbrev pub point : PointKind → PlainHappening → PlainPoint
point kind event = record { kind = kind; event = event }

pub record PlainRewrittenAction : Type 0 where
  pub duration : PlainDuration
  pub points : List PlainPoint
  pub over : Formula

-- the one event of a simple action, or the start
abbrev pub first_kind : PlainDuration → PointKind
first_kind Instant = kinds.Moment
first_kind (Controlled low high) = kinds.Start
first_kind (Uncertain low high) = kinds.Start

abbrev pub finish_points : Rewriting → ℕ → PlainHappening → List PlainPoint
finish_points r key e = point kinds.Finish (happening r Settled key e) ∷ []

abbrev pub opened_points : Rewriting → ℕ → PlainHappening → List PlainPoint
opened_points r key e = point kinds.Opening (happening r Opening key e) ∷ point kinds.Closing (happening r Closing key e) ∷ []

-- the end of a controllable action stays one event; that of an uncertain one becomes its opening and its closing
abbrev pub end_points : Rewriting → ℕ → PlainDuration → PlainHappening → List PlainPoint
end_points r key Instant e = []
end_points r key (Controlled low high) e = finish_points r key e
end_points r key (Uncertain low high) e = opened_points r key e

abbrev pub last_points : Rewriting → ℕ → PlainDuration → Option PlainHappening → List PlainPoint
last_points r key duration None = []
last_points r key duration (Some e) = end_points r key duration e

abbrev pub points_of : Rewriting → ℕ → PlainAction → List PlainPoint
points_of r key a = point (first_kind a.duration) (happening r Settled key a.start) ∷ last_points r key a.duration a.finish

-- the over-all condition of an action, expanded over the ends of all other uncertain ones
abbrev pub over_of_action : Rewriting → ℕ → PlainAction → Formula
over_of_action r key a = expanded r.shadow (other_ends r key) a.over

abbrev pub rewritten_action : Rewriting → ℕ → PlainAction → PlainRewrittenAction
rewritten_action r key a = record { duration = a.duration; points = points_of r key a; over = over_of_action r key a }

-- ---- the problem

-- The atoms keep their numbers. An atom has a shadow where an uncertain end writes it, and an uncertain action an atom
-- that says that it is opened.
pub record PlainRewritten : Type 0 where
  pub plain : ℕ
  pub shadow_of : List (Option ℕ)
  pub opened : List (Option ℕ)
  pub initial : List Bool
  pub actions : List PlainRewrittenAction
  pub timed : List PlainTimedEvent
  pub goal : Formula
  pub grid : ℕ

abbrev pub shadow_at : Rewriting → ℕ → Option ℕ
shadow_at r a = if is_shadowed r a then Some (r.shadow a) else None

abbrev pub opened_at : Rewriting → ℕ → PlainAction → Option ℕ
opened_at r key a = option_map (λ e. r.opened key) (end_of a)

-- an event of the environment comes at its moment, and has a number after those of the actions
abbrev pub rewritten_timed : Rewriting → ℕ → PlainTimedEvent → PlainTimedEvent
rewritten_timed r key e = record { at = e.at; event = happening r Settled key e.event }

-- the actions of a task with their numbers, which are from 1 on
abbrev pub numbered_actions : PlainTask → List (ℕ × PlainAction)
numbered_actions t = enumerate_from 1 t.actions

abbrev pub numbered_timed : PlainTask → List (ℕ × PlainTimedEvent)
numbered_timed t = enumerate_from (1 + length t.actions) t.timed

abbrev pub rewritten_of : PlainTask → PlainRewritten
rewritten_of t = record {
  plain = length t.atoms;
  shadow_of = map (shadow_at (rewriting_in t)) (range_with_len 0 (length t.atoms));
  opened = map (λ p. opened_at (rewriting_in t) p.0 p.1) (numbered_actions t);
  initial = (rewriting_in t).initial;
  actions = map (λ p. rewritten_action (rewriting_in t) p.0 p.1) (numbered_actions t);
  timed = map (λ p. rewritten_timed (rewriting_in t) p.0 p.1) (numbered_timed t);
  goal = t.goal;
  grid = t.grid;
}
