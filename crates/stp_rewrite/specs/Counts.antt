-- Counts of nodes of formulas and of requirements of locks.
use Rattle.std.specs.Prelude.{ℕ, ◌+◌, ◌-◌, ◌*◌, ◌^◌, ◌==◌, if◌then◌else◌, min, List, [], ◌∷◌, length, Option, Some, None}
use Rattle.std.specs.List.{sum_by, range_with_len}
use Rattle.stp_base.specs.declared.limits.TheConstants.{MAX_OVER_ALL_NODES}
use Rattle.stp_cond.specs.Formulas.{Formula, Formulas, Always, Never, Atomic, Negation, Conjunction, Disjunction, NoMore, More}
use Rattle.stp_expand.specs.Expanded.{is_consistent, picked}
use Rattle.stp_expand.specs.Footprints.{PlainFootprint, footprints_on}
use Rattle.stp_task.specs.Actions.{PlainAction, PlainHappening, event_in}
use Rattle.stp_task.specs.Durations.{PlainDuration, Instant, Controlled, Uncertain}
use Rattle.stp_task.specs.Tasks.{PlainTask}
use Rattle.stp_rewriting.specs.Rewritten.{Rewriting, locks}
use Rattle.stp_rewrite.specs.RewrittenTasks.{numbered_actions, numbered_timed, over_of_action, rewriting_in}

-- ---- nodes

-- how many nodes a formula has, each part counted as often as it stands there
abbrev mutual
  pub nodes_in : Formula → ℕ
  nodes_in Always = 1
  nodes_in Never = 1
  nodes_in (Atomic atom) = 1
  nodes_in (Negation part) = 1 + nodes_in part
  nodes_in (Conjunction parts) = 1 + nodes_in_all parts
  nodes_in (Disjunction parts) = 1 + nodes_in_all parts

  pub nodes_in_all : Formulas → ℕ
  nodes_in_all NoMore = 0
  nodes_in_all (More part parts) = nodes_in part + nodes_in_all parts

-- only actions that last count
abbrev pub if_lasting : PlainDuration → ℕ → ℕ
if_lasting Instant n = 0
if_lasting (Controlled low high) n = n
if_lasting (Uncertain low high) n = n

abbrev pub over_all_nodes : Rewriting → ℕ → PlainAction → ℕ
over_all_nodes r key a = if_lasting a.duration (nodes_in (over_of_action r key a))

-- the nodes of the expanded over-all conditions of a task
abbrev pub node_count : PlainTask → ℕ
node_count t = sum_by (λ p. over_all_nodes (rewriting_in t) p.0 p.1) (numbered_actions t)

-- ---- locks

abbrev pub locks_of : Rewriting → ℕ → PlainHappening → ℕ
locks_of r key h = length (locks r key (event_in h))

abbrev pub locks_of_end : Rewriting → ℕ → Option PlainHappening → ℕ
locks_of_end r key None = 0
locks_of_end r key (Some e) = locks_of r key e

-- the start and the end of a controllable action, or the start and the opening of an uncertain one, have locks
abbrev pub locks_of_action : Rewriting → ℕ → PlainAction → ℕ
locks_of_action r key a = locks_of r key a.start + locks_of_end r key a.finish

-- the requirements of locks in a task
abbrev pub lock_count : PlainTask → ℕ
lock_count t = sum_by (λ p. locks_of_action (rewriting_in t) p.0 p.1) (numbered_actions t) + sum_by (λ p. locks_of (rewriting_in t) p.0 p.1.event) (numbered_timed t)

-- a count, or one more than its limit where it is greater; both counts have the same limit
abbrev pub cut : ℕ → ℕ
cut count = min count (MAX_OVER_ALL_NODES + 1)

-- ---- nodes of expansions, by their footprints

-- that none of some actions is opened: an atom and its negation for each, and a conjunction where there are several
abbrev pub closed_nodes : ℕ → ℕ
closed_nodes opened = if opened == 0 then 1 else if opened == 1 then 2 else 1 + 2 * opened

-- the formula of a set of footprints on a formula of n nodes
abbrev pub set_nodes : ℕ → List PlainFootprint → ℕ
set_nodes n set = sum_by (λ p. closed_nodes (length p.opened)) set + (1 + n)

abbrev pub nodes_at : ℕ → List PlainFootprint → ℕ → ℕ
nodes_at n footprints number = if is_consistent (picked footprints number) then set_nodes n (picked footprints number) else 0

-- the formulas of the sets with so many numbers, from a first one on
abbrev pub nodes_from : ℕ → List PlainFootprint → ℕ → ℕ → ℕ
nodes_from n footprints first count = sum_by (nodes_at n footprints) (range_with_len first count)

-- a formula of n nodes under its footprints
abbrev pub nodes_under : ℕ → List PlainFootprint → ℕ
nodes_under n [] = n
nodes_under n (p ∷ ps) = (1 + n) + nodes_from n (p ∷ ps) 1 (2 ^ length (p ∷ ps) - 1)

abbrev pub whole_nodes : List PlainFootprint → Formula → ℕ
whole_nodes ends f = nodes_under (nodes_in f) (footprints_on f ends)

-- the nodes of an expansion, counted without making it
abbrev mutual
  pub expanded_nodes : List PlainFootprint → Formula → ℕ
  expanded_nodes ends Always = whole_nodes ends Always
  expanded_nodes ends Never = whole_nodes ends Never
  expanded_nodes ends (Atomic atom) = whole_nodes ends (Atomic atom)
  expanded_nodes ends (Negation part) = whole_nodes ends (Negation part)
  expanded_nodes ends (Conjunction parts) = 1 + expanded_nodes_all ends parts
  expanded_nodes ends (Disjunction parts) = whole_nodes ends (Disjunction parts)

  pub expanded_nodes_all : List PlainFootprint → Formulas → ℕ
  expanded_nodes_all ends NoMore = 0
  expanded_nodes_all ends (More part parts) = expanded_nodes ends part + expanded_nodes_all ends parts
