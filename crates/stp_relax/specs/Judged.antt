-- The tests by which a pair is judged.
use Rattle.std.specs.Prelude.{Bool, true, not, ◌&&◌, ◌||◌, Option, Some, None}
use Rattle.std.specs.List.{list_any, list_all}
use Rattle.stp_task.specs.Actions.{PlainAction, PlainHappening}
use Rattle.stp_task.specs.Certificates.{Pair, possible, possible_end}
use Rattle.stp_task.specs.Tasks.{PlainTimedEvent}

-- whether an event is allowed
abbrev pub is_allowed : Pair → PlainHappening → Bool
is_allowed p e = list_all p.may e.adds && not (list_any p.always e.dels)

abbrev pub is_timed_allowed : Pair → PlainTimedEvent → Bool
is_timed_allowed p t = is_allowed p t.event

abbrev pub is_end_allowed : Pair → PlainAction → Option PlainHappening → Bool
is_end_allowed p action None = true
is_end_allowed p action (Some e) = not (possible_end p action e) || is_allowed p e

-- whether each possible event of an action is allowed
abbrev pub allows : Pair → PlainAction → Bool
allows p action = (not (possible p action.start.cond) || is_allowed p action.start) && is_end_allowed p action action.finish
