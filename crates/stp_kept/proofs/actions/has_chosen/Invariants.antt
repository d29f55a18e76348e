-- What the events that are left say is what all say.
use Rattle.std.proofs.Common.{◌≡◌, drop}
use Rattle.std.specs.List.{list_any}
use Rattle.stp_schema.specs.Timed.{is_chosen, timed_facts_of}
use Rattle.stp_kept.proofs.actions.has_chosen.Given as goal

abbrev pub invariant-loop-fact : goal.invariant-loop-fact
invariant-loop-fact l = list_any is_chosen (timed_facts_of (drop l.fact-index l.facts)) ≡ list_any is_chosen (timed_facts_of l.facts)
