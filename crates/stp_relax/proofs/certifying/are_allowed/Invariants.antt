-- What is left of the events answers as all do.
use Rattle.std.proofs.Common.{◌≡◌, drop, map}
use Rattle.std.specs.List.{list_all}
use Rattle.stp_task.specs.CertificateViews.{pair_of}
use Rattle.stp_task.specs.Tasks.{timed_event_of}
use Rattle.stp_relax.specs.Judged.{is_timed_allowed}
use Rattle.stp_relax.proofs.certifying.are_allowed.Given as goal

abbrev pub invariant-loop-timed_event : goal.invariant-loop-timed_event
invariant-loop-timed_event l = list_all (is_timed_allowed (pair_of l.cert)) (map timed_event_of (drop l.timed_event-index l.timed)) ≡ list_all (is_timed_allowed (pair_of l.cert)) (map timed_event_of l.timed)
