-- What is left of the actions answers as all do.
use Rattle.std.proofs.Common.{◌≡◌, drop, map}
use Rattle.std.specs.List.{list_all}
use Rattle.stp_task.specs.Actions.{action_of}
use Rattle.stp_task.specs.CertificateViews.{pair_of}
use Rattle.stp_relax.specs.Judged.{allows}
use Rattle.stp_relax.proofs.certifying.allow_all.Given as goal

abbrev pub invariant-loop-action : goal.invariant-loop-action
invariant-loop-action l = list_all (allows (pair_of l.cert)) (map action_of (drop l.action-index l.actions)) ≡ list_all (allows (pair_of l.cert)) (map action_of l.actions)
