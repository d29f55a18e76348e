-- The spans so far are of other steps.
use Rattle.std.proofs.Common.{◌≡◌, drop}
use Rattle.stp_report.specs.Texts.{kind_in}
use Rattle.stp_report.proofs.replay.kind_among.Given as goal

abbrev pub invariant-loop-span : goal.invariant-loop-span
invariant-loop-span l = kind_in l.time l.step.0 (drop l.span-index l.spans) ≡ kind_in l.time l.step.0 l.fn.spans
