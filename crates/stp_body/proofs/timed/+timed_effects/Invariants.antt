use Rattle.std.proofs.Common.{drop}
use Rattle.stp_text.specs.Tree.{views}
use Rattle.stp_schema.specs.Known.{known}
use Rattle.stp_body.specs.TimedEffects.{timed_and_then, all_timed_effects}
use Rattle.stp_body.specs.EffectViews.{timed_gathered_of}
use Rattle.stp_refusal.specs.Gathering.{Gathers}
use Rattle.stp_body.proofs.timed.+timed_effects.Given as goal

abbrev pub invariant-gather_all_timed-loop-item : goal.invariant-gather_all_timed-loop-item
invariant-gather_all_timed-loop-item l = Gathers timed_and_then l.fn.first l.first (timed_gathered_of l.fn.out) (timed_gathered_of l.out) (all_timed_effects (known l.declared l.objects.rows.now) l.scope (views (drop l.item-index l.items))) (all_timed_effects (known l.declared l.objects.rows.now) l.scope (views l.items))
