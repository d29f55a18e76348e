use Rattle.std.proofs.Common.{drop}
use Rattle.stp_text.specs.Tree.{views}
use Rattle.stp_schema.specs.Known.{known}
use Rattle.stp_body.specs.Effects.{and_then, all_effects}
use Rattle.stp_body.specs.EffectViews.{gathered_of}
use Rattle.stp_refusal.specs.Gathering.{Gathers}
use Rattle.stp_body.proofs.gather.+effects.Given as goal

abbrev pub invariant-gather_all-loop-item : goal.invariant-gather_all-loop-item
invariant-gather_all-loop-item l = Gathers and_then l.fn.first l.first (gathered_of l.fn.out) (gathered_of l.out) (all_effects (known l.declared l.objects.rows.now) l.scope (views (drop l.item-index l.items))) (all_effects (known l.declared l.objects.rows.now) l.scope (views l.items))
