use Rattle.std.proofs.Common.{ap, sym, ◌∙◌, Some, option_map}
use Rattle.stp_frac.specs.Fractions.{value_of}
use Rattle.stp_instance.specs.Operators.{finished}
use Rattle.stp_instance.proofs.Operators.{finished_none, one_done, none_done}
use Rattle.stp_instance.proofs.expression.finish.Goals as goal

pub returns-in_err-value : goal.returns-in_err-value
returns-in_err-value c = ap (option_map value_of) c.from_residual.ensures ∙ sym (ap (λ f. finished c.args.steps.items (option_map value_of f)) c.in_err-value.was ∙ finished_none c.args.steps.items)

pub loop-step-preserved : goal.loop-step-preserved
loop-step-preserved c = one_done c.pop.new.self.items c.loop-step.steps.items c.in-Some.step (value_of c.loop-step.value) (Some (value_of c.in_ok-value-2.value)) _ c.in-Some.ensures.items c.in_ok-value-2.ensures c.loop-step.invariant

pub returns-in_err-value-2 : goal.returns-in_err-value-2
returns-in_err-value-2 c = ap (option_map value_of) c.from_residual-in_err-value-2.ensures ∙ none_done c.pop.new.self.items c.loop-step.steps.items c.in-Some.step (value_of c.loop-step.value) _ c.in-Some.ensures.items c.in_err-value-2.ensures c.loop-step.invariant
