use Rattle.std.proofs.Common.{ap, sym, ◌∙◌, option_map}
use Rattle.stp_frac.specs.Fractions.{value_of}
use Rattle.stp_schema.specs.Expression.{expression}
use Rattle.stp_instance.specs.Bindings.{numbers_of}
use Rattle.stp_instance.specs.Operators.{whole}
use Rattle.stp_instance.proofs.Weights.{left_within}
use Rattle.stp_instance.proofs.Operators.{none_put_off, one_put_off}
use Rattle.stp_instance.proofs.expression.+value.Goals as goal

pub returns-in_default : goal.returns-in_default
returns-in_default t c = none_put_off c.args.values.now (numbers_of c.args.binding.now) c.loop-form.steps.items c.in-Joint.operator (expression c.in-Joint.one.now) (expression c.in-Joint.other.now) (whole c.loop-form.form) _ (ap whole c.in-Joint.is) (ap (option_map value_of) (sym c.in_default.is) ∙ c.in_ok-right-in-Joint.ensures) c.loop-form.invariant.same

pub loop-form-preserved : goal.loop-form-preserved
loop-form-preserved t c = record {
  same = one_put_off c.args.values.now (numbers_of c.args.binding.now) c.loop-form.steps.items c.push.new.self.items (record { operator = c.in-Joint.operator; right = c.in-Some.right }) (expression c.in-Joint.one.now) (expression c.in-Joint.other.now) (whole c.loop-form.form) (whole c.form_of-form-in-Joint.result) _ (ap whole c.in-Joint.is) (ap (option_map value_of) (sym c.in-Some.is) ∙ c.in_ok-right-in-Joint.ensures) c.in_ok-push-in-Joint.ensures.items c.form_of-form-in-Joint.ensures c.loop-form.invariant.same;
  smaller = left_within c.in-Joint.operator (expression c.in-Joint.one.now) (expression c.in-Joint.other.now) (whole c.loop-form.form) (whole c.form_of-form-in-Joint.result) _ (ap whole c.in-Joint.is) c.form_of-form-in-Joint.ensures c.loop-form.invariant.smaller;
}
