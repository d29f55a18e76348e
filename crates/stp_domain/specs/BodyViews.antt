-- What the structs of actions stand for.
use Rattle.stp_schema.specs.Formula.{formula}
use Rattle.stp_schema.specs.Schemas.{timing_of}
use Rattle.stp_condition.specs.Views.{timed_conditions_of}
use Rattle.stp_body.specs.EffectViews.{effects_of, timed_effects_of}
use Rattle.stp_domain.specs.declared.body.Body.{Body}
use Rattle.stp_domain.specs.declared.body.Parts.{Parts}
use Rattle.stp_domain.specs.Bodies.{PlainBody, PlainParts, parts_with}

abbrev pub body_of : Body → PlainBody
body_of b = record {
  timing = timing_of b.timing;
  start_cond = formula b.start_cond;
  over_all = formula b.over_all;
  end_cond = formula b.end_cond;
  start = effects_of b.start;
  end = effects_of b.end;
}

abbrev pub parts_of : Parts → PlainParts
parts_of p = parts_with (timed_conditions_of p.conditions) (timed_effects_of p.effects)
