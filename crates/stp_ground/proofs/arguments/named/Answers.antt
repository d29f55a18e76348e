use Rattle.std.proofs.Common.{Ok, ◌∙◌, ap}
use Rattle.stp_schema.specs.Schemas.{schema_of}
use Rattle.stp_ground.proofs.Naming.{named_none, named_some}
use Rattle.stp_ground.proofs.arguments.named.Goals as goal

pub returns-in_default : goal.returns-in_default
returns-in_default c = named_none c.args.problem.now c.args.name.now c.in_default.ensures.number

pub returns : goal.returns
returns c = named_some c.args.problem.now c.args.name.now c.in-Some.number c.index-problem-number.result c.in-Some.ensures.within c.index-problem-number.is c.in-Some.ensures.number ∙ ap (λ s. Ok (c.in-Some.number, schema_of s)) c.index-problem-number.is
