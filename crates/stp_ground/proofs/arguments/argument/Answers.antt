use Rattle.std.proofs.Common.{false, true}
use Rattle.stp_schema.specs.Rows.{parents_of}
use Rattle.stp_instance.proofs.OfType.{below_is}
use Rattle.stp_ground.proofs.Naming.{argument_none, argument_some}
use Rattle.stp_ground.proofs.arguments.argument.Goals as goal

pub returns-in_default : goal.returns-in_default
returns-in_default c = argument_none c.args.problem.now c.args.name.now c.args.kind c.in_default.ensures.number

pub returns-then-not-is_below : goal.returns-then-not-is_below
returns-then-not-is_below c =
    let p = c.args.problem.now in
    argument_some p c.args.name.now c.args.kind c.in-Some.object.0 false c.in-Some.ensures.number
    (below_is (parents_of p.domain.types.now) p.objects.now c.in-Some.object.0 c.args.kind _ c.is_below.result false c.in-Some.ensures.within c.is_below.ensures c.if-not-is_below.true)

pub returns : goal.returns
returns c =
    let p = c.args.problem.now in
    argument_some p c.args.name.now c.args.kind c.in-Some.object.0 true c.in-Some.ensures.number
    (below_is (parents_of p.domain.types.now) p.objects.now c.in-Some.object.0 c.args.kind _ c.is_below.result true c.in-Some.ensures.within c.is_below.ensures c.if-not-is_below.false)
