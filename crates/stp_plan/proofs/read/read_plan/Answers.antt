use Rattle.std.proofs.Common.{◌≡◌, ℕ, ◌+◌, List, Option, Ok, map, ap, sym, ◌∙◌, arith}
use Rattle.std.proofs.lemmas.List.{drop_all}
use Rattle.stp_plan.specs.declared.line.Line.{Line}
use Rattle.stp_plan.specs.Views.{plain_step, so_far_of}
use Rattle.stp_plan.specs.declared.steps.Step.{Step}
use Rattle.stp_plan.specs.Plans.{plan_of, unless_many}
use Rattle.stp_plan.proofs.Lawful.{read_plans_are_lawful}
use Rattle.stp_plan.proofs.LineByLine.{read_on, kind_at, plan_start}
use Rattle.stp_plan.proofs.read.read_plan.Goals as goal

pub loop-index-init : goal.loop-index-init
loop-index-init c = plan_start c.args.bytes.now c.as_slice-line-items.result.now (map plain_step c.new.result) (ap (map plain_step) c.new.ensures) (rw c.as_slice-line-items.ensures c.in_ok-found.ensures.texts)

pub returns-clause-lawful : goal.returns-clause-lawful
returns-clause-lawful c =
    let steps : List Step = c.loop-index.kept.steps in
    let plan : plan_of c.args.bytes.now ≡ Ok (map plain_step steps) =
    sym c.loop-index.invariant
    ∙ ap (λ (lines : List Line). read_on (c.loop-index.index + 1) (so_far_of c.loop-index.kept) (map (kind_at c.args.bytes.now) lines)) (drop_all c.loop-index.index c.as_slice-line-items.result.now (omega arith))
    ∙ ap (λ (o : Option ℕ). unless_many o (map plain_step steps)) c.in_default-extra.is in
    read_plans_are_lawful c.args.bytes.now (map plain_step steps) plan
