use Rattle.std.proofs.Common.{◌≡◌, ◌≤◌, ◌∙◌, ap, sym, subst, length, IfOk, nat_lt, false}
use Rattle.stp_base.specs.declared.limits.TheConstants.{MAX_ACTIONS, MAX_BINDINGS}
use Rattle.stp_schema.specs.Views.{problem_of}
use Rattle.stp_kept.specs.Answers.{Answers}
use Rattle.stp_kept.specs.Counts.{binding_count}
use Rattle.stp_kept.specs.Instances.{kept}
use Rattle.stp_kept.specs.KeptTasks.{LieOn, refusal_of_instances, task_of, task_or_fault, unless_refused}
use Rattle.stp_kept.proofs.MadeTasks.{answers_as, first_refusals_pass, is_within, some_part}
use Rattle.stp_kept.proofs.tasks.ground_all.Goals as goal

pub returns-clause-answer : goal.returns-clause-answer
returns-clause-answer c =
    let p = problem_of c.args.problem.now in
    let made = c.in_ok-world.ensures in
    let counted = c.in_ok-have_too_many_bindings.ensures.same ∙ made in
    let listed = c.in_ok-instances.ensures.same ∙ counted in
    let both = some_part _ _ c.in_ok-instances.field-0 c.in-Some.instances c.in-Some.is c.in_ok-instances.ensures.kept in
    let many : nat_lt MAX_BINDINGS (binding_count p) ≡ false
    = ap (λ q. nat_lt MAX_BINDINGS (binding_count q)) (sym made) ∙ sym c.in_ok-have_too_many_bindings.ensures.value ∙ c.if-branch.false in
    let few : length (kept p) ≤ MAX_ACTIONS = subst (λ q. length (kept q) ≤ MAX_ACTIONS) counted (subst (λ l. length l ≤ MAX_ACTIONS) both.0 both.1) in
    answers_as c.task_of_instances.result (unless_refused (refusal_of_instances p) (task_of p)) (task_or_fault p)
    (first_refusals_pass p (sym c.has_chosen.ensures ∙ c.if-has_chosen.false) many (is_within MAX_ACTIONS (length (kept p)) few))
    (subst (λ q. Answers c.task_of_instances.result (unless_refused (refusal_of_instances q) (task_of q))) listed c.task_of_instances.ensures.answer)

pub returns-clause-lie : goal.returns-clause-lie
returns-clause-lie c =
    subst (λ q. IfOk c.task_of_instances.result (λ t. LieOn t.grid q.timed))
    (c.in_ok-instances.ensures.same ∙ c.in_ok-have_too_many_bindings.ensures.same ∙ c.in_ok-world.ensures) c.task_of_instances.ensures.lie
