use Rattle.std.proofs.lemmas.Result.{IfOk-weaker, IfErr-weaker}
use Rattle.stp_text.specs.Tree.{view}
use Rattle.stp_schema.specs.Views.{domain_of, problem_of}
use Rattle.stp_cli.proofs.Casing.{refused_domain, refused_world, refused_problem_tree, a_problem, refused_problem}
use Rattle.stp_cli.proofs.case.read_problem_texts.Goals as goal

pub returns-in-Err-clause-refused : goal.returns-in-Err-clause-refused
returns-in-Err-clause-refused c = λ other. refused_domain c.args.domain.now c.args.problem.now c.in-Err.fault (c.in-Err.ensures.refused other)

pub returns-in-Err-whole_domain-clause-refused : goal.returns-in-Err-whole_domain-clause-refused
returns-in-Err-whole_domain-clause-refused c = λ other.
    refused_world c.args.domain.now c.args.problem.now (view c.in-Ok.tree.now) c.in-Ok.ensures.ok c.in-Err-whole_domain.fault (c.in-Err-whole_domain.ensures.refused other)

pub returns-in-Err-read_tree-clause-refused : goal.returns-in-Err-read_tree-clause-refused
returns-in-Err-read_tree-clause-refused c = λ other.
    refused_problem_tree c.args.domain.now c.args.problem.now (view c.in-Ok.tree.now) c.in-Ok.ensures.ok (domain_of c.in-Ok-whole_domain.world) c.in-Ok-whole_domain.ensures.ok c.in-Err-read_tree.fault (c.in-Err-read_tree.ensures.refused other)

pub returns-clause-ok : goal.returns-clause-ok
returns-clause-ok c =
    IfOk-weaker c.whole_problem.result _ _
    (λ p e. a_problem c.args.domain.now c.args.problem.now (view c.in-Ok.tree.now) c.in-Ok.ensures.ok (domain_of c.in-Ok-whole_domain.world) c.in-Ok-whole_domain.ensures.ok (view c.in-Ok-read_tree.tree.now) c.in-Ok-read_tree.ensures.ok (problem_of p) e)
    c.whole_problem.ensures.ok

pub returns-clause-refused : goal.returns-clause-refused
returns-clause-refused c =
    IfErr-weaker c.whole_problem.result _ _
    (λ fault told other. refused_problem c.args.domain.now c.args.problem.now (view c.in-Ok.tree.now) c.in-Ok.ensures.ok (domain_of c.in-Ok-whole_domain.world) c.in-Ok-whole_domain.ensures.ok (view c.in-Ok-read_tree.tree.now) c.in-Ok-read_tree.ensures.ok fault (told other))
    c.whole_problem.ensures.refused
