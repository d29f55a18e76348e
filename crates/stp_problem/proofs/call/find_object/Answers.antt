use Rattle.std.proofs.Common.{ap, sym, ◌∙◌, map}
use Rattle.stp_tables.specs.Names.{number_of}
use Rattle.stp_schema.specs.Rows.{thing_of}
use Rattle.stp_condition.specs.Scope.{with_value}
use Rattle.stp_problem.specs.Calls.{object_at}
use Rattle.stp_problem.proofs.Named.{names_are}
use Rattle.stp_problem.proofs.call.find_object.Goals as goal

pub returns : goal.returns
returns c = c.object_at.ensures ∙ ap (with_value (object_at (map thing_of c.args.objects.now.rows.now))) (c.find.ensures.number ∙ ap (λ names. number_of names c.args.name.now) (sym (names_are c.args.objects.now.rows.now)))
