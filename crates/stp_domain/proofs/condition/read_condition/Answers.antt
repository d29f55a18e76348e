use Rattle.std.proofs.Common.{[], map, Err, ap, sym, ◌∙◌}
use Rattle.stp_text.specs.Tree.{view}
use Rattle.stp_refusal.specs.First.{first_of}
use Rattle.stp_schema.specs.Rows.{thing_of}
use Rattle.stp_schema.specs.Known.{known}
use Rattle.stp_condition.specs.Whole.{texts_of, scope_with}
use Rattle.stp_domain.specs.Placed.{placed}
use Rattle.stp_domain.proofs.Placing.{placed_reading}
use Rattle.stp_domain.proofs.condition.read_condition.Goals as goal

pub returns-in_err-condition-clause-refused : goal.returns-in_err-condition-clause-refused
returns-in_err-condition-clause-refused c = λ o e.
    ap (λ r. first_of r.offences) (placed_reading (known c.args.domain.now.declared []) (map thing_of c.args.objects.now) (map thing_of c.in_ok-firsts.firsts.objects.rows.now) c.in_ok-firsts.firsts.places c.in_ok-firsts.ensures.things c.in_ok-firsts.ensures.places (view c.args.tree.now) (scope_with (texts_of c.args.names.now) c.args.kinds.now))
    ∙ c.in_err-condition.ensures.refused o (ap Err (sym (rw e at c.from_residual-in_err-condition.ensures).1))

pub returns-clause-value : goal.returns-clause-value
returns-clause-value c =
    rw c.as_slice.ensures at c.in_ok-condition-2.ensures
    ∙ ap (placed c.in_ok-firsts.firsts.places) c.in_ok-condition.ensures.value
    ∙ sym (ap (λ r. r.value) (placed_reading (known c.args.domain.now.declared []) (map thing_of c.args.objects.now) (map thing_of c.in_ok-firsts.firsts.objects.rows.now) c.in_ok-firsts.firsts.places c.in_ok-firsts.ensures.things c.in_ok-firsts.ensures.places (view c.args.tree.now) (scope_with (texts_of c.args.names.now) c.args.kinds.now)))

pub returns-clause-lawful : goal.returns-clause-lawful
returns-clause-lawful c =
    ap (λ r. first_of r.offences) (placed_reading (known c.args.domain.now.declared []) (map thing_of c.args.objects.now) (map thing_of c.in_ok-firsts.firsts.objects.rows.now) c.in_ok-firsts.firsts.places c.in_ok-firsts.ensures.things c.in_ok-firsts.ensures.places (view c.args.tree.now) (scope_with (texts_of c.args.names.now) c.args.kinds.now))
    ∙ c.in_ok-condition.ensures.lawful
