use Rattle.std.proofs.Common.{ap, ◌∙◌}
use Rattle.std.specs.Prelude.{is_some}
use Rattle.stp_refusal.proofs.Reading.{mapped}
use Rattle.stp_domain_parts.specs.Views.{action_of}
use Rattle.stp_domain.specs.BodyViews.{body_of}
use Rattle.stp_domain.specs.Schemas.{schema_with}
use Rattle.stp_domain.proofs.schemas.read_schema.Goals as goal

-- the schema is made of the body that was read, and of whether the action has a condition
pub returns-clause-value : goal.returns-clause-value
returns-clause-value c =
    let name = c.args.row.now.action.name.now in
    let kinds = c.args.row.now.kinds.now in
    mapped (schema_with name kinds (is_some (action_of c.args.row.now.action).condition)) _ _ _ _ _
    (c.in_ok-schema.ensures.schema ∙ ap (λ h. schema_with name kinds h (body_of c.in_ok-body.body)) c.has_condition-conditioned.ensures)
    (rw c.in_ok-scope.ensures at c.in_ok-body.ensures)
