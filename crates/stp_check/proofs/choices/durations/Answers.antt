use Rattle.std.proofs.Common.{◌≡◌, ap, ◌∙◌}
use Rattle.std.proofs.lemmas.Result.{IfOk-weaker}
use Rattle.stp_happen.specs.Boxes.{IsVector}
use Rattle.stp_happen.specs.OwnedViews.{plain_owned}
use Rattle.stp_happen.specs.OwnerViews.{plain_owners}
use Rattle.stp_strength.specs.Vectors.{vector_from}
use Rattle.stp_check.specs.Choices.{moment_of}
use Rattle.stp_check.proofs.Judged.{choice_is_vector}
use Rattle.stp_check.proofs.choices.durations.Goals as goal

pub returns-clause-vector : goal.returns-clause-vector
returns-clause-vector c =
    let boxed = c.args.boxed.now in
    let choice = c.args.choice in
    IfOk-weaker c.durations_at.result (λ r. r ≡ vector_from (moment_of choice) (plain_owners c.as_slice.result.now)) (IsVector (plain_owned boxed).owners)
    (λ r e. choice_is_vector boxed choice r (e ∙ ap (λ os. vector_from (moment_of choice) (plain_owners os)) c.as_slice.ensures)) c.durations_at.ensures
