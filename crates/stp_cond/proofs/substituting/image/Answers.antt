use Rattle.std.proofs.Common.{rules}
use Rattle.std.proofs.lemmas.List.Sorted.{answers_always}
use Rattle.stp_cond.proofs.Images.{image_found, image_missing}
use Rattle.stp_cond.proofs.substituting.image.Goals as goal

pub returns-in-Ok : goal.returns-in-Ok
returns-in-Ok c =
    image_found c.args.from.now c.args.to.now c.args.atom.0 c.in-Ok.place (record { 0 = 0 }) c.requires.once c.requires.same c.in-Ok.ensures.bound
    (c.in-Ok.ensures.position (λ x. x.0) (answers_always _ _ _ (λ f a r g called. search rules)))

pub returns-in-Err : goal.returns-in-Err
returns-in-Err c =
    image_missing c.args.from.now c.args.to.now c.args.atom.0 c.in-Err.field-0 c.requires.once c.in-Err.ensures.bound
    (c.in-Err.ensures.position (λ x. x.0) (answers_always _ _ _ (λ f a r g called. search rules)))
