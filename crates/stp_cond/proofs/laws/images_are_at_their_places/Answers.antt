use Rattle.stp_cond.proofs.Rising.{rises_from_set}
use Rattle.stp_cond.proofs.Images.{image_at, image_other}
use Rattle.stp_cond.proofs.laws.images_are_at_their_places.Goals as goal

pub returns-clause-placed : goal.returns-clause-placed
returns-clause-placed c = λ from to i once same within. image_at from to i 0 0 (rises_from_set from once) same within

pub returns-clause-others : goal.returns-clause-others
returns-clause-others c = image_other
