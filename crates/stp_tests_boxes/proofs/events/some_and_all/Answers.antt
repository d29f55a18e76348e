use Rattle.std.proofs.Common.{nat_lt, ap, ◌∙◌}
use Rattle.stp_cond.specs.declared.cond.Cond.TheVariants.{And, Or}
use Rattle.stp_cond.specs.Truth.{is_below}
use Rattle.stp_cond.proofs.Equations.{reads_and, reads_or}
use Rattle.stp_tests_boxes.proofs.events.some_and_all.Goals as goal

pub holds-requires : goal.holds-requires
holds-requires c = ap (λ n. is_below n (Or c.args.parts)) c.requires.row ∙ (reads_or (λ a. nat_lt a 3) c.args.parts ∙ c.requires.parts)

pub holds-requires-2 : goal.holds-requires-2
holds-requires-2 c = ap (λ n. is_below n (And c.args.parts)) c.requires.row ∙ (reads_and (λ a. nat_lt a 3) c.args.parts ∙ c.requires.parts)
