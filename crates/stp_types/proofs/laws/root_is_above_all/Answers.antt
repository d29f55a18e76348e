use Rattle.std.proofs.Common.{length, arith}
use Rattle.stp_types.proofs.Above.{above_end}
use Rattle.stp_types.proofs.Deciding.{climbs_down}
use Rattle.stp_types.proofs.laws.root_is_above_all.Goals as goal

pub returns : goal.returns
returns c = record { root = λ p k t forest there. climbs_down p (length p) (length p) k 0 (omega arith) (above_end p t forest k there) }
