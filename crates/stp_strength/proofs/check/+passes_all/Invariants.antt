use Rattle.std.proofs.Common.{length}
use Rattle.stp_strength.proofs.check.+passes_all.Given as goal

abbrev pub decreases-passes_all : goal.decreases-passes_all
decreases-passes_all l = length l.others.now
