use Rattle.std.proofs.Common.{refl}
use Rattle.stp_relax.proofs.Seeing.{popped_or_idle}
use Rattle.stp_relax.proofs.progress.next.Goals as goal

pub returns : goal.returns
returns c = popped_or_idle c.args.progress.now _ c.pop.result refl refl c.pop.ensures.items c.pop.ensures.cases
