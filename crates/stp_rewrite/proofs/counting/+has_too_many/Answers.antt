use Rattle.std.proofs.Common.{sym}
use Rattle.stp_expand.specs.Views.{footprints_of}
use Rattle.stp_rewrite.proofs.Cut.{many_of_parts}
use Rattle.stp_rewrite.proofs.counting.+has_too_many.Goals as goal

pub loop-part-init : goal.loop-part-init
loop-part-init t c = sym (many_of_parts (footprints_of c.args.ends.now) c.args.cond.now c.in-And.parts c.in-And.is)
