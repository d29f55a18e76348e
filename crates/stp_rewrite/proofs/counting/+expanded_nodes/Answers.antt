use Rattle.std.proofs.Common.{sym, ◌∙◌, arith}
use Rattle.stp_expand.specs.Views.{footprints_of}
use Rattle.stp_rewrite.proofs.Cut.{expanded_of_parts, many_of_parts}
use Rattle.stp_rewrite.proofs.counting.+expanded_nodes.Goals as goal

pub loop-part-init : goal.loop-part-init
loop-part-init t c = record {
  low = omega arith;
  few = sym (many_of_parts (footprints_of c.args.ends.now) c.args.cond.now c.in-And.parts c.in-And.is) ∙ c.requires;
  so_far = expanded_of_parts (footprints_of c.args.ends.now) c.args.cond.now c.in-And.parts c.in-And.is;
}
