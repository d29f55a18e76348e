-- One edge less, and all else stays.
use Rattle.std.proofs.Common.{◌≡◌, ◌-◌, length, ap, ◌∙◌, arith}
use Rattle.std.proofs.lemmas.List.{length-take-le}
use Rattle.stp_network.proofs.Withdrawing.{one_less}
use Rattle.stp_network.proofs.rows.Rows.withdraw.Goals as goal

pub loop-self-preserved : goal.loop-self-preserved
loop-self-preserved c =
    let old = c.loop-self.invariant in
    let counted : length c.take_back.new.edges.items ≡ length c.loop-self.edges.items - 1 =
    ap length c.take_back.ensures.edges ∙ length-take-le (length c.loop-self.edges.items - 1) c.loop-self.edges.items (omega arith) in
    record {
      even = c.take_back.ensures.even;
      kept = c.take_back.ensures.kept;
      edges = one_less c.args.edges.now.items c.loop-self.edges.items c.take_back.new.edges.items old.edges old.within c.take_back.ensures.edges;
      within = omega arith;
      left = omega arith;
      times = c.take_back.ensures.times ∙ old.times;
      room = λ n room. c.take_back.ensures.room n (old.room n room);
      same = c.take_back.ensures.capacity ∙ old.same;
    }
