use Rattle.std.proofs.Common.{rules, ap, ◌≡◌, ◌≤◌, ◌++◌, ◌+◌, length, take, drop, IfSome, arith}
use Rattle.stp_io.specs.Store.{IsRead}
use Rattle.stp_io.proofs.Fronts.{front_more, length_more}
use Rattle.stp_io.proofs.loading.load.Goals as goal

pub loop-text-preserved : goal.loop-text-preserved
loop-text-preserved g c =
    let read : IfSome (g.S.Store.files c.loop-text.store) (λ f. IsRead (f c.args.name.now) (length c.as_slice-length.result.now) c.in-Ok.count c.read_at.new.buf) = c.in-Ok.ensures.read in
    let longer : c.push.new.self ≡ c.loop-text.text ++ take c.in-Ok.count (c.read_at.new.buf ++ drop c.min-wanted.result c.loop-text.buffer) = c.in_ok-push-in-Ok.ensures.ok in
    let fits : c.in-Ok.count ≤ length c.read_at.new.buf = c.in-Ok.ensures.within in
    let grown : length c.push.new.self ≡ length c.loop-text.text + c.in-Ok.count = length_more c.loop-text.text c.read_at.new.buf (drop c.min-wanted.result c.loop-text.buffer) c.push.new.self c.in-Ok.count fits longer in
    let at : length c.as_slice-length.result.now ≡ length c.loop-text.text = ap length c.as_slice-length.ensures in
    record {
      limit = omega (arith, grown, at);
      buffer = search rules;
      front = front_more (g.S.Store.files c.args.store.now) (g.S.Store.files c.loop-text.store) c.args.name.now c.loop-text.text c.as_slice-length.result.now c.read_at.new.buf (drop c.min-wanted.result c.loop-text.buffer) c.push.new.self c.in-Ok.count
          c.loop-text.invariant.files c.as_slice-length.ensures c.loop-text.invariant.front read fits longer;
      files = search rules;
      steady = search rules;
      counts = search rules;
    }
