use Rattle.std.proofs.Common.{rules, ◌≡◌, ◌++◌, take, length, option_map}
use Rattle.std.specs.List.{between}
use Rattle.stp_io.proofs.Fronts.{written_on}
use Rattle.stp_io.proofs.writing.write_all.Goals as goal

pub loop-done-preserved : goal.loop-done-preserved
loop-done-preserved g c =
    let appended : g.K.Sink.written c.write.new.self ≡ option_map (λ w. w ++ take c.in-Ok.count (between c.loop-done.done (length c.args.text.now) c.args.text.now)) (g.K.Sink.written c.loop-done.sink) = c.in-Ok.ensures.appended in
    record {
      within = search rules;
      written = written_on c.args.text.now c.loop-done.done c.in-Ok.count (g.K.Sink.written c.args.sink.now) (g.K.Sink.written c.loop-done.sink) (g.K.Sink.written c.write.new.self) c.loop-done.invariant.written appended;
      counts = search rules;
    }
