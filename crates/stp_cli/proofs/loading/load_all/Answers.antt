use Rattle.std.proofs.Common.{◌+◌, ◌<◌, Err, length, map, drop, string_bytes, arith, ap, ◌∙◌}
use Rattle.stp_report.specs.declared.answer.FileName.TheVariants.{Domain}
use Rattle.stp_cli.specs.Calls.{store_call}
use Rattle.stp_cli.specs.Texts.{no_texts}
use Rattle.stp_cli.specs.Words.{named_of}
use Rattle.stp_cli.proofs.Loads.{next_of, loads_next, stops_next, stops_here, risen_from, unsteady_before}
use Rattle.stp_cli.proofs.loading.load_all.Goals as goal

-- the file at this place is not loaded, and those before it were
pub returns-in-Err-clause-stopped : goal.returns-in-Err-clause-stopped
returns-in-Err-clause-stopped g c = λ answer unloaded.
    let files = g.S.Store.files in
    let steady = g.S.Store.steady in
    let faults = g.S.Store.faults in
    let names = map string_bytes c.args.names.now in
    let i = c.loop-index.index in
    let name = c.as_str-name.result.now in
    let in_names : i < length c.args.names.now = omega arith in
    let in_roles : i < length c.args.roles.now = omega arith in
    let next = next_of string_bytes c.args.roles.now c.args.names.now i Domain c.index-names-index.result name in_roles in_names c.index-names-index.is c.as_str-name.ensures.value in
    c.loop-index.invariant.stops (faults c.load.new.store) answer
    (rw (next.roles_next, next.names_next)
    (stops_here (store_call files steady faults c.args.store.now c.load.new.store) _ name (named_of (drop (i + 1) c.args.roles.now) (drop (i + 1) names)) c.in-Err.fault answer
    (λ was. (risen_from _ _ _ c.loop-index.invariant.counts (c.in-Err.ensures.counted (ap Err was)), unsteady_before (steady c.args.store.now) (steady c.loop-index.store) name c.loop-index.invariant.steady (c.in-Err.ensures.unsteady (ap Err was))))
    (λ was. rw c.loop-index.invariant.files at c.in-Err.ensures.too_long (ap Err was))
    unloaded))

-- one file more is loaded, and so what those behind it come to, all come to
pub loop-index-preserved : goal.loop-index-preserved
loop-index-preserved g c =
    let files = g.S.Store.files in
    let steady = g.S.Store.steady in
    let faults = g.S.Store.faults in
    let names = map string_bytes c.args.names.now in
    let i = c.loop-index.index in
    let name = c.as_str-name.result.now in
    let in_names : i < length c.args.names.now = omega arith in
    let in_roles : i < length c.args.roles.now = omega arith in
    let next = next_of string_bytes c.args.roles.now c.args.names.now i Domain c.index-names-index.result name in_roles in_names c.index-names-index.is c.as_str-name.ensures.value in
    let holds = rw c.loop-index.invariant.files at c.in-Ok.ensures.text in
    let told = files c.args.store.now in
    record {
      files = c.in-Ok.ensures.files ∙ c.loop-index.invariant.files;
      steady = λ n h. c.in-Ok.ensures.steady n (c.loop-index.invariant.steady n h);
      counts = omega (arith, c.in-Ok.ensures.counts, c.loop-index.invariant.counts);
      short = c.put.ensures.short;
      loads = rw c.put.ensures.put (loads_next told (steady c.args.store.now) (faults c.args.store.now) c.args.roles.now names i _ name next no_texts c.loop-index.texts c.in-Ok.text holds c.in-Ok.ensures.limit c.loop-index.invariant.loads);
      stops = stops_next told (steady c.args.store.now) (faults c.args.store.now) c.args.roles.now names i _ name next no_texts c.loop-index.texts c.in-Ok.text holds c.in-Ok.ensures.limit c.loop-index.invariant.stops;
    }
