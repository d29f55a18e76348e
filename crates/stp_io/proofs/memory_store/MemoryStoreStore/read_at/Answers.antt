use Rattle.std.proofs.Common.{rules, ◌≡◌, ◌&&◌, false, not}
use Rattle.std.specs.Option.{is_some}
use Rattle.stp_io.specs.Calls.{fails_now}
use Rattle.stp_io.specs.Named.{file_of}
use Rattle.stp_io.specs.Store.{StoreState}
use Rattle.stp_io.proofs.Failing.{steady_after, unsteady}
use Rattle.stp_io.proofs.memory_store.MemoryStoreStore.read_at.Goals as goal

pub returns-in-Some-clause-steady : goal.returns-in-Some-clause-steady
returns-in-Some-clause-steady c =
    let new : StoreState = record { files = c.self.inside.files; calls = c.begin-fails.new.self } in
    steady_after c.args.self.now new (search rules) (search rules) (search rules)

pub returns-in_default-clause-unsteady : goal.returns-in_default-clause-unsteady
returns-in_default-clause-unsteady c =
    let fails : false ≡ (is_some (file_of c.args.self.now.files c.args.name.now) && not (fails_now c.args.self.now.calls)) = search rules in
    unsteady c.args.self.now c.args.name.now fails

pub returns-in_default-clause-steady : goal.returns-in_default-clause-steady
returns-in_default-clause-steady c =
    let new : StoreState = record { files = c.in_default.self-inside.files; calls = c.count_fault.new.self } in
    steady_after c.args.self.now new (search rules) (search rules) (search rules)
