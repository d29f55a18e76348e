use Rattle.std.proofs.Common.{◌≡◌, arith, false, eqb, refl}
use Rattle.std.specs.Prelude.{◌||◌}
use Rattle.std.proofs.lemmas.Bool.Decides.{nat_tests}
use Rattle.stp_schema.specs.Rows.{parents_of}
use Rattle.stp_schema.proofs.Below.{outside_rows, inside_rows}
use Rattle.stp_schema.proofs.declared.Declared.is_below.Goals as goal

pub returns-else-kind-other : goal.returns-else-kind-other
returns-else-kind-other c =
    let h = outside_rows c.args.self.now.ancestries.now (parents_of c.args.self.now.types.now) c.args.kind c.args.other c.args.self.now.forest c.args.self.now.same_parents (omega arith) in
    rw h (let n = c.if-kind-other.false in let e : eqb c.args.kind c.args.other ≡ false = grind (arith, nat_tests) in rw e refl)

pub returns-else-other-count : goal.returns-else-other-count
returns-else-other-count c =
    let h = inside_rows c.args.self.now.ancestries.now (parents_of c.args.self.now.types.now) c.args.kind c.args.other c.args.self.now.forest c.args.self.now.same_parents (omega arith) (omega arith) in
    rw h (let n = c.if-other-count.false in grind (arith, nat_tests))
