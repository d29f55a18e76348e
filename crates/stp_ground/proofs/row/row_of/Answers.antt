use Rattle.std.proofs.Common.{◌≡◌, false, length, replicate, ap, ◌∙◌, arith}
use Rattle.std.specs.Prelude.{is_some, slice_set}
use Rattle.stp_base.specs.declared.ids.AtomId.{AtomId}
use Rattle.stp_tables.specs.Atoms.{atom_with}
use Rattle.stp_instance.specs.Numbered.{is_in}
use Rattle.stp_ground.proofs.Rows.{filled, filled_all, filled_long, filled_more, filled_none, some_kept}
use Rattle.stp_ground.proofs.row.row_of.Goals as goal

pub loop-number-init : goal.loop-number-init
loop-number-init c = c.in_ok-row.ensures ∙ ap (λ n. replicate n false) c.len-count.ensures.count ∙ filled_none (is_in c.args.facts.now) c.args.table.now

pub set-requires : goal.set-requires
set-requires c =
    let count = c.len-count.ensures.count in
    let test = c.loop-number-test.true in
    let long : length c.loop-number.row ≡ length c.args.table.now = ap length c.loop-number.invariant ∙ filled_long (is_in c.args.facts.now) c.args.table.now c.loop-number.number in
    omega (arith, count, long, test)

pub loop-number-preserved : goal.loop-number-preserved
loop-number-preserved c =
    let f = is_in c.args.facts.now in
    let table = c.args.table.now in
    let n = c.loop-number.number in
    let atom = atom_with c.get-predicate.result.0 c.get-predicate.result.1.now in
    c.set.ensures
    ∙ ap (λ l. slice_set l n c.is_some.result) c.loop-number.invariant
    ∙ ap (slice_set (filled f table n) n) (c.is_some.ensures ∙ some_kept (λ (a : AtomId). a.0) c.find.result ∙ ap is_some c.find.ensures.number)
    ∙ filled_more f table n atom c.get-predicate.ensures.atom

pub returns : goal.returns
returns c =
    let count = c.len-count.ensures.count in
    let test = c.loop-number-test.false in
    let at : c.loop-number.number ≡ length c.args.table.now = omega (arith, count, test) in
    c.loop-number.invariant ∙ ap (filled (is_in c.args.facts.now) c.args.table.now) at ∙ filled_all (is_in c.args.facts.now) c.args.table.now
