use Rattle.std.proofs.Common.{ap, sym, ◌∙◌, map, drop, ◌+◌, arith, is_some, ◌∷◌, []}
use Rattle.std.proofs.lemmas.List.{drop_all, map-append}
use Rattle.stp_frac.specs.Fractions.{value_of}
use Rattle.stp_schema.specs.Views.{given_of}
use Rattle.stp_instance.proofs.ValueTables.{given_at, same_some, front_known, front_new, table_whole}
use Rattle.stp_instance.proofs.values.Values.new.Goals as goal
use Rattle.stp_instance.proofs.values.Values.new.Goals.{then-is_none+in_ok-number+in_ok-push, else-is_none}

pub loop-one-preserved : goal.loop-one-preserved
loop-one-preserved c =
    let here = given_at c.args.given.now c.loop-one.one-index c.one-item.result (omega arith) (sym c.one-item.is) in
    let front = rw here at c.loop-one.invariant in
    let known = ap is_some (sym c.find.ensures.number) ∙ same_some _ c.find.result in
    elim c.if-is_none.branch [
      | then-is_none+in_ok-number+in_ok-push w ↦
          rw (w.places-is, w.amounts-is, w.in_ok-number.ensures.atoms, w.in_ok-push.ensures.ok, map-append value_of c.loop-one.amounts (c.one-item.result.value ∷ []))
          (front_new c.loop-one.places (map value_of c.loop-one.amounts) (given_of c.one-item.result) (map given_of (drop (c.loop-one.one-index + 1) c.args.given.now)) (map given_of c.args.given.now) front (known ∙ w.if-is_none.ensures))
      | else-is_none w ↦ rw (w.places-is, w.amounts-is) (front_known c.loop-one.places (map value_of c.loop-one.amounts) (given_of c.one-item.result) (map given_of (drop (c.loop-one.one-index + 1) c.args.given.now)) (map given_of c.args.given.now) (known ∙ w.if-is_none.ensures) front)
    ]

pub invariant_of-result : goal.invariant_of-result
invariant_of-result c = table_whole c.loop-one.places (map value_of c.loop-one.amounts) (map given_of c.args.given.now) (rw (drop_all c.loop-one.one-index c.args.given.now (omega arith)) at c.loop-one.invariant)
