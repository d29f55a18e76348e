use Rattle.std.proofs.Common.{◌≡◌, sym, ◌∙◌, arith, refl, length}
use Rattle.std.proofs.lemmas.List.{map-append}
use Rattle.std.proofs.lemmas.Bool.Decides.{nat_tests}
use Rattle.stp_text.specs.Tree.{view}
use Rattle.stp_text.proofs.Equations.{view_word, view_items}
use Rattle.stp_refusal.proofs.Reading.{continues_next, continues_done, mapped, paired}
use Rattle.stp_text.proofs.Items.{views_none, views_head, views_more, views_end}
use Rattle.stp_schema.specs.Known.{known}
use Rattle.stp_schema.specs.Formula.{Not}
use Rattle.stp_condition.specs.Conditions.{implied, condition_read}
use Rattle.stp_condition.specs.Variables.{variables_read}
use Rattle.stp_schema.proofs.Equations.{formula_and}
use Rattle.stp_condition.proofs.ReadingConditions.{read_word, read_empty, read_listed, read_headed, items_more, items_end, one_item, no_one_item, two_items, no_two_items}
use Rattle.stp_condition.proofs.Then.{quantified_is}
use Rattle.stp_condition.proofs.condition.+conditions.Goals as goal
use Rattle.stp_condition.proofs.condition.+conditions.Goals.{read_implication-in_default-via-then-items-lt2, read_implication-in_default-via-else-items-lt2+else-items-lt3, read_quantified-in_default-via-then-items-lt2, read_quantified-in_default-via-else-items-lt2+else-items-lt3, read_list-in_default-via-then-items-lt1, read_list-in_default-via-else-items-lt1+else-items-lt2}

pub read_condition_in-returns-in_default-clause-value : goal.read_condition_in-returns-in_default-clause-value
read_condition_in-returns-in_default-clause-value t c = rw (c.in-Items.is, view_items, views_none c.in-Items.items.now c.in_default.len_below, read_empty) (record { first = refl; same = formula_and _ })

pub read_condition_in-returns-in-Word-clause-value : goal.read_condition_in-returns-in-Word-clause-value
read_condition_in-returns-in-Word-clause-value t c = rw (c.in-Word.is, view_word, read_word) c.refused.ensures

pub read_condition_in-returns-in-Items-head-clause-value : goal.read_condition_in-returns-in-Items-head-clause-value
read_condition_in-returns-in-Items-head-clause-value t c =
    rw (c.in-Items.is, view_items, views_head c.in-Items.items.now c.head-item.result c.in-len1-up.len_at_least c.head-item.is, c.in-Items-head.is, view_items, read_listed) c.refused-in-Items-head.ensures

pub read_condition_in-returns-in_ok-condition-in-Word-head-clause-value : goal.read_condition_in-returns-in_ok-condition-in-Word-head-clause-value
read_condition_in-returns-in_ok-condition-in-Word-head-clause-value t c =
    rw (c.in-Items.is, view_items, views_head c.in-Items.items.now c.head-item.result c.in-len1-up.len_at_least c.head-item.is, c.in-Word-head.is, view_word, read_headed) c.in_ok-condition-in-Word-head.ensures.value

pub read_all-loop-item-preserved : goal.read_all-loop-item-preserved
read_all-loop-item-preserved t c = record {
  value = rw (c.in_ok-read_condition_in.ensures.kept, c.in_ok-push.ensures.items, map-append)
      (continues_next (rw (views_more c.args.items.now c.loop-item.item-index c.item-item.result (omega arith) (sym c.item-item.is), items_more) at c.loop-item.invariant.value) c.in_ok-read_condition_in.ensures.value);
  kept = c.in_ok-read_condition_in.ensures.kept ∙ c.loop-item.invariant.kept;
}

pub read_all-returns-clause-value : goal.read_all-returns-clause-value
read_all-returns-clause-value t c = rw c.into_bump_slice.ensures (continues_done (rw (views_end c.args.items.now c.loop-item.item-index (omega arith), items_end) at c.loop-item.invariant.value))

pub read_implication-returns-in_default-clause-value : goal.read_implication-returns-in_default-clause-value
read_implication-returns-in_default-clause-value t c =
    rw (no_two_items (known c.args.declared.now c.args.objects.now.rows.now) c.args.items.now (λ (e : length c.args.items.now ≡ 2). elim c.in_default.branch [ read_implication-in_default-via-then-items-lt2 w ↦ let h = w.if-items-lt2-1 in grind (arith, nat_tests) | read_implication-in_default-via-else-items-lt2+else-items-lt3 w ↦ let h = w.if-items-lt3-1 in grind (arith, nat_tests) ])) c.refused.ensures

pub read_implication-returns-clause-value : goal.read_implication-returns-clause-value
read_implication-returns-clause-value t c =
    rw (two_items (known c.args.declared.now c.args.objects.now.rows.now) c.args.items.now c.one-item.result c.other-item.result (omega arith) c.one-item.is c.other-item.is)
    (paired implied _ _ _ _ _ _ _ _ c.in_ok-condition.ensures c.in_ok-one.ensures.value (rw c.in_ok-one.ensures.kept at c.in_ok-other.ensures.value))

pub read_list-returns-in_default-clause-value : goal.read_list-returns-in_default-clause-value
read_list-returns-in_default-clause-value t c =
    rw (sym c.in-Not.ensures, no_one_item (known c.args.declared.now c.args.objects.now.rows.now) c.args.items.now (λ (e : length c.args.items.now ≡ 1). elim c.in_default.branch [ read_list-in_default-via-then-items-lt1 w ↦ let h = w.if-items-lt1-1 in grind (arith, nat_tests) | read_list-in_default-via-else-items-lt1+else-items-lt2 w ↦ let h = w.if-items-lt2-1 in grind (arith, nat_tests) ])) c.refused.ensures

pub read_list-returns-in_ok-condition-in-Not-clause-value : goal.read_list-returns-in_ok-condition-in-Not-clause-value
read_list-returns-in_ok-condition-in-Not-clause-value t c =
    rw (sym c.in-Not.ensures, one_item (known c.args.declared.now c.args.objects.now.rows.now) c.args.items.now c.inner-item.result (omega arith) c.inner-item.is)
    (mapped Not _ _ _ _ _ c.in_ok-condition-in-Not.ensures c.in_ok-inner-in-Not.ensures.value)

pub read_quantified-returns-in_default-clause-value : goal.read_quantified-returns-in_default-clause-value
read_quantified-returns-in_default-clause-value t c =
    rw (no_two_items (known c.args.declared.now c.args.objects.now.rows.now) c.args.items.now (λ (e : length c.args.items.now ≡ 2). elim c.in_default.branch [ read_quantified-in_default-via-then-items-lt2 w ↦ let h = w.if-items-lt2-1 in grind (arith, nat_tests) | read_quantified-in_default-via-else-items-lt2+else-items-lt3 w ↦ let h = w.if-items-lt3-1 in grind (arith, nat_tests) ])) c.refused.ensures

pub read_quantified-returns-clause-value : goal.read_quantified-returns-clause-value
read_quantified-returns-clause-value t c =
    rw (two_items (known c.args.declared.now c.args.objects.now.rows.now) c.args.items.now c.variables-item.result c.body-item.result (omega arith) c.variables-item.is c.body-item.is)
    (quantified_is c.args.every _ _ _ _ _ _ (variables_read (known c.args.declared.now c.args.objects.now.rows.now).types (view c.variables-item.result)) (condition_read (known c.args.declared.now c.args.objects.now.rows.now) (view c.body-item.result)) _ _ c.in_ok-condition.ensures c.in_ok-kinds.ensures.kinds c.in_ok-kinds.ensures.scope c.in_ok-inner.ensures.value)
