use Rattle.std.proofs.Common.{◌≡◌, sym, ap, ◌∙◌, arith, length, take, drop, ◌+◌, ◌-◌}
use Rattle.std.proofs.lemmas.Bool.Decides.{nat_tests}
use Rattle.stp_text.specs.Tree.{view, views}
use Rattle.stp_text.proofs.Equations.{view_word}
use Rattle.stp_text.proofs.Items.{view_empty, view_listed, view_headed}
use Rattle.stp_refusal.proofs.Reading.{mapped, paired as paired_reads}
use Rattle.stp_schema.specs.Known.{known}
use Rattle.stp_schema.specs.Expression.{expression}
use Rattle.stp_schema.proofs.Equations.{expression_value}
use Rattle.stp_body.specs.Expressions.{value_of_atom, negated, joined, expression_read, each_read}
use Rattle.stp_body.specs.declared.join.Join.TheVariants as joins
use Rattle.stp_body.proofs.Equations.{says_word, says_none, says_listed, says_list, each_at, each_past, each_head, each_none, each_one, each_two, paired_wrong, subtracted_many, chained_more, other_keys, joining_next, joining_done, joining_first}
use Rattle.stp_body.proofs.expression.+expressions.Goals as goal
use Rattle.stp_body.proofs.expression.+expressions.Goals.{read_pair-in_default-via-then-items-lt2, read_pair-in_default-via-else-items-lt2+else-items-lt3, read_difference-in_default-via-then-items-lt1, read_difference-in_default-via-else-items-lt1+else-items-lt2}

pub read_expression-returns-in-Word : goal.read_expression-returns-in-Word
read_expression-returns-in-Word t c = rw (c.in-Word.is, view_word, says_word) c.read_number.ensures

pub read_expression-returns-in_default : goal.read_expression-returns-in_default
read_expression-returns-in_default t c = rw (view_empty _ _ _ c.in-Items.is c.in_default.len_below, says_none) c.refused.ensures

pub read_expression-returns-in-Items-head : goal.read_expression-returns-in-Items-head
read_expression-returns-in-Items-head t c =
    rw (view_listed _ _ _ _ _ _ c.in-Items.is c.in-len1-up.len_at_least c.head-item.is c.in-Items-head.is, says_listed) c.refused-in-Items-head.ensures

pub read_expression-returns-in_ok-atom-in-Symbol : goal.read_expression-returns-in_ok-atom-in-Symbol
read_expression-returns-in_ok-atom-in-Symbol t c =
    rw (view_headed _ _ _ _ _ _ c.in-Items.is c.in-len1-up.len_at_least c.head-item.is c.in-Word-head.is, says_list, sym c.in-Symbol.ensures)
    (mapped value_of_atom _ _ _ _ _ (expression_value c.in_ok-atom-in-Symbol.atom) c.in_ok-atom-in-Symbol.ensures)

pub read_expression-returns-in_ok-value-in-Arithmetic : goal.read_expression-returns-in_ok-value-in-Arithmetic
read_expression-returns-in_ok-value-in-Arithmetic t c =
    rw (view_headed _ _ _ _ _ _ c.in-Items.is c.in-len1-up.len_at_least c.head-item.is c.in-Word-head.is, says_list, sym c.in-Arithmetic.ensures)
    c.in_ok-value-in-Arithmetic.ensures

pub read_expression-returns-in_default-key_of : goal.read_expression-returns-in_default-key_of
read_expression-returns-in_default-key_of t c =
    rw (
      view_headed _ _ _ _ _ _ c.in-Items.is c.in-len1-up.len_at_least c.head-item.is c.in-Word-head.is,
      says_list,
      sym c.key_of.ensures,
      other_keys c.key_of.result (known c.args.declared.now c.args.objects.now.rows.now) c.args.scope.now c.in-Items.at c.in-Word-head.text.now _ _ c.in_default-key_of.not-Arithmetic c.in_default-key_of.not-Symbol,
    )
    c.refused-in_default-key_of.ensures

pub read_pair-returns-in_default : goal.read_pair-returns-in_default
read_pair-returns-in_default t c =
    rw (paired_wrong (known c.args.declared.now c.args.objects.now.rows.now) c.args.scope.now c.args.operator c.args.at c.args.items.now
    (λ (e : length c.args.items.now ≡ 2). elim c.in_default.branch [
      | read_pair-in_default-via-then-items-lt2 w ↦ let h = w.if-items-lt2-1 in grind (arith, nat_tests)
      | read_pair-in_default-via-else-items-lt2+else-items-lt3 w ↦ let h = w.if-items-lt3-1 in grind (arith, nat_tests)
    ]))
    c.refused.ensures

pub read_pair-returns : goal.read_pair-returns
read_pair-returns t c =
    rw (each_two (known c.args.declared.now c.args.objects.now.rows.now) c.args.scope.now c.args.items.now c.one-item.result c.other-item.result (omega arith) c.one-item.is c.other-item.is)
    (paired_reads (joined c.args.operator) _ _ _ _ _ _ _ _ c.in_ok-value.ensures c.in_ok-one.ensures c.in_ok-other.ensures)

pub read_difference-returns-in_default : goal.read_difference-returns-in_default
read_difference-returns-in_default t c =
    rw (subtracted_many (known c.args.declared.now c.args.objects.now.rows.now) c.args.scope.now c.args.at c.args.items.now
    (λ (e : length c.args.items.now ≡ 1). elim c.in_default.branch [
      | read_difference-in_default-via-then-items-lt1 w ↦ let h = w.if-items-lt1-1 in grind (arith, nat_tests)
      | read_difference-in_default-via-else-items-lt1+else-items-lt2 w ↦ let h = w.if-items-lt2-1 in grind (arith, nat_tests)
    ]))
    c.in_ok-value.ensures

pub read_difference-returns : goal.read_difference-returns
read_difference-returns t c =
    rw (each_one (known c.args.declared.now c.args.objects.now.rows.now) c.args.scope.now c.args.items.now c.one-item.result (omega arith) c.one-item.is)
    (mapped negated _ _ _ _ _ (c.in_ok-value-2.ensures ∙ ap (λ z. joined joins.Difference z (expression c.in_ok-one.one)) c.zero.ensures) c.in_ok-one.ensures)

pub read_chain-returns-in_default : goal.read_chain-returns-in_default
read_chain-returns-in_default t c = rw (each_none (known c.args.declared.now c.args.objects.now.rows.now) c.args.scope.now c.args.items.now c.in_default.len_below) c.refused.ensures

pub read_chain-returns-then-rest-eq0 : goal.read_chain-returns-then-rest-eq0
read_chain-returns-then-rest-eq0 t c =
    let k = known c.args.declared.now c.args.objects.now.rows.now in
    rw (
      each_head k c.args.scope.now c.args.items.now c.head-item.result c.in-len1-up.len_at_least c.head-item.is,
      each_none k c.args.scope.now (take (length c.args.items.now - 1) (drop 1 c.args.items.now)) (let e = c.if-rest-eq0.true in omega (arith, e)),
    )
    c.refused-then-rest-eq0.ensures

pub read_chain-loop-item-init : goal.read_chain-loop-item-init
read_chain-loop-item-init t c =
    let k = known c.args.declared.now c.args.objects.now.rows.now in
    let rest = take (length c.args.items.now - 1) (drop 1 c.args.items.now) in
    rw (
      each_head k c.args.scope.now c.args.items.now c.head-item.result c.in-len1-up.len_at_least c.head-item.is,
      chained_more k c.args.scope.now c.args.operator c.args.at (expression_read k c.args.scope.now (view c.head-item.result)) rest (let e = c.if-rest-eq0.false in omega (arith, e)),
    )
    (joining_first c.args.operator _ _ _ (expression_read k c.args.scope.now (view c.head-item.result)) (each_read k c.args.scope.now (views rest)) c.in_ok-value.ensures)

pub read_chain-loop-item-preserved : goal.read_chain-loop-item-preserved
read_chain-loop-item-preserved t c =
    let k = known c.args.declared.now c.args.objects.now.rows.now in
    let rest = take (length c.args.items.now - 1) (drop 1 c.args.items.now) in
    joining_next c.args.operator _ _ _ _ _ _ (expression_read k c.args.scope.now (view c.item-item.result)) (each_read k c.args.scope.now (views (drop (c.loop-item.item-index + 1) rest))) _
    (rw (each_at k c.args.scope.now rest c.loop-item.item-index c.item-item.result (omega arith) (sym c.item-item.is)) at c.loop-item.invariant)
    c.in_ok-other.ensures c.in_ok-value-2.ensures

pub read_chain-returns : goal.read_chain-returns
read_chain-returns t c =
    let k = known c.args.declared.now c.args.objects.now.rows.now in
    let rest = take (length c.args.items.now - 1) (drop 1 c.args.items.now) in
    joining_done c.args.operator _ _ _ _ (rw (each_past k c.args.scope.now rest c.loop-item.item-index (omega arith)) at c.loop-item.invariant)
