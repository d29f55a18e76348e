use Rattle.std.proofs.Common.{◌≡◌, arith, length}
use Rattle.std.proofs.lemmas.Bool.Decides.{nat_tests}
use Rattle.stp_text.specs.Tree.{views}
use Rattle.stp_text.proofs.Items.{no_two}
use Rattle.stp_refusal.proofs.Reading.{paired}
use Rattle.stp_schema.specs.Formula.{Same}
use Rattle.stp_schema.specs.Known.{known}
use Rattle.stp_schema.proofs.Equations.{formula_same}
use Rattle.stp_condition.proofs.ReadingConditions.{two_words, of_words}
use Rattle.stp_condition.proofs.condition.read_equality.Goals as goal
use Rattle.stp_condition.proofs.condition.read_equality.Goals.{in_default-via-then-items-lt2, in_default-via-else-items-lt2+else-items-lt3}

pub returns-in_default : goal.returns-in_default
returns-in_default c =
    rw (of_words (known c.args.declared.now c.args.objects.now.rows.now) c.args.scope.now c.args.at (views c.args.items.now) c.if-has_list.ensures, no_two c.args.items.now (λ (e : length c.args.items.now ≡ 2). elim c.in_default.branch [ in_default-via-then-items-lt2 w ↦ let h = w.if-items-lt2-1 in grind (arith, nat_tests) | in_default-via-else-items-lt2+else-items-lt3 w ↦ let h = w.if-items-lt3-1 in grind (arith, nat_tests) ]))
    c.refused-in_default.ensures

pub returns : goal.returns
returns c =
    rw (of_words (known c.args.declared.now c.args.objects.now.rows.now) c.args.scope.now c.args.at (views c.args.items.now) c.if-has_list.ensures, two_words c.args.items.now c.one-item.result c.other-item.result (omega arith) c.one-item.is c.other-item.is)
    (paired Same _ _ _ _ _ _ _ _ (formula_same _ _) c.read_term-one.ensures c.read_term-other.ensures)
