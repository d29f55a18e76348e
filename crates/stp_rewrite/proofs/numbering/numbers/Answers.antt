use Rattle.std.proofs.Common.{◌++◌, ◌∷◌, [], ◌+◌, ap, ap₂, ◌∙◌, sym}
use Rattle.stp_cond.specs.Truth.{state_of_row}
use Rattle.stp_rewrite.specs.Rows.{numbers_if, passing_below}
use Rattle.stp_rewrite.specs.Views.{number_of, after_number}
use Rattle.stp_rewrite.proofs.Numbers.{numbers_more, passing_more}
use Rattle.stp_rewrite.proofs.numbering.numbers.Goals as goal

pub loop-number-preserved : goal.loop-number-preserved
loop-number-preserved c =
    let test = state_of_row c.args.marked.now in
    let i = c.loop-number.invariant in
    record {
      row = c.in_ok-add_number.ensures.row ∙ (ap₂ (λ l n. l ++ number_of c.get.result n ∷ []) i.row i.next
          ∙ (ap (λ b. numbers_if test c.args.next.now c.loop-number.number ++ number_of b (c.args.next.now + passing_below test c.loop-number.number) ∷ []) c.get.ensures ∙ sym (numbers_more test c.args.next.now c.loop-number.number)));
      next = c.in_ok-add_number.ensures.next ∙ (ap₂ after_number c.get.ensures i.next ∙ passing_more test c.args.next.now c.loop-number.number);
    }
