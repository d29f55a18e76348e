use Rattle.std.proofs.Common.{ℕ, ◌+◌, ◌/◌, ◌<◌, List, ◌++◌, sym, ◌∙◌, ap, decimal, length, arith}
use Rattle.std.proofs.lemmas.Fmt.{decimal_digit}
use Rattle.stp_frac.proofs.Decimals.{digit_moved, length_with_digits}
use Rattle.stp_frac.proofs.tail.Tail.put_number.Goals as goal

pub put-requires : goal.put-requires
put-requires c =
    let h : length c.loop-rest.self < length c.args.self.now + 18
    = length_with_digits c.loop-rest.rest c.args.number c.loop-rest.self c.args.self.now c.loop-rest.invariant.size c.requires.size c.loop-rest.invariant.text in
    omega arith

pub put-requires-2 : goal.put-requires-2
put-requires-2 c =
    let h : length c.loop-rest.self < length c.args.self.now + 18
    = length_with_digits c.loop-rest.rest c.args.number c.loop-rest.self c.args.self.now c.loop-rest.invariant.size c.requires.size c.loop-rest.invariant.text in
    omega arith

pub loop-rest-preserved : goal.loop-rest-preserved
loop-rest-preserved c = record {
  size = omega arith;
  text = ap (λ (t : List ℕ). decimal (c.loop-rest.rest / 10) ++ t) c.put.ensures ∙ digit_moved c.loop-rest.rest c.loop-rest.self c.loop-rest-test.true c.loop-rest.invariant.size ∙ c.loop-rest.invariant.text;
}

pub returns-clause-text : goal.returns-clause-text
returns-clause-text c =
    c.put-2.ensures ∙ sym (ap (λ (ds : List ℕ). ds ++ c.loop-rest.self) (decimal_digit c.loop-rest.rest c.loop-rest-test.false)) ∙ c.loop-rest.invariant.text

pub returns-clause-short : goal.returns-clause-short
returns-clause-short c =
    let h : length c.loop-rest.self < length c.args.self.now + 18
    = length_with_digits c.loop-rest.rest c.args.number c.loop-rest.self c.args.self.now c.loop-rest.invariant.size c.requires.size c.loop-rest.invariant.text in
    rw c.put-2.ensures (omega arith)
