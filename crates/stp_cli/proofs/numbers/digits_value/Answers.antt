use Rattle.std.proofs.Common.{ℕ, ◌<◌, ◌≤◌, ◌^◌, length, arith}
use Rattle.std.proofs.Math.Nat.{pow-le-pow_right}
use Rattle.stp_cli.proofs.numbers.digits_value.Goals as goal

-- a number of fewer than 8 digits, where another digit is to come
before_last : (value place count : ℕ) → value < 10 ^ place → place < count → count ≤ 8 → value < 10000000
before_last value place count size within few =
    let seven : place ≤ 7 = omega (arith, within, few) in
    let le : 10 ^ place ≤ 10 ^ 7 = pow-le-pow_right (omega arith) seven in
    omega (arith, le, size)

pub overflow_mul-value : goal.overflow_mul-value
overflow_mul-value c = let small = before_last c.loop-digit.value c.loop-digit.digit-index (length c.args.digits.now) c.loop-digit.invariant.size c.loop-digit-test.true c.requires.few in omega (arith, small)

pub overflow_add-value : goal.overflow_add-value
overflow_add-value c =
    let small = before_last c.loop-digit.value c.loop-digit.digit-index (length c.args.digits.now) c.loop-digit.invariant.size c.loop-digit-test.true c.requires.few in
    let digit = c.type_inv.digits c.loop-digit.digit-index in
    omega (arith, small, digit, c.from.ensures)
