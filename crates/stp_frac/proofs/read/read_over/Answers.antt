use Rattle.std.proofs.Common.{◌≤◌, ◌^◌, length, arith}
use Rattle.std.proofs.Math.Nat.{pow-le-pow_right}
use Rattle.stp_frac.proofs.read.read_over.Goals as goal

pub lowest-requires-clause-size : goal.lowest-requires-clause-size
lowest-requires-clause-size c =
    let few : length c.args.before.now ≤ 18 = omega arith in
    let le : 10 ^ length c.args.before.now ≤ 10 ^ 18 = pow-le-pow_right (omega arith) few in
    omega (arith, c.digits_value.ensures.size, le)
