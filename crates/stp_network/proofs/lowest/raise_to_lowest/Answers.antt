-- Each pass that moves a point makes the sum greater, and times stay below some that are low; after the last pass all edges are met.
use Rattle.std.proofs.Common.{◌≡◌, ◌≤◌, ◌+◌, ◌*◌, ◌^◌, ℕ, get_or, length, sum, ap, arith}
use Rattle.stp_network.specs.Lowest.{growth_of}
use Rattle.stp_network.proofs.Passing.{low_of}
use Rattle.stp_network.proofs.Settling.{sum_capped}
use Rattle.stp_network.proofs.lowest.raise_to_lowest.Goals as goal

pub loop-smaller : goal.loop-smaller
loop-smaller c =
    let capped : (p : ℕ) → get_or c.pass.new.row p 0 ≤ get_or c.args.row.now p 0 + 2 ^ 126 =
    λ p. omega (arith, low_of c.args.grid c.args.edges.now c.pass.new.row (2 ^ 126) p c.pass.ensures.below c.requires.times) in
    let most : sum c.pass.new.row ≤ sum c.args.row.now + length c.args.row.now * 2 ^ 126 =
    sum_capped c.pass.new.row c.args.row.now (2 ^ 126) (omega arith) capped in
    let rise : growth_of c.pass.result ≡ 1 = ap growth_of c.loop-test.true in
    omega (arith, c.pass.ensures.sum)

pub returns-clause-solves : goal.returns-clause-solves
returns-clause-solves c = record {
  origin = omega (arith, c.pass.ensures.below.least c.requires.times.0 c.requires.times.1 0, c.requires.times.1.origin);
  met = c.pass.ensures.met c.loop-test.false;
}
