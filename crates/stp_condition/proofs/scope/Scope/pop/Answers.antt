use Rattle.std.proofs.Common.{◌<◌, length, arith}
use Rattle.stp_condition.proofs.Scopes.{popped, popped_within}
use Rattle.stp_condition.proofs.scope.Scope.pop.Goals as goal

pub index_mut-requires : goal.index_mut-requires
index_mut-requires c =
    let h : c.in-Some.variable.word < length c.self.inside.latest.items = popped_within c.pop.new.self.items c.self.inside.words c.self.inside.latest.items c.in-Some.variable (rw c.in-Some.ensures.items at c.self.invariant) in
    omega (arith, h, c.self.inside.latest.ok)

pub invariant_of-self : goal.invariant_of-self
invariant_of-self c = popped c.pop.new.self.items c.self.inside.words c.self.inside.latest.items c.in-Some.variable (rw c.in-Some.ensures.items at c.self.invariant)
