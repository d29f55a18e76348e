use Rattle.std.proofs.Common.{arith}
use Rattle.stp_condition.proofs.Scopes.{IsReady, made_ready, is_ready, worded, pushed_after}
use Rattle.stp_condition.proofs.scope.Scope.push.Goals as goal
use Rattle.stp_condition.proofs.scope.Scope.push.Goals.{then-len+in_ok-push, else-len}

pub invariant_of-self-in_err-word : goal.invariant_of-self-in_err-word
invariant_of-self-in_err-word c =
    let ready : IsReady c.self.inside.variables.items c.if-len.self-inside.variables.items c.if-len.self-inside.words c.if-len.self-inside.latest.items = elim c.if-len.branch [
      | then-len+in_ok-push w ↦ rw (w.self-inside-is, w.in_ok-push.ensures.items) (made_ready _ _ _ c.self.invariant)
      | else-len w ↦ rw w.self-inside-is (is_ready _ _ _ c.self.invariant (λ e. w.if-len.false (omega (arith, e))))
    ] in
    rw c.in_err-word.ensures.err ready.scope

pub invariant_of-self-in_err-push-2 : goal.invariant_of-self-in_err-push-2
invariant_of-self-in_err-push-2 c =
    let ready : IsReady c.self.inside.variables.items c.if-len.self-inside.variables.items c.if-len.self-inside.words c.if-len.self-inside.latest.items = elim c.if-len.branch [
      | then-len+in_ok-push w ↦ rw (w.self-inside-is, w.in_ok-push.ensures.items) (made_ready _ _ _ c.self.invariant)
      | else-len w ↦ rw w.self-inside-is (is_ready _ _ _ c.self.invariant (λ e. w.if-len.false (omega (arith, e))))
    ] in
    rw (c.in_err-push-2.ensures.items, c.in_ok-word.ensures.names) (worded _ _ _ c.args.name.now ready.scope ready.space)

pub invariant_of-self-2 : goal.invariant_of-self-2
invariant_of-self-2 c =
    let ready : IsReady c.self.inside.variables.items c.if-len.self-inside.variables.items c.if-len.self-inside.words c.if-len.self-inside.latest.items = elim c.if-len.branch [
      | then-len+in_ok-push w ↦ rw (w.self-inside-is, w.in_ok-push.ensures.items) (made_ready _ _ _ c.self.invariant)
      | else-len w ↦ rw w.self-inside-is (is_ready _ _ _ c.self.invariant (λ e. w.if-len.false (omega (arith, e))))
    ] in
    pushed_after _ _ _ _ _ _ (record { name = c.args.name; word = c.in_ok-word.word; kind = c.args.kind; hidden = c.index-hidden.result.now }) _ ready c.in_ok-word.ensures.names c.in_ok-push-2.ensures.items (omega arith) (omega arith) c.in_ok-word.ensures.number c.index-hidden.ensures
