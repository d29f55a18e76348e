use Rattle.std.proofs.Common.{ℕ, ◌+◌, List, ◌∙◌, ◌++◌, ap, sym, map, take, drop, true, false, arith}
use Rattle.std.proofs.lemmas.List.{take-map}
use Rattle.stp_base.specs.declared.ids.ObjectId.{ObjectId}
use Rattle.stp_instance.specs.Bindings.{numbers_of, objects_of}
use Rattle.stp_instance.specs.Expanded.{Stated}
use Rattle.stp_instance.specs.Numbered.{is_fluent, is_in}
use Rattle.stp_instance.specs.Typing.{objects_in}
use Rattle.stp_kept.specs.Settled.{joint_of, settled}
use Rattle.stp_kept.proofs.SettledValues.{value_under, of_atom, of_and, of_or, of_every, of_any, joint_more, joint_final, binding_more}
use Rattle.stp_kept.proofs.settling.+settle.Goals as goal

pub settle-returns-in_ok-value-in-Atom-clause-value : goal.settle-returns-in_ok-value-in-Atom-clause-value
settle-returns-in_ok-value-in-Atom-clause-value t c =
    let fluent = is_fluent c.args.statics.now.fluent.now in
    let known = is_in c.args.statics.now.facts.now in
    c.in_ok-value-in-Atom.ensures
    ∙ ap (λ l. settled fluent known (Stated (record { predicate = c.in-Atom.atom.symbol; args = objects_of (numbers_of l) c.in-Atom.atom.terms.now }))) c.deref.ensures.value
    ∙ of_atom fluent known (objects_in c.args.members.now) (numbers_of c.args.binding.now.items) c.args.cond.now c.in-Atom.atom c.in-Atom.is

pub settle-returns-in_ok-value-in-And-clause-value : goal.settle-returns-in_ok-value-in-And-clause-value
settle-returns-in_ok-value-in-And-clause-value t c =
    c.in_ok-value-in-And.ensures.value
    ∙ of_and (is_fluent c.args.statics.now.fluent.now) (is_in c.args.statics.now.facts.now) (objects_in c.args.members.now) (numbers_of c.args.binding.now.items) c.args.cond.now c.in-And.parts c.in-And.is

pub settle-returns-in_ok-value-in-Or-clause-value : goal.settle-returns-in_ok-value-in-Or-clause-value
settle-returns-in_ok-value-in-Or-clause-value t c =
    c.in_ok-value-in-Or.ensures.value
    ∙ of_or (is_fluent c.args.statics.now.fluent.now) (is_in c.args.statics.now.facts.now) (objects_in c.args.members.now) (numbers_of c.args.binding.now.items) c.args.cond.now c.in-Or.parts c.in-Or.is

pub settle-returns-in_ok-value-in-Every-clause-value : goal.settle-returns-in_ok-value-in-Every-clause-value
settle-returns-in_ok-value-in-Every-clause-value t c =
    let fluent = is_fluent c.args.statics.now.fluent.now in
    let known = is_in c.args.statics.now.facts.now in
    let binding = numbers_of c.args.binding.now.items in
    c.in_ok-value-in-Every.ensures.value
    ∙ ap (λ m. joint_of true (map (λ objects. value_under fluent known (objects_in m) (binding ++ objects) c.in-Every.body.now) c.in_ok-left-in-Every.left)) c.in_ok-left-in-Every.ensures.same
    ∙ ap (λ l. joint_of true (map (λ objects. value_under fluent known (objects_in c.args.members.now) (binding ++ objects) c.in-Every.body.now) l)) c.in_ok-left-in-Every.ensures.bindings
    ∙ of_every fluent known (objects_in c.args.members.now) binding c.args.cond.now c.in-Every.kinds c.in-Every.body c.in-Every.is

pub settle-returns-in_ok-value-in-Any-clause-value : goal.settle-returns-in_ok-value-in-Any-clause-value
settle-returns-in_ok-value-in-Any-clause-value t c =
    let fluent = is_fluent c.args.statics.now.fluent.now in
    let known = is_in c.args.statics.now.facts.now in
    let binding = numbers_of c.args.binding.now.items in
    c.in_ok-value-in-Any.ensures.value
    ∙ ap (λ m. joint_of false (map (λ objects. value_under fluent known (objects_in m) (binding ++ objects) c.in-Any.body.now) c.in_ok-left-in-Any.left)) c.in_ok-left-in-Any.ensures.same
    ∙ ap (λ l. joint_of false (map (λ objects. value_under fluent known (objects_in c.args.members.now) (binding ++ objects) c.in-Any.body.now) l)) c.in_ok-left-in-Any.ensures.bindings
    ∙ of_any fluent known (objects_in c.args.members.now) binding c.args.cond.now c.in-Any.kinds c.in-Any.body c.in-Any.is

pub settle_all-loop-cond-preserved : goal.settle_all-loop-cond-preserved
settle_all-loop-cond-preserved t c =
    let i = c.loop-cond.invariant in
    let value = value_under (is_fluent c.args.statics.now.fluent.now) (is_in c.args.statics.now.facts.now) (objects_in c.args.members.now) (numbers_of c.args.binding.now.items) in
    record {
      value = joint_more value c.args.all c.args.conds.now c.loop-cond.cond-index c.cond-item.result c.loop-cond.so_far c.in_ok-value.value c.joined-so_far.result (joint_of c.args.all (map value c.args.conds.now)) (omega arith) c.cond-item.is
          (c.in_ok-value.ensures.value ∙ ap (λ m. value_under (is_fluent c.args.statics.now.fluent.now) (is_in c.args.statics.now.facts.now) (objects_in m) (numbers_of c.loop-cond.binding.items) c.cond-item.result) i.members ∙ ap (λ b. value_under (is_fluent c.args.statics.now.fluent.now) (is_in c.args.statics.now.facts.now) (objects_in c.args.members.now) b c.cond-item.result) i.binding)
          c.joined-so_far.ensures i.value;
      binding = c.in_ok-value.ensures.binding ∙ i.binding;
      members = c.in_ok-value.ensures.members ∙ i.members;
    }

pub settle_all-returns-then-is_final-clause-value : goal.settle_all-returns-then-is_final-clause-value
settle_all-returns-then-is_final-clause-value t c =
    let i = c.loop-cond.invariant in
    let value = value_under (is_fluent c.args.statics.now.fluent.now) (is_in c.args.statics.now.facts.now) (objects_in c.args.members.now) (numbers_of c.args.binding.now.items) in
    joint_final value c.args.all (drop (c.loop-cond.cond-index + 1) c.args.conds.now) c.joined-so_far.result (joint_of c.args.all (map value c.args.conds.now))
    (c.is_final.ensures c.if-is_final.true)
    (joint_more value c.args.all c.args.conds.now c.loop-cond.cond-index c.cond-item.result c.loop-cond.so_far c.in_ok-value.value c.joined-so_far.result (joint_of c.args.all (map value c.args.conds.now)) (omega arith) c.cond-item.is
    (c.in_ok-value.ensures.value ∙ ap (λ m. value_under (is_fluent c.args.statics.now.fluent.now) (is_in c.args.statics.now.facts.now) (objects_in m) (numbers_of c.loop-cond.binding.items) c.cond-item.result) i.members ∙ ap (λ b. value_under (is_fluent c.args.statics.now.fluent.now) (is_in c.args.statics.now.facts.now) (objects_in c.args.members.now) b c.cond-item.result) i.binding)
    c.joined-so_far.ensures i.value)

pub settle_with-returns-clause-binding : goal.settle_with-returns-clause-binding
settle_with-returns-clause-binding t c =
    ap numbers_of c.truncate.ensures.items ∙ sym (take-map (λ (o : ObjectId). o.0) c.args.mark c.settle.new.binding.items) ∙ ap (take c.args.mark) c.in_ok-value.ensures.binding

pub settle_under-returns-then-is_final-clause-value : goal.settle_under-returns-then-is_final-clause-value
settle_under-returns-then-is_final-clause-value t c =
    let i = c.turns.invariant in
    let fluent = is_fluent c.args.statics.now.fluent.now in
    let known = is_in c.args.statics.now.facts.now in
    let binding = numbers_of c.args.binding.now.items in
    let value = λ (objects : List ℕ). value_under fluent known (objects_in c.args.members.now) objects c.args.body.now in
    joint_final (λ (objects : List ℕ). value (binding ++ objects)) c.args.all c.next.new.self c.joined-so_far.result (joint_of c.args.all (map (λ objects. value (binding ++ objects)) c.args.left.now))
    (c.is_final.ensures c.if-is_final.true)
    (binding_more value c.args.all c.in_ok-next.field-0 c.turns.left c.next.new.self (numbers_of c.turns.binding.items) binding (numbers_of c.next.new.binding.items) c.turns.so_far c.in_ok-value.value c.joined-so_far.result (joint_of c.args.all (map (λ objects. value (binding ++ objects)) c.args.left.now))
    c.in_ok-next.ensures c.if-branch.true i.binding
    (c.in_ok-value.ensures.value ∙ ap (λ m. value_under fluent known (objects_in m) (numbers_of c.next.new.binding.items) c.args.body.now) i.members)
    c.joined-so_far.ensures i.value)
