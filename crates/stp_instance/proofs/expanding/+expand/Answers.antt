use Rattle.std.proofs.Common.{◌++◌, ◌∙◌, ap, sym, map}
use Rattle.std.proofs.lemmas.List.{length-map}
use Rattle.stp_schema.specs.Formula.{formula}
use Rattle.stp_instance.specs.Bindings.{numbers_of, objects_of}
use Rattle.stp_instance.specs.Expanded.{bindings_of, expanded}
use Rattle.stp_instance.specs.Typing.{objects_in}
use Rattle.stp_instance.specs.Views.{claim}
use Rattle.stp_instance.proofs.Claims.{of_atom, of_not, of_and, of_or, of_every, of_any}
use Rattle.stp_instance.proofs.Instances.{one_more, as_before}
use Rattle.stp_instance.proofs.expanding.+expand.Goals as goal

pub expand-returns-in_ok-args-in-Atom-clause-ground : goal.expand-returns-in_ok-args-in-Atom-clause-ground
expand-returns-in_ok-args-in-Atom-clause-ground t c = of_atom (objects_in c.args.members.now) (numbers_of c.args.binding.now.items) c.args.cond.now c.in-Atom.atom c.in_ok-args-in-Atom.args c.in-Atom.is (c.in_ok-args-in-Atom.ensures ∙ ap (λ l. objects_of (numbers_of l) c.in-Atom.atom.terms.now) c.deref.ensures.value)

pub expand-returns-in_ok-inner-in-Not-2-clause-ground : goal.expand-returns-in_ok-inner-in-Not-2-clause-ground
expand-returns-in_ok-inner-in-Not-2-clause-ground t c = of_not (objects_in c.args.members.now) (numbers_of c.args.binding.now.items) c.args.cond.now c.in-Not.inner _ c.in-Not.is (ap claim c.in_ok-inner-in-Not-2.ensures ∙ c.in_ok-inner-in-Not.ensures.ground)

pub expand-returns-in_ok-parts-in-And-clause-ground : goal.expand-returns-in_ok-parts-in-And-clause-ground
expand-returns-in_ok-parts-in-And-clause-ground t c = of_and (objects_in c.args.members.now) (numbers_of c.args.binding.now.items) c.args.cond.now c.in-And.parts c.in_ok-parts-in-And.parts c.in-And.is c.in_ok-parts-in-And.ensures.ground

pub expand-returns-in_ok-parts-in-Or-clause-ground : goal.expand-returns-in_ok-parts-in-Or-clause-ground
expand-returns-in_ok-parts-in-Or-clause-ground t c = of_or (objects_in c.args.members.now) (numbers_of c.args.binding.now.items) c.args.cond.now c.in-Or.parts c.in_ok-parts-in-Or.parts c.in-Or.is c.in_ok-parts-in-Or.ensures.ground

pub expand-returns-in_ok-parts-in-Every-clause-ground : goal.expand-returns-in_ok-parts-in-Every-clause-ground
expand-returns-in_ok-parts-in-Every-clause-ground t c = of_every (objects_in c.args.members.now) (numbers_of c.args.binding.now.items) c.args.cond.now c.in-Every.kinds c.in-Every.body c.in_ok-parts-in-Every.parts c.in-Every.is c.in_ok-parts-in-Every.ensures.ground

pub expand-returns-in_ok-parts-in-Any-clause-ground : goal.expand-returns-in_ok-parts-in-Any-clause-ground
expand-returns-in_ok-parts-in-Any-clause-ground t c = of_any (objects_in c.args.members.now) (numbers_of c.args.binding.now.items) c.args.cond.now c.in-Any.kinds c.in-Any.body c.in_ok-parts-in-Any.parts c.in-Any.is c.in_ok-parts-in-Any.ensures.ground

pub instances-loop-out-preserved : goal.instances-loop-out-preserved
instances-loop-out-preserved t c =
    let i = c.loop-out.invariant in
    let below = objects_in c.args.members.now in
    let binding = numbers_of c.args.binding.now.items in
    let bound = numbers_of c.next.new.binding.items in
    let body = formula c.args.body.now in
    record {
      ground =
          ap (λ l. map claim l ++ map (λ objects. expanded below (binding ++ objects) body) c.next.new.self) c.in_ok-push.ensures.items
          ∙ one_more (λ b. expanded below b body) c.loop-out.out.items c.in_ok-expand.field-0 c.in_ok-next.field-0 c.loop-out.left c.next.new.self (numbers_of c.loop-out.binding.items) binding bound (map (λ objects. expanded below (binding ++ objects) body) (bindings_of below c.args.kinds.now))
          c.in_ok-next.ensures c.if-branch.true i.binding (c.in_ok-expand.ensures.ground ∙ ap (λ m. expanded (objects_in m) bound body) i.members) i.ground;
      binding =
          ap numbers_of c.truncate.ensures.items
          ∙ as_before c.len-mark.result c.expand.new.binding.items c.in_ok-next.field-0 c.loop-out.left c.next.new.self (numbers_of c.loop-out.binding.items) binding bound
          c.in_ok-next.ensures c.if-branch.true i.binding c.in_ok-expand.ensures.binding (i.mark ∙ sym (length-map c.args.binding.now.items (λ o. o.0)));
      members = c.in_ok-expand.ensures.members ∙ i.members;
      mark = i.mark;
    }
