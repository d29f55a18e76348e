use Rattle.std.proofs.Common.{◌++◌, ap, sym, ◌∙◌}
use Rattle.stp_cond.specs.Decided.{three_of}
use Rattle.stp_instance.specs.Bindings.{numbers_of, objects_of}
use Rattle.stp_instance.specs.Numbered.{is_fluent, is_in}
use Rattle.stp_kept.proofs.SettledValues.{static_value}
use Rattle.stp_kept.proofs.settling.settle_atom.Goals as goal

pub returns : goal.returns
returns c =
    let facts = c.args.statics.now.facts.now in
    let atom = c.args.atom.now in
    static_value (is_fluent c.args.statics.now.fluent.now atom.symbol) (three_of (is_in facts (record { predicate = atom.symbol; args = objects_of (numbers_of c.args.binding.now) atom.terms.now }))) c.settle_fact.result
    (sym c.if-is_fluent.ensures)
    (c.settle_fact.ensures ∙ ap (λ l. three_of (is_in facts (record { predicate = atom.symbol; args = l }))) (ap numbers_of c.deref.ensures.value ∙ c.in_ok-put_objects.ensures ∙ ap (λ l. numbers_of l ++ objects_of (numbers_of c.args.binding.now) atom.terms.now) c.in_ok-args.ensures.items))
