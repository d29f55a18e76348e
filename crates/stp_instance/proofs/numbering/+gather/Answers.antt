use Rattle.std.proofs.Common.{◌∷◌, [], ◌++◌, ◌∙◌, ap, sym, arith}
use Rattle.std.proofs.lemmas.List.{map-append}
use Rattle.stp_cond.specs.Views.{atoms_of}
use Rattle.stp_instance.specs.Numbered.{is_fluent}
use Rattle.stp_instance.proofs.Gathered.{gathered_more, found_one}
use Rattle.stp_instance.proofs.numbering.+gather.Goals as goal

pub loop-member-preserved : goal.loop-member-preserved
loop-member-preserved t c = gathered_more c.args.table.now (is_fluent c.args.fluent.now) c.in-Every.members.now c.loop-member.member-index c.member-item.result (atoms_of c.loop-member.reads.items) _ _ (omega arith) c.member-item.is c.in_ok-gather-in-Every.ensures c.loop-member.invariant

pub returns-in_ok-push-in-Fact : goal.returns-in_ok-push-in-Fact
returns-in_ok-push-in-Fact t c =
    ap atoms_of c.in_ok-push-in-Fact.ensures.items
    ∙ map-append (λ a. a.0) c.args.reads.now.items (c.in-Some.atom ∷ [])
    ∙ ap (λ l. atoms_of c.args.reads.now.items ++ l) (sym (found_one c.args.table.now (is_fluent c.args.fluent.now) c.args.ground.now c.in-Fact.predicate c.in-Fact.args c.in-Some.atom.0 c.in-Fact.is (sym c.if-is_fluent.ensures) (sym c.in-Some.ensures.number)))
