use Rattle.std.proofs.Common.{◌≡◌, ◌∙◌, arith, rules}
use Rattle.std.proofs.lemmas.List.{take_all}
use Rattle.std.proofs.lemmas.List.Sorted.{answers_always}
use Rattle.stp_happen.specs.Times.{time_and_step}
use Rattle.stp_happen.proofs.run_at.in_order.Goals as goal

pub returns-clause-sorted : goal.returns-clause-sorted
returns-clause-sorted c =
    let h = c.in_ok-sort_by_key.ensures.sorted time_and_step (answers_always _ _ _ (λ f a r f' k. search rules)) in
    let read = c.deref-entry-items.result.now in
    let same : c.loop-entry.list ≡ c.sort_by_key.new.self.items = c.loop-entry.invariant ∙ (take_all c.loop-entry.entry-index read (omega arith) ∙ c.deref-entry-items.ensures.value) in
    rw same h
