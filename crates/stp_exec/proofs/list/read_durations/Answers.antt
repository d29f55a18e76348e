use Rattle.std.proofs.Common.{◌==◌, rules, tests, arith, sym, ap, ◌∙◌, length, option_map}
use Rattle.std.proofs.lemmas.Iterator.Consumers.{YieldsList-turn, YieldsList-end, YieldsList-at}
use Rattle.std.proofs.lemmas.Iterator.Splits.{YieldsList-from_slice_split}
use Rattle.std.proofs.lemmas.List.{length_push}
use Rattle.stp_frac.specs.Fractions.{value_of}
use Rattle.stp_exec.proofs.Entries.{so_far_more, no_number, all_read}
use Rattle.stp_exec.proofs.list.read_durations.Goals as goal

pub returns-in_default : goal.returns-in_default
returns-in_default c = λ _.
    let t = YieldsList-turn (YieldsList-at c.into_iter-word-iterator.ensures.into_iter_gives (YieldsList-from_slice_split _ (λ b. b == 44) c.args.text.now c.split-word-items.ensures.rest c.split-word-items.ensures.done c.split-word-items.ensures.closure (λ x b q k. search (rules, tests)))) c.loop-word.yielded _ c.loop-word.yielded_by _ _ c.in-Some.word c.in-Some.is c.next.ensures.steps in
    no_number c.args.text.now (length c.loop-word.yielded) c.in-Some.word.now c.loop-word.durations (sym c.if-is_none_word.ensures) c.loop-word.invariant t
    (sym (ap (option_map value_of) c.in_default.is) ∙ c.number.ensures)

pub loop-word-preserved : goal.loop-word-preserved
loop-word-preserved c =
    let t = YieldsList-turn (YieldsList-at c.into_iter-word-iterator.ensures.into_iter_gives (YieldsList-from_slice_split _ (λ b. b == 44) c.args.text.now c.split-word-items.ensures.rest c.split-word-items.ensures.done c.split-word-items.ensures.closure (λ x b q k. search (rules, tests)))) c.loop-word.yielded _ c.loop-word.yielded_by _ _ c.in-Some.word c.in-Some.is c.next.ensures.steps in
    rw (length_push c.loop-word.yielded c.in-Some.word, c.in_ok-push.ensures.ok)
    (so_far_more c.args.text.now (length c.loop-word.yielded) c.in-Some.word.now c.loop-word.durations c.in-Some-number.duration c.loop-word.invariant t
    (sym (ap (option_map value_of) c.in-Some-number.is) ∙ c.number.ensures))

pub returns : goal.returns
returns c =
    let t = YieldsList-end (YieldsList-at c.into_iter-word-iterator.ensures.into_iter_gives (YieldsList-from_slice_split _ (λ b. b == 44) c.args.text.now c.split-word-items.ensures.rest c.split-word-items.ensures.done c.split-word-items.ensures.closure (λ x b q k. search (rules, tests)))) c.loop-word.yielded _ c.loop-word.yielded_by _ _ c.in-None.is c.next.ensures.steps in
    all_read c.args.text.now (length c.loop-word.yielded) c.loop-word.durations (sym c.if-is_none_word.ensures) c.loop-word.invariant (omega arith)
