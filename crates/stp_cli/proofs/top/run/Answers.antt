use Rattle.std.proofs.Common.{map, string_bytes}
use Rattle.stp_cli.specs.Calls.{store_call, sink_call}
use Rattle.stp_cli.proofs.Headlines.{headline_of_outcome, plan_headline_of_outcome, demo_headline_of_outcome, complete_outcome}
use Rattle.stp_cli.proofs.top.run.Goals as goal

-- the headline follows from the causes of answers
pub returns-clause-headline : goal.returns-clause-headline
returns-clause-headline g c =
    headline_of_outcome
    (store_call g.S.Store.files g.S.Store.steady g.S.Store.faults c.args.store.now c.answer_words.new.store)
    (sink_call g.K.Sink.written g.K.Sink.faults c.args.sink.now c.answer_words.new.sink)
    (map string_bytes c.args.words.now)
    c.answer_words.result
    c.answer_words.ensures.outcome

pub returns-clause-plan_headline : goal.returns-clause-plan_headline
returns-clause-plan_headline g c =
    plan_headline_of_outcome
    (store_call g.S.Store.files g.S.Store.steady g.S.Store.faults c.args.store.now c.answer_words.new.store)
    (sink_call g.K.Sink.written g.K.Sink.faults c.args.sink.now c.answer_words.new.sink)
    (map string_bytes c.args.words.now)
    c.answer_words.result
    c.answer_words.ensures.outcome

pub returns-clause-demo_headline : goal.returns-clause-demo_headline
returns-clause-demo_headline g c =
    demo_headline_of_outcome
    (store_call g.S.Store.files g.S.Store.steady g.S.Store.faults c.args.store.now c.answer_words.new.store)
    (sink_call g.K.Sink.written g.K.Sink.faults c.args.sink.now c.answer_words.new.sink)
    (map string_bytes c.args.words.now)
    c.answer_words.result
    c.answer_words.ensures.outcome

pub returns-clause-complete : goal.returns-clause-complete
returns-clause-complete g c =
    complete_outcome
    (store_call g.S.Store.files g.S.Store.steady g.S.Store.faults c.args.store.now c.answer_words.new.store)
    (sink_call g.K.Sink.written g.K.Sink.faults c.args.sink.now c.answer_words.new.sink)
    (map string_bytes c.args.words.now)
    c.answer_words.result
    c.answer_words.ensures.outcome
