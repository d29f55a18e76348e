use Rattle.std.proofs.Common.{◌+◌, ◌∙◌, sym, ap, map}
use Rattle.std.proofs.lemmas.Result.{err_from_is_err_and}
use Rattle.stp_text.specs.Tree.{view}
use Rattle.stp_text.specs.Pieces.{is_close}
use Rattle.stp_text.proofs.Equations.{view_word, view_items}
use Rattle.stp_text.proofs.Continuing.{on_word, on_open, on_close, too_deep, stray, unclosed_end, refused, taken, none_taken}
use Rattle.stp_text.proofs.parser.+parser.Goals as goal

pub item-returns-then-depth-eq-MAX_NESTING-clause-read :
    goal.item-returns-then-depth-eq-MAX_NESTING-clause-read
item-returns-then-depth-eq-MAX_NESTING-clause-read t c = λ ne frames items h. rw c.in-Open.is (too_deep frames items c.in-Open.at _ (h ∙ c.if-depth-eq-MAX_NESTING.true))

pub item-returns-in_err-items-in-Open-clause-read :
    goal.item-returns-in_err-items-in-Open-clause-read
item-returns-in_err-items-in-Open-clause-read t c =
    let p = err_from_is_err_and c.from_residual-in_err-items-in-Open.result c.from_residual-in_err-items-in-Open.ensures.1 in
    rw (p.1, p.2) (λ ne frames items h. rw c.in-Open.is (on_open frames items c.in-Open.at _ (λ e. c.if-depth-eq-MAX_NESTING.false (sym h ∙ e)) ∙ c.in_err-items-in-Open.ensures.read ne frames items (ap (λ n. n + 1) h)))

pub item-returns-in_ok-fold-in-Word-clause-read : goal.item-returns-in_ok-fold-in-Word-clause-read
item-returns-in_ok-fold-in-Word-clause-read t c = λ frames items h. rw (view_word, c.in_ok-fold-in-Word.ensures.ok, c.in-Word.is) (on_word frames items c.in-Word.at c.in-Word.text.now _ (rw c.in-Word.is at c.requires.right))

pub item-returns-in_ok-items-in-Open-clause-read :
    goal.item-returns-in_ok-items-in-Open-clause-read
item-returns-in_ok-items-in-Open-clause-read t c = λ frames items h. rw (view_items, c.in-Open.is) (on_open frames items c.in-Open.at _ (λ e. c.if-depth-eq-MAX_NESTING.false (sym h ∙ e)) ∙ c.in_ok-items-in-Open.ensures.read frames items (ap (λ n. n + 1) h))

pub item-returns-in-Close-clause-read : goal.item-returns-in-Close-clause-read
item-returns-in-Close-clause-read t c = λ ne frames items h. rw c.in-Close.is (stray frames items c.in-Close.at _ (h ∙ c.requires.outside (ap is_close c.in-Close.is)))

pub items-returns-in_err-piece-clause-read : goal.items-returns-in_err-piece-clause-read
items-returns-in_err-piece-clause-read t c =
    let p = err_from_is_err_and c.from_residual.result c.from_residual.ensures.1 in
    rw (p.1, p.2) (λ ne frames items h. c.loop-found.invariant.same frames items h ∙ refused _ _ c.loop-found.reader _ c.in_err-piece.ensures)

pub items-returns-in-Close-clause-read : goal.items-returns-in-Close-clause-read
items-returns-in-Close-clause-read t c = λ frames items h.
    let took = taken c.loop-found.reader _ c.in_ok-piece.field-0 c.in-Some.piece c.in-Some.is c.in_ok-piece.ensures in
    c.loop-found.invariant.same frames items h ∙ rw (c.in_ok-try_alloc_slice_copy.ensures ∙ c.as_slice.ensures, took.same, c.in-Close.is) (on_close frames (map view c.loop-found.found) items c.args.at _ _)

pub items-returns-clause-read : goal.items-returns-clause-read
items-returns-clause-read t c = λ ne frames items h.
    c.loop-found.invariant.same frames items h ∙ rw (none_taken c.loop-found.reader c.piece.new.self c.in_ok-piece.field-0 c.in_default.is c.in_ok-piece.ensures) (unclosed_end frames (map view c.loop-found.found) items c.args.at)
