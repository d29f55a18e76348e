use Rattle.std.proofs.Common.{[], refl, map}
use Rattle.std.proofs.lemmas.Result.{err_from_is_err_and, MatchResult-weaker}
use Rattle.stp_text.specs.Tree.{view}
use Rattle.stp_text.proofs.Continuing.{refused, tree_refused, tree_whole, taken, none_taken}
use Rattle.stp_text.proofs.Spelling.{nodes_within}
use Rattle.stp_text.proofs.parser.tree.Goals as goal

pub returns-in_err-piece-clause-read : goal.returns-in_err-piece-clause-read
returns-in_err-piece-clause-read c =
    let p = err_from_is_err_and c.from_residual.result c.from_residual.ensures.1 in
    rw (p.1, p.2) (λ ne. tree_refused c.args.bytes.now _ _ _ c.loop-found.invariant (refused _ _ c.loop-found.reader _ c.in_err-piece.ensures))

pub returns-in_err-item-clause-read : goal.returns-in_err-item-clause-read
returns-in_err-item-clause-read c =
    let p = err_from_is_err_and c.from_residual-in_err-item.result c.from_residual-in_err-item.ensures.1 in
    let took = taken c.loop-found.reader _ c.in_ok-piece.field-0 c.in-Some.piece c.in-Some.is c.in_ok-piece.ensures in
    rw (p.1, p.2) (λ ne. tree_refused c.args.bytes.now _ _ _ c.loop-found.invariant (rw took.same (c.in_err-item.ensures.read ne [] (map view c.loop-found.found) refl)))

pub returns-clause-read : goal.returns-clause-read
returns-clause-read c =
    let end = none_taken c.loop-found.reader c.piece.new.self c.in_ok-piece.field-0 c.in_default.is c.in_ok-piece.ensures in
    MatchResult-weaker c.one_list.result c.one_list.ensures
    (λ t e. tree_whole c.args.bytes.now (map view c.loop-found.found) _ _ c.loop-found.invariant end (rw c.as_slice.ensures at e))
    (λ f e ne. tree_whole c.args.bytes.now (map view c.loop-found.found) _ _ c.loop-found.invariant end (rw c.as_slice.ensures at e))

pub returns-clause-small : goal.returns-clause-small
returns-clause-small c = MatchResult-weaker c.one_list.result (returns-clause-read c) (λ t e. nodes_within c.args.bytes.now _ e) (λ f e. tt)
