use Rattle.std.proofs.Common.{drop, All, inl, inr, sym, ◌∙◌, subst, arith}
use Rattle.std.proofs.lemmas.List.{take_all}
use Rattle.std.proofs.lemmas.List.Elements.{All-more}
use Rattle.stp_cond.specs.Truth.{state_of_row}
use Rattle.stp_window.specs.Views.{point_of}
use Rattle.stp_split.proofs.Turned.{IsNotShared, is_shared, not_shared, share_none}
use Rattle.stp_split.proofs.turning.shared.Goals as goal
use Rattle.stp_split.proofs.turning.shared.Goals.{else-not-spares-via-then-not-spares+else-not-spares_from, else-not-spares-via-else-not-spares}

pub returns-then-not-spares_from-clause-shared : goal.returns-then-not-spares_from-clause-shared
returns-then-not-spares_from-clause-shared c =
    is_shared (state_of_row c.args.row.now) c.args.cond.now (drop c.args.start c.args.conds.now) (point_of c.end-item.result) (sym c.spares.ensures ∙ c.if-not-spares.true) (sym c.spares_from.ensures ∙ c.if-not-spares_from.true)

pub loop-end-preserved : goal.loop-end-preserved
loop-end-preserved c =
    let none = IsNotShared (state_of_row c.args.row.now) c.args.cond.now (drop c.args.start c.args.conds.now) in
    All-more none c.args.ends.now c.loop-end.end-index c.end-item.result (omega arith) c.loop-end.invariant
    (subst none c.end-item.is (not_shared (state_of_row c.args.row.now) c.args.cond.now (drop c.args.start c.args.conds.now) c.end-item.result (elim c.else-not-spares.branch [
      | else-not-spares-via-then-not-spares+else-not-spares_from w ↦ inr (sym w.spares_from.ensures ∙ w.if-not-spares_from.false)
      | else-not-spares-via-else-not-spares w ↦ inl (sym c.spares.ensures ∙ w.if-not-spares.false)
    ])))

pub returns-clause-shared : goal.returns-clause-shared
returns-clause-shared c =
    let none = IsNotShared (state_of_row c.args.row.now) c.args.cond.now (drop c.args.start c.args.conds.now) in
    share_none (state_of_row c.args.row.now) c.args.cond.now (drop c.args.start c.args.conds.now) c.args.ends.now (subst (All none) (take_all c.loop-end.end-index c.args.ends.now (omega arith)) c.loop-end.invariant)
