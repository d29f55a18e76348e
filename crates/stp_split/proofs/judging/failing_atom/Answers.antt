use Rattle.std.proofs.Common.{◌≡◌, [], ◌++◌, ◌∷◌, false, All, ap, sym, ◌∙◌, subst, arith}
use Rattle.std.proofs.lemmas.List.{take_all}
use Rattle.std.proofs.lemmas.List.Elements.{All-more}
use Rattle.stp_cond.specs.Truth.{state_of_row}
use Rattle.stp_happen.proofs.Members.{each_of, each_mapped, member_map}
use Rattle.stp_window.specs.declared.windows.Window.{Window}
use Rattle.stp_window.specs.Views.{point_of, points_of}
use Rattle.stp_split.specs.Cases.{turns_at}
use Rattle.stp_split.proofs.Answered.{unlike_told, like_told, atom_fails_at_first, atom_fails_after, atom_always}
use Rattle.stp_split.proofs.judging.failing_atom.Goals as goal

pub returns-then-get-want : goal.returns-then-get-want
returns-then-get-want c = atom_fails_at_first c.args.atom.0 c.args.want (points_of c.args.ends.now) (state_of_row c.args.row.now) c.new-steps.result c.new-steps.ensures (sym c.get.ensures ∙ unlike_told c.get.result c.args.want c.if-get-want.true)

pub returns-then-changes : goal.returns-then-changes
returns-then-changes c =
    atom_fails_after c.args.atom.0 c.args.want (points_of c.args.ends.now) (state_of_row c.args.row.now) c.push.new.self (point_of c.end-item.result) c.requires.cases
    (member_map point_of c.args.ends.now c.end-item.result (c.loop-end.end-index, c.loop-end-test.true, sym c.end-item.is))
    (c.in_ok-push.ensures.ok ∙ ap (λ ns. ns ++ c.end-item.result.step ∷ []) c.loop-end.invariant.none) (sym c.get.ensures ∙ like_told c.get.result c.args.want c.if-get-want.false) (sym c.changes.ensures ∙ c.if-changes.true)

pub loop-end-preserved : goal.loop-end-preserved
loop-end-preserved c = record {
  none = c.loop-end.invariant.none;
  still =
      All-more (λ (w : Window). turns_at (point_of w) (state_of_row c.args.row.now) c.args.atom.0 ≡ false) c.args.ends.now c.loop-end.end-index c.end-item.result (omega arith) c.loop-end.invariant.still
      (sym (ap (λ (w : Window). turns_at (point_of w) (state_of_row c.args.row.now) c.args.atom.0) c.end-item.is) ∙ (sym c.changes.ensures ∙ c.if-changes.false));
}

pub returns : goal.returns
returns c =
    atom_always c.args.atom.0 c.args.want (points_of c.args.ends.now) (state_of_row c.args.row.now) c.requires.cases (sym c.get.ensures ∙ like_told c.get.result c.args.want c.if-get-want.false)
    (each_mapped point_of (λ p. turns_at p (state_of_row c.args.row.now) c.args.atom.0 ≡ false) c.args.ends.now
    (each_of (λ (w : Window). turns_at (point_of w) (state_of_row c.args.row.now) c.args.atom.0 ≡ false) c.args.ends.now
    (subst (All (λ (w : Window). turns_at (point_of w) (state_of_row c.args.row.now) c.args.atom.0 ≡ false)) (take_all c.loop-end.end-index c.args.ends.now (omega arith)) c.loop-end.invariant.still)))
