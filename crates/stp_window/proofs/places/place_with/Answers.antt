use Rattle.std.proofs.Common.{All, sym, ◌∙◌, subst}
use Rattle.std.proofs.lemmas.List.{take_all}
use Rattle.std.proofs.lemmas.List.Elements.{All-more}
use Rattle.stp_happen.proofs.Members.{each_of}
use Rattle.stp_window.specs.declared.windows.Window.{Window}
use Rattle.stp_window.specs.Sweep.{Clash}
use Rattle.stp_window.specs.Views.{point_of}
use Rattle.stp_window.proofs.Swept.{clash_told, no_clash}
use Rattle.stp_window.proofs.places.place_with.Goals as goal

pub returns-then-clash : goal.returns-then-clash
returns-then-clash c = (
  c.index-windows-place.result,
  (c.loop-place-test.true, sym c.index-windows-place.is),
  clash_told c.args.one.now c.index-windows-place.result (sym c.clash.ensures ∙ c.if-clash.true),
)

pub loop-place-preserved : goal.loop-place-preserved
loop-place-preserved c =
    let none = λ (w : Window). Clash (point_of c.args.one.now) (point_of w) → ⊥ in
    All-more none c.args.windows.now c.loop-place.place c.index-windows-place.result c.loop-place-test.true c.loop-place.invariant
    (subst none c.index-windows-place.is (no_clash c.args.one.now c.index-windows-place.result (sym c.clash.ensures ∙ c.if-clash.false)))

pub returns : goal.returns
returns c =
    let none = λ (w : Window). Clash (point_of c.args.one.now) (point_of w) → ⊥ in
    each_of none c.args.windows.now (subst (All none) (take_all c.loop-place.place c.args.windows.now c.loop-place-test.false) c.loop-place.invariant)
