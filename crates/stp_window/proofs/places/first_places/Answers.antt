use Rattle.std.proofs.Common.{All, sym, subst}
use Rattle.std.proofs.lemmas.List.{take_all}
use Rattle.std.proofs.lemmas.List.Elements.{All-more}
use Rattle.stp_happen.proofs.Members.{each_of}
use Rattle.stp_window.specs.Sweep.{ClashesWithNone}
use Rattle.stp_window.proofs.Swept.{none_meet_by_windows}
use Rattle.stp_window.proofs.places.first_places.Goals as goal

pub returns-in-Some : goal.returns-in-Some
returns-in-Some c = (c.index-windows-place.result, (c.loop-place-test.true, sym c.index-windows-place.is), c.in-Some.ensures)

pub loop-place-preserved : goal.loop-place-preserved
loop-place-preserved c =
    let none = ClashesWithNone c.args.windows.now in
    All-more none c.args.windows.now c.loop-place.place c.index-windows-place.result c.loop-place-test.true c.loop-place.invariant (subst none c.index-windows-place.is c.in_default.ensures)

pub returns : goal.returns
returns c =
    let none = ClashesWithNone c.args.windows.now in
    none_meet_by_windows c.args.windows.now (each_of none c.args.windows.now (subst (All none) (take_all c.loop-place.place c.args.windows.now c.loop-place-test.false) c.loop-place.invariant))
