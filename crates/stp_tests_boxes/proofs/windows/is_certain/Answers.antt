use Rattle.std.proofs.Common.{◌&&◌, sym, ◌∙◌, subst}
use Rattle.std.specs.List.{list_all}
use Rattle.stp_happen.specs.Boxes.{PlainBox}
use Rattle.stp_happen.proofs.Members.{and_left, and_right}
use Rattle.stp_window.specs.Boxed.{windows_in}
use Rattle.stp_window.specs.Certain.{NoneClash}
use Rattle.stp_window.specs.OwnerWindows.{windows_of}
use Rattle.stp_window.specs.States.{at_last}
use Rattle.stp_window.proofs.WellMade.{boxes_have_proper_windows}
use Rattle.stp_strength.specs.Facts.{lows}
use Rattle.stp_strength.specs.Failures.{all_pairs_pass, stay_apart, all_calm, is_fed, is_kept}
use Rattle.stp_strength.proofs.Parts.{calm_boxes_do_not_clash}
use Rattle.stp_tests_boxes.proofs.windows.is_certain.Goals as goal

-- the box is sound, so its points are calm
pub certain_value-requires-clause-clash : goal.certain_value-requires-clause-clash
certain_value-requires-clause-clash c =
    let owned = c.in_ok-owned.owned in
    let b = windows_in owned in
    let rest = list_all (is_fed b) b.points && (list_all (λ s. list_all (is_kept b s) (lows b)) b.spans && b.goal (at_last b)) in
    let calm = and_left (all_calm b) rest (and_right (all_pairs_pass stay_apart b.spans) (all_calm b && rest) (sym c.in_ok-is_sound.ensures.check ∙ c.if-not-branch.false)) in
    subst (λ (p : PlainBox). NoneClash (windows_of p) c.args.atom.0) c.in_ok-owned.ensures.same (calm_boxes_do_not_clash b (boxes_have_proper_windows owned) calm c.args.atom.0)
