use Rattle.std.proofs.Common.{◌≡◌, nat_lt, true, ◌&&◌, List, [], ◌∷◌, map, refl, ap, ◌∙◌, Bor}
use Rattle.std.proofs.lemmas.Bool.{and_from}
use Rattle.stp_base.specs.declared.ids.AtomId.{AtomId}
use Rattle.stp_cond.specs.declared.cond.Cond.{Cond}
use Rattle.stp_cond.specs.declared.cond.Cond.TheVariants.{Atom, Or}
use Rattle.stp_cond.specs.Truth.{is_below, all_of}
use Rattle.stp_cond.proofs.Equations.{reads_atom, reads_or}
use Rattle.stp_tests_boxes.proofs.sketches.over_all.Goals as goal

two_below : (cond : Cond) (parts : Bor (List Cond)) (one other : AtomId) → cond ≡ Or parts → parts.now ≡ Atom one ∷ Atom other ∷ [] → nat_lt one.0 3 ≡ true → nat_lt other.0 3 ≡ true → is_below 3 cond ≡ true
two_below cond parts one other e f h k =
    ap (is_below 3) e
    ∙ (reads_or (λ a. nat_lt a 3) parts
    ∙ (ap (λ cs. all_of (map (is_below 3) cs)) f
    ∙ and_from (is_below 3 (Atom one)) (is_below 3 (Atom other) && true) (reads_atom (λ a. nat_lt a 3) one ∙ h) (and_from (is_below 3 (Atom other)) true (reads_atom (λ a. nat_lt a 3) other ∙ k) refl)))

pub returns-in_ok-try_alloc-in-FOrG : goal.returns-in_ok-try_alloc-in-FOrG
returns-in_ok-try_alloc-in-FOrG c =
    two_below c.in_ok-try_alloc-in-FOrG.field-0.now (record { ref_ptr = c.in_ok-parts-in-FOrG.parts.ref_ptr; now = c.in_ok-parts-in-FOrG.parts.now }) (record { 0 = 0 }) (record { 0 = 1 })
    c.in_ok-try_alloc-in-FOrG.ensures c.in_ok-parts-in-FOrG.ensures refl refl
