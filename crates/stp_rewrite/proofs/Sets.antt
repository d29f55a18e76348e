-- Tests over sets of atoms.
use Rattle.std.proofs.Common.{◌≡◌, ℕ, true, false, List, ap, ◌∙◌}
use Rattle.std.proofs.Math.Path.{fun_ext}
use Rattle.std.specs.List.{list_any}
use Rattle.stp_base.specs.declared.ids.AtomId.{AtomId}
use Rattle.stp_cond.specs.declared.cond.Cond.{Cond}
use Rattle.stp_cond.specs.Atoms.{has, have_common, set_of}
use Rattle.stp_cond.specs.Truth.{reads_only}
use Rattle.stp_cond.specs.Views.{atoms_of}
use Rattle.stp_cond.proofs.Rising.{any_set, has_set}

same_has : (xs : List ℕ) → has (set_of xs) ≡ has xs
same_has xs = fun_ext (has_set xs)

pub sets_apart : (xs ys : List ℕ) (adds dels : List AtomId) → atoms_of adds ≡ set_of xs → atoms_of dels ≡ set_of ys → have_common xs ys ≡ false → have_common (atoms_of adds) (atoms_of dels) ≡ false
sets_apart xs ys adds dels a d h =
    ap (λ l. have_common l (atoms_of dels)) a ∙ ap (have_common (set_of xs)) d ∙ any_set (has (set_of ys)) xs ∙ ap (λ p. list_any p xs) (same_has ys) ∙ h

pub set_reads : (xs : List ℕ) (reads : List AtomId) (cond : Cond) → atoms_of reads ≡ set_of xs → reads_only (has xs) cond ≡ true → reads_only (has (atoms_of reads)) cond ≡ true
set_reads xs reads cond e h = ap (λ l. reads_only (has l) cond) e ∙ ap (λ p. reads_only p cond) (same_has xs) ∙ h
