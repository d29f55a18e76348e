-- What conditions in an arena mean that are a negation, a folded formula or one with other atoms.
use Rattle.std.proofs.Common.{◌≡◌, ℕ, Bool, true, not, sym, ap, ◌∙◌}
use Rattle.std.specs.List.{list_all}
use Rattle.std.proofs.lemmas.List.Folds.{list_all-map}
use Rattle.stp_cond.specs.declared.cond.Cond.{Cond}
use Rattle.stp_cond.specs.declared.known.Three.{Three}
use Rattle.stp_cond.specs.Truth.{truth, reads_only}
use Rattle.stp_cond.specs.Formulas.{Negation, view, holds_in, atoms_in}
use Rattle.stp_cond.specs.Folded.{Agrees, folded}
use Rattle.stp_cond.specs.Substituted.{substituted}
use Rattle.stp_cond.proofs.Meaning.{folding_keeps_truth, folding_keeps_atoms, substitution_keeps_truth, substitution_maps_atoms}
use Rattle.stp_cond.proofs.Shapes.{truth_is_of_shape, reads_are_of_shape}

pub truth-negated : (s : ℕ → Bool) (cond new : Cond) → view new ≡ Negation (view cond) → truth s new ≡ not (truth s cond)
truth-negated s cond new e = truth_is_of_shape s new ∙ ap (holds_in s) e ∙ ap not (sym (truth_is_of_shape s cond))

pub truth-folded : (known : ℕ → Three) (s : ℕ → Bool) (cond new : Cond) → view new ≡ folded known (view cond) → Agrees known s → truth s new ≡ truth s cond
truth-folded known s cond new e fits = truth_is_of_shape s new ∙ ap (holds_in s) e ∙ folding_keeps_truth known s (view cond) fits ∙ sym (truth_is_of_shape s cond)

pub truth-substituted : (image : ℕ → ℕ) (s : ℕ → Bool) (cond new : Cond) → view new ≡ substituted image (view cond) → truth s new ≡ truth (λ a. s (image a)) cond
truth-substituted image s cond new e = truth_is_of_shape s new ∙ ap (holds_in s) e ∙ substitution_keeps_truth image s (view cond) ∙ sym (truth_is_of_shape (λ a. s (image a)) cond)

pub reads-negated : (these : ℕ → Bool) (cond new : Cond) → view new ≡ Negation (view cond) → reads_only these new ≡ reads_only these cond
reads-negated these cond new e = reads_are_of_shape these new ∙ ap (λ f. list_all these (atoms_in f)) e ∙ sym (reads_are_of_shape these cond)

pub reads-folded : (known : ℕ → Three) (these : ℕ → Bool) (cond new : Cond) → view new ≡ folded known (view cond) → reads_only these cond ≡ true → reads_only these new ≡ true
reads-folded known these cond new e h =
    reads_are_of_shape these new ∙ ap (λ f. list_all these (atoms_in f)) e
    ∙ folding_keeps_atoms known these (view cond) (sym (reads_are_of_shape these cond) ∙ h)

pub reads-substituted : (image : ℕ → ℕ) (these : ℕ → Bool) (cond new : Cond) → view new ≡ substituted image (view cond) → reads_only these new ≡ reads_only (λ a. these (image a)) cond
reads-substituted image these cond new e =
    reads_are_of_shape these new ∙ ap (λ f. list_all these (atoms_in f)) e
    ∙ ap (list_all these) (substitution_maps_atoms image (view cond))
    ∙ list_all-map these image (atoms_in (view cond))
    ∙ sym (reads_are_of_shape (λ a. these (image a)) cond)
