-- What a condition in an arena stands for at each variant, and what goes over the members of a formula.
use Rattle.std.proofs.Common.{◌≡◌, ℕ, Bool, ◌&&◌, ◌||◌, List, [], ◌∷◌, map, refl, sym, ap, ◌∙◌, Bor}
use Rattle.std.specs.List.{list_all, list_any}
use Rattle.stp_base.specs.declared.ids.AtomId.{AtomId}
use Rattle.stp_cond.specs.declared.cond.Cond.{Cond}
use Rattle.stp_cond.specs.declared.cond.Cond.TheOpen.{Cond-F}
use Rattle.stp_cond.specs.declared.cond.Cond.TheVariants.{True, False, Atom, Not, And, Or, rolls-True, rolls-False, rolls-Atom, rolls-Not, rolls-And, rolls-Or}
use Rattle.stp_cond.specs.declared.cond.Cond.TheFolds.{fold-roll-Cond}
use Rattle.stp_cond.specs.declared.known.Three.{Three}
use Rattle.stp_cond.specs.Formulas.{Formula, Always, Never, Atomic, Negation, Conjunction, Disjunction, More, formulas_of, view, view_step, holds_in, all_hold, some_holds}
use Rattle.stp_cond.specs.Folded.{folded, folded_all}
use Rattle.stp_cond.specs.Substituted.{substituted, substituted_all}

pub view_true : view True ≡ Always
view_true = ap view (sym rolls-True) ∙ fold-roll-Cond Formula view_step Cond-F.True

pub view_false : view False ≡ Never
view_false = ap view (sym rolls-False) ∙ fold-roll-Cond Formula view_step Cond-F.False

pub view_atom : (atom : AtomId) → view (Atom atom) ≡ Atomic atom.0
view_atom atom = ap view (sym (rolls-Atom atom)) ∙ fold-roll-Cond Formula view_step (Cond-F.Atom atom)

pub view_not : (part : Bor Cond) → view (Not part) ≡ Negation (view part.now)
view_not part = ap view (sym (rolls-Not part)) ∙ fold-roll-Cond Formula view_step (Cond-F.Not part)

pub view_and : (parts : Bor (List Cond)) → view (And parts) ≡ Conjunction (formulas_of (map view parts.now))
view_and parts = ap view (sym (rolls-And parts)) ∙ fold-roll-Cond Formula view_step (Cond-F.And parts)

pub view_or : (parts : Bor (List Cond)) → view (Or parts) ≡ Disjunction (formulas_of (map view parts.now))
view_or parts = ap view (sym (rolls-Or parts)) ∙ fold-roll-Cond Formula view_step (Cond-F.Or parts)

-- ---- members

pub all_hold_of : (s : ℕ → Bool) (fs : List Formula) → all_hold s (formulas_of fs) ≡ list_all (holds_in s) fs
all_hold_of s [] = refl
all_hold_of s (f ∷ fs) = ap (λ b. holds_in s f && b) (all_hold_of s fs)

pub some_holds_of : (s : ℕ → Bool) (fs : List Formula) → some_holds s (formulas_of fs) ≡ list_any (holds_in s) fs
some_holds_of s [] = refl
some_holds_of s (f ∷ fs) = ap (λ b. holds_in s f || b) (some_holds_of s fs)

pub folded_all_of : (known : ℕ → Three) (fs : List Formula) → folded_all known (formulas_of fs) ≡ map (folded known) fs
folded_all_of known [] = refl
folded_all_of known (f ∷ fs) = ap (λ l. folded known f ∷ l) (folded_all_of known fs)

pub substituted_all_of : (image : ℕ → ℕ) (fs : List Formula) → substituted_all image (formulas_of fs) ≡ formulas_of (map (substituted image) fs)
substituted_all_of image [] = refl
substituted_all_of image (f ∷ fs) = ap (More (substituted image f)) (substituted_all_of image fs)
