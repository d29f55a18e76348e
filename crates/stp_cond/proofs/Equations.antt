-- What the folds over formulas give at each variant.
use Rattle.std.proofs.Common.{◌≡◌, ℕ, ◌≤◌, Bool, true, false, not, ◌&&◌, List, [], ◌∷◌, map, take, length, refl, sym, ap, ◌∙◌, Bor}
use Rattle.std.specs.List.{list_all}
use Rattle.std.proofs.lemmas.List.{take_all}
use Rattle.stp_base.specs.declared.ids.AtomId.{AtomId}
use Rattle.stp_cond.specs.declared.cond.Cond.{Cond}
use Rattle.stp_cond.specs.declared.cond.Cond.TheOpen.{Cond-F}
use Rattle.stp_cond.specs.declared.cond.Cond.TheVariants.{True, False, Atom, Not, And, Or, rolls-True, rolls-False, rolls-Atom, rolls-Not, rolls-And, rolls-Or}
use Rattle.stp_cond.specs.declared.cond.Cond.TheFolds.{fold-roll-Cond}
use Rattle.stp_cond.specs.Truth.{all_of, any_of, truth, truth_step, reads_only, reads_step}
use Rattle.stp_cond.specs.Views.{atoms_of}

pub truth_true : (s : ℕ → Bool) → truth s True ≡ true
truth_true s = ap (truth s) (sym rolls-True) ∙ fold-roll-Cond Bool (truth_step s) Cond-F.True

pub truth_false : (s : ℕ → Bool) → truth s False ≡ false
truth_false s = ap (truth s) (sym rolls-False) ∙ fold-roll-Cond Bool (truth_step s) Cond-F.False

pub truth_atom : (s : ℕ → Bool) (atom : AtomId) → truth s (Atom atom) ≡ s atom.0
truth_atom s atom = ap (truth s) (sym (rolls-Atom atom)) ∙ fold-roll-Cond Bool (truth_step s) (Cond-F.Atom atom)

pub truth_not : (s : ℕ → Bool) (part : Bor Cond) → truth s (Not part) ≡ not (truth s part.now)
truth_not s part = ap (truth s) (sym (rolls-Not part)) ∙ fold-roll-Cond Bool (truth_step s) (Cond-F.Not part)

pub truth_and : (s : ℕ → Bool) (parts : Bor (List Cond)) → truth s (And parts) ≡ all_of (map (truth s) parts.now)
truth_and s parts = ap (truth s) (sym (rolls-And parts)) ∙ fold-roll-Cond Bool (truth_step s) (Cond-F.And parts)

pub truth_or : (s : ℕ → Bool) (parts : Bor (List Cond)) → truth s (Or parts) ≡ any_of (map (truth s) parts.now)
truth_or s parts = ap (truth s) (sym (rolls-Or parts)) ∙ fold-roll-Cond Bool (truth_step s) (Cond-F.Or parts)

pub reads_true : (these : ℕ → Bool) → reads_only these True ≡ true
reads_true these = ap (reads_only these) (sym rolls-True) ∙ fold-roll-Cond Bool (reads_step these) Cond-F.True

pub reads_false : (these : ℕ → Bool) → reads_only these False ≡ true
reads_false these = ap (reads_only these) (sym rolls-False) ∙ fold-roll-Cond Bool (reads_step these) Cond-F.False

pub reads_atom : (these : ℕ → Bool) (atom : AtomId) → reads_only these (Atom atom) ≡ these atom.0
reads_atom these atom = ap (reads_only these) (sym (rolls-Atom atom)) ∙ fold-roll-Cond Bool (reads_step these) (Cond-F.Atom atom)

pub reads_not : (these : ℕ → Bool) (part : Bor Cond) → reads_only these (Not part) ≡ reads_only these part.now
reads_not these part = ap (reads_only these) (sym (rolls-Not part)) ∙ fold-roll-Cond Bool (reads_step these) (Cond-F.Not part)

pub reads_and : (these : ℕ → Bool) (parts : Bor (List Cond)) → reads_only these (And parts) ≡ all_of (map (reads_only these) parts.now)
reads_and these parts = ap (reads_only these) (sym (rolls-And parts)) ∙ fold-roll-Cond Bool (reads_step these) (Cond-F.And parts)

pub reads_or : (these : ℕ → Bool) (parts : Bor (List Cond)) → reads_only these (Or parts) ≡ all_of (map (reads_only these) parts.now)
reads_or these parts = ap (reads_only these) (sym (rolls-Or parts)) ∙ fold-roll-Cond Bool (reads_step these) (Cond-F.Or parts)

all_of-map : {A : Type 0} (f : A → Bool) (xs : List A) → all_of (map f xs) ≡ list_all f xs
all_of-map f [] = refl
all_of-map f (x ∷ xs) = ap (λ b. f x && b) (all_of-map f xs)

-- the parts are the atoms
pub truth_of_atoms : (s : ℕ → Bool) (cond : Cond) (parts : Bor (List Cond)) (items : List Cond) (n : ℕ) (atoms : List AtomId) → cond ≡ And parts → parts.now ≡ items → map (truth s) items ≡ map s (atoms_of (take n atoms)) → length atoms ≤ n → truth s cond ≡ list_all s (atoms_of atoms)
truth_of_atoms s cond parts items n atoms is same so_far end =
    ap (truth s) is ∙ (truth_and s parts ∙ (ap (λ l. all_of (map (truth s) l)) same ∙ (ap all_of so_far ∙ (ap (λ l. all_of (map s (atoms_of l))) (take_all n atoms end) ∙ all_of-map s (atoms_of atoms)))))

pub reads_of_atoms : (these : ℕ → Bool) (cond : Cond) (parts : Bor (List Cond)) (items : List Cond) (n : ℕ) (atoms : List AtomId) → cond ≡ And parts → parts.now ≡ items → map (reads_only these) items ≡ map these (atoms_of (take n atoms)) → length atoms ≤ n → reads_only these cond ≡ list_all these (atoms_of atoms)
reads_of_atoms these cond parts items n atoms is same so_far end =
    ap (reads_only these) is ∙ (reads_and these parts ∙ (ap (λ l. all_of (map (reads_only these) l)) same ∙ (ap all_of so_far ∙ (ap (λ l. all_of (map these (atoms_of l))) (take_all n atoms end) ∙ all_of-map these (atoms_of atoms)))))
