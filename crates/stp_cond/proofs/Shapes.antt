-- The truth and the atoms of a condition in an arena are those of what it stands for.
use Rattle.std.proofs.Common.{◌≡◌, ℕ, Bool, true, false, not, ◌&&◌, ◌||◌, List, [], ◌∷◌, map, refl, sym, ap, subst, ◌∙◌}
use Rattle.std.specs.List.{list_all}
use Rattle.std.proofs.lemmas.List.Folds.{list_all-append}
use Rattle.stp_cond.specs.declared.cond.Cond.{Cond}
use Rattle.stp_cond.specs.declared.cond.Cond.TheOpen.{Cond-F}
use Rattle.stp_cond.specs.declared.cond.Cond.TheFolds.{fold-roll-Cond, ind-Cond, map-Cond}
use Rattle.stp_cond.specs.declared.cond.Cond.TheViews.{roll-Cond}
use Rattle.stp_cond.specs.Atoms.{has, set_of}
use Rattle.stp_cond.specs.Truth.{all_of, any_of, truth, truth_step, reads_only, reads_step}
use Rattle.stp_cond.specs.Formulas.{Formula, formulas_of, view, view_step, holds_in, all_hold, some_holds, atoms_in, atoms_in_all}
use Rattle.stp_cond.specs.Laws.{TruthIsOfShape, ReadsAreOfShape}
use Rattle.stp_cond.proofs.EventLists.{all_in_set}

-- ---- truth

abbrev IsTruth : (ℕ → Bool) → Cond → Type 0
IsTruth s cond = truth s cond ≡ holds_in s (view cond)

all_truth : (s : ℕ → Bool) (es : List ((c : Cond) × IsTruth s c)) → all_of (map (truth s) (map (λ e. e.0) es)) ≡ all_hold s (formulas_of (map view (map (λ e. e.0) es)))
all_truth s [] = refl
all_truth s (e ∷ es) = ap (λ b. b && all_of (map (truth s) (map (λ e. e.0) es))) e.1 ∙ ap (λ b. holds_in s (view e.0) && b) (all_truth s es)

some_truth : (s : ℕ → Bool) (es : List ((c : Cond) × IsTruth s c)) → any_of (map (truth s) (map (λ e. e.0) es)) ≡ some_holds s (formulas_of (map view (map (λ e. e.0) es)))
some_truth s [] = refl
some_truth s (e ∷ es) = ap (λ b. b || any_of (map (truth s) (map (λ e. e.0) es))) e.1 ∙ ap (λ b. holds_in s (view e.0) || b) (some_truth s es)

truth_layer : (s : ℕ → Bool) (y : Cond-F ((c : Cond) × IsTruth s c)) →
    truth_step s (map-Cond Cond Bool (truth s) (map-Cond ((c : Cond) × IsTruth s c) Cond (λ e. e.0) y)) ≡ holds_in s (view_step (map-Cond Cond Formula view (map-Cond ((c : Cond) × IsTruth s c) Cond (λ e. e.0) y)))
truth_layer s Cond-F.True = refl
truth_layer s Cond-F.False = refl
truth_layer s (Cond-F.Atom atom) = refl
truth_layer s (Cond-F.Not part) = ap not part.now.1
truth_layer s (Cond-F.And parts) = all_truth s parts.now
truth_layer s (Cond-F.Or parts) = some_truth s parts.now

truth_of : (s : ℕ → Bool) (y : Cond-F ((c : Cond) × IsTruth s c)) → IsTruth s (roll-Cond (map-Cond ((c : Cond) × IsTruth s c) Cond (λ e. e.0) y))
truth_of s y =
    let x = map-Cond ((c : Cond) × IsTruth s c) Cond (λ e. e.0) y in
    fold-roll-Cond Bool (truth_step s) x ∙ (truth_layer s y ∙ ap (holds_in s) (sym (fold-roll-Cond Formula view_step x)))

pub truth_is_of_shape : TruthIsOfShape
truth_is_of_shape s cond = ind-Cond (IsTruth s) (λ x y is. subst (λ z. IsTruth s (roll-Cond z)) is (truth_of s y)) cond

-- ---- atoms

abbrev IsRead : (ℕ → Bool) → Cond → Type 0
IsRead these cond = reads_only these cond ≡ list_all these (atoms_in (view cond))

all_read : (these : ℕ → Bool) (es : List ((c : Cond) × IsRead these c)) → all_of (map (reads_only these) (map (λ e. e.0) es)) ≡ list_all these (atoms_in_all (formulas_of (map view (map (λ e. e.0) es))))
all_read these [] = refl
all_read these (e ∷ es) =
    ap (λ b. b && all_of (map (reads_only these) (map (λ e. e.0) es))) e.1
    ∙ ap (λ b. list_all these (atoms_in (view e.0)) && b) (all_read these es)
    ∙ sym (list_all-append these (atoms_in (view e.0)) (atoms_in_all (formulas_of (map view (map (λ e. e.0) es)))))

and_true : (b : Bool) → b ≡ (b && true)
and_true true = refl
and_true false = refl

read_layer : (these : ℕ → Bool) (y : Cond-F ((c : Cond) × IsRead these c)) →
    reads_step these (map-Cond Cond Bool (reads_only these) (map-Cond ((c : Cond) × IsRead these c) Cond (λ e. e.0) y)) ≡ list_all these (atoms_in (view_step (map-Cond Cond Formula view (map-Cond ((c : Cond) × IsRead these c) Cond (λ e. e.0) y))))
read_layer these Cond-F.True = refl
read_layer these Cond-F.False = refl
read_layer these (Cond-F.Atom atom) = and_true (these atom.0)
read_layer these (Cond-F.Not part) = part.now.1
read_layer these (Cond-F.And parts) = all_read these parts.now
read_layer these (Cond-F.Or parts) = all_read these parts.now

read_of : (these : ℕ → Bool) (y : Cond-F ((c : Cond) × IsRead these c)) → IsRead these (roll-Cond (map-Cond ((c : Cond) × IsRead these c) Cond (λ e. e.0) y))
read_of these y =
    let x = map-Cond ((c : Cond) × IsRead these c) Cond (λ e. e.0) y in
    fold-roll-Cond Bool (reads_step these) x ∙ (read_layer these y ∙ ap (λ f. list_all these (atoms_in f)) (sym (fold-roll-Cond Formula view_step x)))

pub reads_are_of_shape : ReadsAreOfShape
reads_are_of_shape these cond = ind-Cond (IsRead these) (λ x y is. subst (λ z. IsRead these (roll-Cond z)) is (read_of these y)) cond

-- a condition reads only its atoms
pub reads_all_of_them : (cond : Cond) (atoms : List ℕ) → atoms ≡ set_of (atoms_in (view cond)) → reads_only (has atoms) cond ≡ true
reads_all_of_them cond atoms e = reads_are_of_shape (has atoms) cond ∙ ap (λ l. list_all (has l) (atoms_in (view cond))) e ∙ all_in_set (atoms_in (view cond))
