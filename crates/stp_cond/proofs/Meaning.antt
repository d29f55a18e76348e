-- Folding and substitution keep what formulas mean.
use Rattle.std.proofs.Common.{◌≡◌, ℕ, Bool, true, false, not, ◌&&◌, ◌||◌, cond, List, [], ◌∷◌, ◌++◌, map, refl, sym, ap, ◌∙◌, ⊎_elim}
use Rattle.std.specs.List.{list_all, list_any, filter}
use Rattle.std.proofs.lemmas.Bool.{cases_Bool, cond-true, cond-false, and_from, and_parts, and_left, or_cases, or_left, or_right, not_from_true, not_from_false}
use Rattle.std.proofs.lemmas.List.{map-append}
use Rattle.std.proofs.lemmas.List.Folds.{list_all-append}
use Rattle.stp_cond.specs.declared.known.Three.{Three}
use Rattle.stp_cond.specs.declared.known.Three.TheVariants.{Yes, No, Unknown}
use Rattle.stp_cond.specs.Formulas.{Formula, Formulas, Always, Never, Atomic, Negation, Conjunction, Disjunction, NoMore, More, formulas_of, holds_in, all_hold, some_holds, atoms_in, atoms_in_all}
use Rattle.stp_cond.specs.Folded.{is_always, is_never, folded_atom, folded_not, together, folded_and, folded_or, folded, folded_all, Fits, Agrees}
use Rattle.stp_cond.specs.Substituted.{substituted, substituted_all}
use Rattle.stp_cond.specs.Laws.{FoldingKeepsTruth, FoldingKeepsAtoms, SubstitutionKeepsTruth, SubstitutionMapsAtoms}
use Rattle.stp_cond.proofs.Viewing.{all_hold_of, some_holds_of}

and_true : (b : Bool) → b ≡ (b && true)
and_true true = refl
and_true false = refl

and_false : (b : Bool) → (b && false) ≡ false
and_false true = refl
and_false false = refl

or_false : (b : Bool) → b ≡ (b || false)
or_false true = refl
or_false false = refl

always_holds : (s : ℕ → Bool) (f : Formula) → is_always f ≡ true → holds_in s f ≡ true
always_holds s Always h = refl
always_holds s Never h = cc
always_holds s (Atomic a) h = cc
always_holds s (Negation f) h = cc
always_holds s (Conjunction fs) h = cc
always_holds s (Disjunction fs) h = cc

never_holds : (s : ℕ → Bool) (f : Formula) → is_never f ≡ true → holds_in s f ≡ false
never_holds s Always h = cc
never_holds s Never h = refl
never_holds s (Atomic a) h = cc
never_holds s (Negation f) h = cc
never_holds s (Conjunction fs) h = cc
never_holds s (Disjunction fs) h = cc

-- ---- members that decide, and members that are dropped

one_never : (s : ℕ → Bool) (fs : List Formula) → list_any is_never fs ≡ true → list_all (holds_in s) fs ≡ false
one_never s [] h = cc
one_never s (f ∷ fs) h =
    ⊎_elim
    (λ e. and_left (holds_in s f) (list_all (holds_in s) fs) (never_holds s f e))
    (λ e. ap (λ b. holds_in s f && b) (one_never s fs e) ∙ and_false (holds_in s f))
    (or_cases (is_never f) (list_any is_never fs) h)

one_always : (s : ℕ → Bool) (fs : List Formula) → list_any is_always fs ≡ true → list_any (holds_in s) fs ≡ true
one_always s [] h = cc
one_always s (f ∷ fs) h =
    ⊎_elim
    (λ e. or_left (holds_in s f) (list_any (holds_in s) fs) (always_holds s f e))
    (λ e. or_right (holds_in s f) (list_any (holds_in s) fs) (one_always s fs e))
    (or_cases (is_always f) (list_any is_always fs) h)

all_left : (s : ℕ → Bool) (fs : List Formula) → list_all (holds_in s) (filter (λ f. not (is_always f)) fs) ≡ list_all (holds_in s) fs
all_left s [] = refl
all_left s (f ∷ fs) =
    ⊎_elim
    (λ e. ap (list_all (holds_in s)) (cond-false (not (is_always f)) (f ∷ filter (λ f. not (is_always f)) fs) (filter (λ f. not (is_always f)) fs) (not_from_true (is_always f) e))
    ∙ (all_left s fs ∙ ap (λ b. b && list_all (holds_in s) fs) (sym (always_holds s f e))))
    (λ e. ap (list_all (holds_in s)) (cond-true (not (is_always f)) (f ∷ filter (λ f. not (is_always f)) fs) (filter (λ f. not (is_always f)) fs) (not_from_false (is_always f) e))
    ∙ ap (λ b. holds_in s f && b) (all_left s fs))
    (cases_Bool (is_always f))

some_left : (s : ℕ → Bool) (fs : List Formula) → list_any (holds_in s) (filter (λ f. not (is_never f)) fs) ≡ list_any (holds_in s) fs
some_left s [] = refl
some_left s (f ∷ fs) =
    ⊎_elim
    (λ e. ap (list_any (holds_in s)) (cond-false (not (is_never f)) (f ∷ filter (λ f. not (is_never f)) fs) (filter (λ f. not (is_never f)) fs) (not_from_true (is_never f) e))
    ∙ (some_left s fs ∙ ap (λ b. b || list_any (holds_in s) fs) (sym (never_holds s f e))))
    (λ e. ap (list_any (holds_in s)) (cond-true (not (is_never f)) (f ∷ filter (λ f. not (is_never f)) fs) (filter (λ f. not (is_never f)) fs) (not_from_false (is_never f) e))
    ∙ ap (λ b. holds_in s f || b) (some_left s fs))
    (cases_Bool (is_never f))

all_together : (s : ℕ → Bool) (fs : List Formula) → holds_in s (together Always Conjunction fs) ≡ list_all (holds_in s) fs
all_together s [] = refl
all_together s (f ∷ []) = and_true (holds_in s f)
all_together s (f ∷ g ∷ fs) = all_hold_of s (f ∷ g ∷ fs)

some_together : (s : ℕ → Bool) (fs : List Formula) → holds_in s (together Never Disjunction fs) ≡ list_any (holds_in s) fs
some_together s [] = refl
some_together s (f ∷ []) = or_false (holds_in s f)
some_together s (f ∷ g ∷ fs) = some_holds_of s (f ∷ g ∷ fs)

-- ---- the truth of a folded formula

atom_truth : (s : ℕ → Bool) (k : Three) (a : ℕ) → Fits k (s a) → holds_in s (folded_atom k a) ≡ s a
atom_truth s Yes a h = sym h
atom_truth s No a h = sym h
atom_truth s Unknown a h = refl

not_truth : (s : ℕ → Bool) (f : Formula) → holds_in s (folded_not f) ≡ not (holds_in s f)
not_truth s Always = refl
not_truth s Never = refl
not_truth s (Atomic a) = refl
not_truth s (Negation f) = refl
not_truth s (Conjunction fs) = refl
not_truth s (Disjunction fs) = refl

and_truth : (s : ℕ → Bool) (fs : List Formula) → holds_in s (folded_and fs) ≡ list_all (holds_in s) fs
and_truth s fs =
    ⊎_elim
    (λ e. ap (holds_in s) (cond-true (list_any is_never fs) Never (together Always Conjunction (filter (λ f. not (is_always f)) fs)) e) ∙ sym (one_never s fs e))
    (λ e. ap (holds_in s) (cond-false (list_any is_never fs) Never (together Always Conjunction (filter (λ f. not (is_always f)) fs)) e)
    ∙ (all_together s (filter (λ f. not (is_always f)) fs) ∙ all_left s fs))
    (cases_Bool (list_any is_never fs))

or_truth : (s : ℕ → Bool) (fs : List Formula) → holds_in s (folded_or fs) ≡ list_any (holds_in s) fs
or_truth s fs =
    ⊎_elim
    (λ e. ap (holds_in s) (cond-true (list_any is_always fs) Always (together Never Disjunction (filter (λ f. not (is_never f)) fs)) e) ∙ sym (one_always s fs e))
    (λ e. ap (holds_in s) (cond-false (list_any is_always fs) Always (together Never Disjunction (filter (λ f. not (is_never f)) fs)) e)
    ∙ (some_together s (filter (λ f. not (is_never f)) fs) ∙ some_left s fs))
    (cases_Bool (list_any is_always fs))

mutual
  fold_truth : (known : ℕ → Three) (s : ℕ → Bool) → Agrees known s → (f : Formula) → holds_in s (folded known f) ≡ holds_in s f
  fold_truth known s fits Always = refl
  fold_truth known s fits Never = refl
  fold_truth known s fits (Atomic a) = atom_truth s (known a) a (fits a)
  fold_truth known s fits (Negation f) = not_truth s (folded known f) ∙ ap not (fold_truth known s fits f)
  fold_truth known s fits (Conjunction fs) = and_truth s (folded_all known fs) ∙ fold_all_hold known s fits fs
  fold_truth known s fits (Disjunction fs) = or_truth s (folded_all known fs) ∙ fold_some_holds known s fits fs

  fold_all_hold : (known : ℕ → Three) (s : ℕ → Bool) → Agrees known s → (fs : Formulas) → list_all (holds_in s) (folded_all known fs) ≡ all_hold s fs
  fold_all_hold known s fits NoMore = refl
  fold_all_hold known s fits (More f fs) = ap (λ b. b && list_all (holds_in s) (folded_all known fs)) (fold_truth known s fits f) ∙ ap (λ b. holds_in s f && b) (fold_all_hold known s fits fs)

  fold_some_holds : (known : ℕ → Three) (s : ℕ → Bool) → Agrees known s → (fs : Formulas) → list_any (holds_in s) (folded_all known fs) ≡ some_holds s fs
  fold_some_holds known s fits NoMore = refl
  fold_some_holds known s fits (More f fs) = ap (λ b. b || list_any (holds_in s) (folded_all known fs)) (fold_truth known s fits f) ∙ ap (λ b. holds_in s f || b) (fold_some_holds known s fits fs)

pub folding_keeps_truth : FoldingKeepsTruth
folding_keeps_truth known s f fits = fold_truth known s fits f

-- ---- the atoms of a folded formula

-- the atoms of each of these formulas are among these
abbrev all_within : (ℕ → Bool) → List Formula → Bool
all_within these fs = list_all (λ f. list_all these (atoms_in f)) fs

within_of : (these : ℕ → Bool) (fs : List Formula) → list_all these (atoms_in_all (formulas_of fs)) ≡ all_within these fs
within_of these [] = refl
within_of these (f ∷ fs) = list_all-append these (atoms_in f) (atoms_in_all (formulas_of fs)) ∙ ap (λ b. list_all these (atoms_in f) && b) (within_of these fs)

within_cond : (these : ℕ → Bool) (b : Bool) (f : Formula) (fs : List Formula) → list_all these (atoms_in f) ≡ true → all_within these fs ≡ true → all_within these (cond b (f ∷ fs) fs) ≡ true
within_cond these true f fs h k = and_from (list_all these (atoms_in f)) (all_within these fs) h k
within_cond these false f fs h k = k

within_filter : (these : ℕ → Bool) (p : Formula → Bool) (fs : List Formula) → all_within these fs ≡ true → all_within these (filter p fs) ≡ true
within_filter these p [] h = refl
within_filter these p (f ∷ fs) h =
    let parts = and_parts (list_all these (atoms_in f)) (all_within these fs) h in
    within_cond these (p f) f (filter p fs) parts.0 (within_filter these p fs parts.1)

within_and : (these : ℕ → Bool) (fs : List Formula) → all_within these fs ≡ true → list_all these (atoms_in (together Always Conjunction fs)) ≡ true
within_and these [] h = refl
within_and these (f ∷ []) h = (and_parts (list_all these (atoms_in f)) true h).0
within_and these (f ∷ g ∷ fs) h = within_of these (f ∷ g ∷ fs) ∙ h

within_or : (these : ℕ → Bool) (fs : List Formula) → all_within these fs ≡ true → list_all these (atoms_in (together Never Disjunction fs)) ≡ true
within_or these [] h = refl
within_or these (f ∷ []) h = (and_parts (list_all these (atoms_in f)) true h).0
within_or these (f ∷ g ∷ fs) h = within_of these (f ∷ g ∷ fs) ∙ h

within_choice : (these : ℕ → Bool) (b : Bool) (f g : Formula) → list_all these (atoms_in f) ≡ true → list_all these (atoms_in g) ≡ true → list_all these (atoms_in (cond b f g)) ≡ true
within_choice these true f g h k = h
within_choice these false f g h k = k

atom_within : (these : ℕ → Bool) (k : Three) (a : ℕ) → list_all these (a ∷ []) ≡ true → list_all these (atoms_in (folded_atom k a)) ≡ true
atom_within these Yes a h = refl
atom_within these No a h = refl
atom_within these Unknown a h = h

not_within : (these : ℕ → Bool) (f : Formula) → list_all these (atoms_in f) ≡ true → list_all these (atoms_in (folded_not f)) ≡ true
not_within these Always h = refl
not_within these Never h = refl
not_within these (Atomic a) h = h
not_within these (Negation f) h = h
not_within these (Conjunction fs) h = h
not_within these (Disjunction fs) h = h

mutual
  fold_within : (known : ℕ → Three) (these : ℕ → Bool) (f : Formula) → list_all these (atoms_in f) ≡ true → list_all these (atoms_in (folded known f)) ≡ true
  fold_within known these Always h = refl
  fold_within known these Never h = refl
  fold_within known these (Atomic a) h = atom_within these (known a) a h
  fold_within known these (Negation f) h = not_within these (folded known f) (fold_within known these f h)
  fold_within known these (Conjunction fs) h =
      let k = fold_all_within known these fs h in
      within_choice these (list_any is_never (folded_all known fs)) Never (together Always Conjunction (filter (λ f. not (is_always f)) (folded_all known fs))) refl
      (within_and these (filter (λ f. not (is_always f)) (folded_all known fs)) (within_filter these (λ f. not (is_always f)) (folded_all known fs) k))
  fold_within known these (Disjunction fs) h =
      let k = fold_all_within known these fs h in
      within_choice these (list_any is_always (folded_all known fs)) Always (together Never Disjunction (filter (λ f. not (is_never f)) (folded_all known fs))) refl
      (within_or these (filter (λ f. not (is_never f)) (folded_all known fs)) (within_filter these (λ f. not (is_never f)) (folded_all known fs) k))

  fold_all_within : (known : ℕ → Three) (these : ℕ → Bool) (fs : Formulas) → list_all these (atoms_in_all fs) ≡ true → all_within these (folded_all known fs) ≡ true
  fold_all_within known these NoMore h = refl
  fold_all_within known these (More f fs) h =
      let parts = and_parts (list_all these (atoms_in f)) (list_all these (atoms_in_all fs)) (sym (list_all-append these (atoms_in f) (atoms_in_all fs)) ∙ h) in
      and_from (list_all these (atoms_in (folded known f))) (all_within these (folded_all known fs)) (fold_within known these f parts.0) (fold_all_within known these fs parts.1)

pub folding_keeps_atoms : FoldingKeepsAtoms
folding_keeps_atoms = fold_within

-- ---- other atoms

mutual
  image_truth : (image : ℕ → ℕ) (s : ℕ → Bool) (f : Formula) → holds_in s (substituted image f) ≡ holds_in (λ a. s (image a)) f
  image_truth image s Always = refl
  image_truth image s Never = refl
  image_truth image s (Atomic a) = refl
  image_truth image s (Negation f) = ap not (image_truth image s f)
  image_truth image s (Conjunction fs) = image_all_hold image s fs
  image_truth image s (Disjunction fs) = image_some_holds image s fs

  image_all_hold : (image : ℕ → ℕ) (s : ℕ → Bool) (fs : Formulas) → all_hold s (substituted_all image fs) ≡ all_hold (λ a. s (image a)) fs
  image_all_hold image s NoMore = refl
  image_all_hold image s (More f fs) = ap (λ b. b && all_hold s (substituted_all image fs)) (image_truth image s f) ∙ ap (λ b. holds_in (λ a. s (image a)) f && b) (image_all_hold image s fs)

  image_some_holds : (image : ℕ → ℕ) (s : ℕ → Bool) (fs : Formulas) → some_holds s (substituted_all image fs) ≡ some_holds (λ a. s (image a)) fs
  image_some_holds image s NoMore = refl
  image_some_holds image s (More f fs) = ap (λ b. b || some_holds s (substituted_all image fs)) (image_truth image s f) ∙ ap (λ b. holds_in (λ a. s (image a)) f || b) (image_some_holds image s fs)

pub substitution_keeps_truth : SubstitutionKeepsTruth
substitution_keeps_truth = image_truth

mutual
  image_atoms : (image : ℕ → ℕ) (f : Formula) → atoms_in (substituted image f) ≡ map image (atoms_in f)
  image_atoms image Always = refl
  image_atoms image Never = refl
  image_atoms image (Atomic a) = refl
  image_atoms image (Negation f) = image_atoms image f
  image_atoms image (Conjunction fs) = image_all_atoms image fs
  image_atoms image (Disjunction fs) = image_all_atoms image fs

  image_all_atoms : (image : ℕ → ℕ) (fs : Formulas) → atoms_in_all (substituted_all image fs) ≡ map image (atoms_in_all fs)
  image_all_atoms image NoMore = refl
  image_all_atoms image (More f fs) =
      ap (λ l. l ++ atoms_in_all (substituted_all image fs)) (image_atoms image f)
      ∙ ap (λ l. map image (atoms_in f) ++ l) (image_all_atoms image fs)
      ∙ sym (map-append image (atoms_in f) (atoms_in_all fs))

pub substitution_maps_atoms : SubstitutionMapsAtoms
substitution_maps_atoms = image_atoms
