-- Folding makes a condition false exactly where its value is no, over each table that has its fluent atoms.
use Rattle.std.proofs.Common.{◌≡◌, ℕ, Bool, true, false, not, ◌||◌, ◌==◌, if◌then◌else◌, List, [], ◌∷◌, map, Option, Some, None, refl, ap, sym, ◌∙◌, get_or}
use Rattle.std.specs.Option.{is_some}
use Rattle.std.specs.List.{list_all, list_any, filter}
use Rattle.std.proofs.lemmas.Bool.{and_parts}
use Rattle.std.proofs.lemmas.List.Folds.{list_all-append}
use Rattle.std.proofs.lemmas.List.Elements.{Contains-get_or}
use Rattle.std.proofs.lemmas.List.Sums.{list_all-from_AllPass}
use Rattle.stp_schema.specs.Formula.{Formula as Condition}
use Rattle.stp_schema.specs.Views.{PlainProblem}
use Rattle.stp_tables.specs.Atoms.{Atom, number_of}
use Rattle.stp_cond.specs.declared.known.Three.{Three}
use Rattle.stp_cond.specs.declared.known.Three.TheVariants.{Yes, No, Unknown}
use Rattle.stp_cond.specs.Decided.{three_of, opposite, both, either, all_three, any_three}
use Rattle.stp_cond.specs.Formulas.{Formula, Always, Never, Atomic, Negation, Conjunction, Disjunction}
use Rattle.stp_cond.specs.Folded.{is_always, is_never, together, folded, folded_all, folded_not, folded_and, folded_or}
use Rattle.stp_instance.specs.Expanded.{expanded, Claim, Claims, Stated, Alike, Denied, AllOf, AnyOf, NoClaims, Also}
use Rattle.stp_instance.specs.Numbered.{is_in, constant, by_number, numbered, numbered_all, fluent_atoms, fluent_atoms_of_all, with_atoms}
use Rattle.stp_instance.proofs.Gained.{each}
use Rattle.stp_instance.specs.Typing.{Typing, objects_in}
use Rattle.stp_ground.specs.Typing.{typing_of}
use Rattle.stp_ground.specs.Problems.{below, is_fact, is_written}
use Rattle.stp_kept.specs.Settled.{folds_to_false, is_no, settled, settled_all, settled_in}

-- the value that a folded formula shows
abbrev pub shown_by : Formula → Three
shown_by Always = Yes
shown_by Never = No
shown_by (Atomic atom) = Unknown
shown_by (Negation f) = Unknown
shown_by (Conjunction fs) = Unknown
shown_by (Disjunction fs) = Unknown

never_shown : (f : Formula) → is_never f ≡ is_no (shown_by f)
never_shown Always = refl
never_shown Never = refl
never_shown (Atomic atom) = refl
never_shown (Negation f) = refl
never_shown (Conjunction fs) = refl
never_shown (Disjunction fs) = refl

not_shown : (f : Formula) → shown_by (folded_not f) ≡ opposite (shown_by f)
not_shown Always = refl
not_shown Never = refl
not_shown (Atomic atom) = refl
not_shown (Negation f) = refl
not_shown (Conjunction fs) = refl
not_shown (Disjunction fs) = refl

constant_shown : (b : Bool) → shown_by (folded (λ atom. Unknown) (constant b)) ≡ three_of b
constant_shown true = refl
constant_shown false = refl

-- ---- conjunctions

-- how many are left: none, one, or more
abbrev left_shown : Three → List Formula → Three
left_shown none [] = none
left_shown none (f ∷ fs) = Unknown

no_among : (fs : List Formula) → list_any is_never fs ≡ true → all_three (map shown_by fs) ≡ No
no_among [] e = cc
no_among (Never ∷ fs) e = refl
no_among (Always ∷ fs) e = no_among fs e
no_among (Atomic atom ∷ fs) e = ap (both Unknown) (no_among fs e)
no_among (Negation f ∷ fs) e = ap (both Unknown) (no_among fs e)
no_among (Conjunction gs ∷ fs) e = ap (both Unknown) (no_among fs e)
no_among (Disjunction gs ∷ fs) e = ap (both Unknown) (no_among fs e)

abbrev undecided : List Formula → Three
undecided fs = left_shown Yes (filter (λ f. not (is_always f)) fs)

after_unknown : (fs : List Formula) → all_three (map shown_by fs) ≡ undecided fs → both Unknown (all_three (map shown_by fs)) ≡ Unknown
after_unknown fs e = ap (both Unknown) e ∙ unknown (filter (λ f. not (is_always f)) fs)
  where
    unknown : (gs : List Formula) → both Unknown (left_shown Yes gs) ≡ Unknown
    unknown [] = refl
    unknown (g ∷ gs) = refl

none_among : (fs : List Formula) → list_any is_never fs ≡ false → all_three (map shown_by fs) ≡ undecided fs
none_among [] e = refl
none_among (Never ∷ fs) e = cc
none_among (Always ∷ fs) e = none_among fs e
none_among (Atomic atom ∷ fs) e = after_unknown fs (none_among fs e)
none_among (Negation f ∷ fs) e = after_unknown fs (none_among fs e)
none_among (Conjunction gs ∷ fs) e = after_unknown fs (none_among fs e)
none_among (Disjunction gs ∷ fs) e = after_unknown fs (none_among fs e)

-- of those that are left none is true and none is false
still_none : (fs : List Formula) → list_any is_never fs ≡ false → list_any is_never (filter (λ f. not (is_always f)) fs) ≡ false
still_none [] e = refl
still_none (Never ∷ fs) e = cc
still_none (Always ∷ fs) e = still_none fs e
still_none (Atomic atom ∷ fs) e = still_none fs e
still_none (Negation f ∷ fs) e = still_none fs e
still_none (Conjunction gs ∷ fs) e = still_none fs e
still_none (Disjunction gs ∷ fs) e = still_none fs e

no_always : (fs : List Formula) → list_any is_always (filter (λ f. not (is_always f)) fs) ≡ false
no_always [] = refl
no_always (Never ∷ fs) = no_always fs
no_always (Always ∷ fs) = no_always fs
no_always (Atomic atom ∷ fs) = no_always fs
no_always (Negation f ∷ fs) = no_always fs
no_always (Conjunction gs ∷ fs) = no_always fs
no_always (Disjunction gs ∷ fs) = no_always fs

one_shown : (f : Formula) → (is_never f || false) ≡ false → (is_always f || false) ≡ false → shown_by f ≡ Unknown
one_shown Always a b = cc
one_shown Never a b = cc
one_shown (Atomic atom) a b = refl
one_shown (Negation f) a b = refl
one_shown (Conjunction fs) a b = refl
one_shown (Disjunction fs) a b = refl

and_together : (gs : List Formula) → list_any is_never gs ≡ false → list_any is_always gs ≡ false → shown_by (together Always Conjunction gs) ≡ left_shown Yes gs
and_together [] a b = refl
and_together (f ∷ []) a b = one_shown f a b
and_together (f ∷ g ∷ gs) a b = refl

and_shown_at : (fs : List Formula) (some : Bool) → list_any is_never fs ≡ some → shown_by (if some then Never else together Always Conjunction (filter (λ f. not (is_always f)) fs)) ≡ all_three (map shown_by fs)
and_shown_at fs true e = sym (no_among fs e)
and_shown_at fs false e = and_together (filter (λ f. not (is_always f)) fs) (still_none fs e) (no_always fs) ∙ sym (none_among fs e)

and_shown : (fs : List Formula) → shown_by (folded_and fs) ≡ all_three (map shown_by fs)
and_shown fs = and_shown_at fs (list_any is_never fs) refl

-- ---- disjunctions

yes_among : (fs : List Formula) → list_any is_always fs ≡ true → any_three (map shown_by fs) ≡ Yes
yes_among [] e = cc
yes_among (Always ∷ fs) e = refl
yes_among (Never ∷ fs) e = yes_among fs e
yes_among (Atomic atom ∷ fs) e = ap (either Unknown) (yes_among fs e)
yes_among (Negation f ∷ fs) e = ap (either Unknown) (yes_among fs e)
yes_among (Conjunction gs ∷ fs) e = ap (either Unknown) (yes_among fs e)
yes_among (Disjunction gs ∷ fs) e = ap (either Unknown) (yes_among fs e)

abbrev open_still : List Formula → Three
open_still fs = left_shown No (filter (λ f. not (is_never f)) fs)

or_unknown : (fs : List Formula) → any_three (map shown_by fs) ≡ open_still fs → either Unknown (any_three (map shown_by fs)) ≡ Unknown
or_unknown fs e = ap (either Unknown) e ∙ unknown (filter (λ f. not (is_never f)) fs)
  where
    unknown : (gs : List Formula) → either Unknown (left_shown No gs) ≡ Unknown
    unknown [] = refl
    unknown (g ∷ gs) = refl

no_yes : (fs : List Formula) → list_any is_always fs ≡ false → any_three (map shown_by fs) ≡ open_still fs
no_yes [] e = refl
no_yes (Always ∷ fs) e = cc
no_yes (Never ∷ fs) e = no_yes fs e
no_yes (Atomic atom ∷ fs) e = or_unknown fs (no_yes fs e)
no_yes (Negation f ∷ fs) e = or_unknown fs (no_yes fs e)
no_yes (Conjunction gs ∷ fs) e = or_unknown fs (no_yes fs e)
no_yes (Disjunction gs ∷ fs) e = or_unknown fs (no_yes fs e)

still_no_yes : (fs : List Formula) → list_any is_always fs ≡ false → list_any is_always (filter (λ f. not (is_never f)) fs) ≡ false
still_no_yes [] e = refl
still_no_yes (Always ∷ fs) e = cc
still_no_yes (Never ∷ fs) e = still_no_yes fs e
still_no_yes (Atomic atom ∷ fs) e = still_no_yes fs e
still_no_yes (Negation f ∷ fs) e = still_no_yes fs e
still_no_yes (Conjunction gs ∷ fs) e = still_no_yes fs e
still_no_yes (Disjunction gs ∷ fs) e = still_no_yes fs e

no_never : (fs : List Formula) → list_any is_never (filter (λ f. not (is_never f)) fs) ≡ false
no_never [] = refl
no_never (Never ∷ fs) = no_never fs
no_never (Always ∷ fs) = no_never fs
no_never (Atomic atom ∷ fs) = no_never fs
no_never (Negation f ∷ fs) = no_never fs
no_never (Conjunction gs ∷ fs) = no_never fs
no_never (Disjunction gs ∷ fs) = no_never fs

or_together : (gs : List Formula) → list_any is_never gs ≡ false → list_any is_always gs ≡ false → shown_by (together Never Disjunction gs) ≡ left_shown No gs
or_together [] a b = refl
or_together (f ∷ []) a b = one_shown f a b
or_together (f ∷ g ∷ gs) a b = refl

or_shown_at : (fs : List Formula) (some : Bool) → list_any is_always fs ≡ some → shown_by (if some then Always else together Never Disjunction (filter (λ f. not (is_never f)) fs)) ≡ any_three (map shown_by fs)
or_shown_at fs true e = sym (yes_among fs e)
or_shown_at fs false e = or_together (filter (λ f. not (is_never f)) fs) (no_never fs) (still_no_yes fs e) ∙ sym (no_yes fs e)

or_shown : (fs : List Formula) → shown_by (folded_or fs) ≡ any_three (map shown_by fs)
or_shown fs = or_shown_at fs (list_any is_always fs) refl

-- ---- conditions

atom_shown : (fluent : Bool) (number : Option ℕ) (known : Bool) → (fluent ≡ true → is_some number ≡ true) → shown_by (folded (λ atom. Unknown) (if fluent then by_number number else constant known)) ≡ (if fluent then Unknown else three_of known)
atom_shown false number known h = constant_shown known
atom_shown true (Some number) known h = refl
atom_shown true None known h = let e = h refl in cc

numbered_alone : (table : List Atom) (atom : Atom) (fluent : Bool) → list_all (is_in table) (if fluent then atom ∷ [] else []) ≡ true → fluent ≡ true → is_in table atom ≡ true
numbered_alone table atom true h e = (and_parts (is_in table atom) true h).0
numbered_alone table atom false h e = cc

module _ (fluent : ℕ → Bool) (is_true : Atom → Bool) (table : List Atom) where
  abbrev left : Claim → Formula
  left claim = folded (λ atom. Unknown) (numbered fluent is_true table claim)

  mutual
    pub value_shown : (claim : Claim) → list_all (is_in table) (fluent_atoms fluent claim) ≡ true → shown_by (folded (λ atom. Unknown) (numbered fluent is_true table claim)) ≡ settled fluent is_true claim
    value_shown (Stated atom) h = atom_shown (fluent atom.predicate) (number_of table atom) (is_true atom) (numbered_alone table atom (fluent atom.predicate) h)
    value_shown (Alike one other) h = constant_shown (one == other)
    value_shown (Denied inner) h = not_shown (folded (λ atom. Unknown) (numbered fluent is_true table inner)) ∙ ap opposite (value_shown inner h)
    value_shown (AllOf members) h = and_shown (folded_all (λ atom. Unknown) (numbered_all fluent is_true table members)) ∙ ap all_three (values_shown members h)
    value_shown (AnyOf members) h = or_shown (folded_all (λ atom. Unknown) (numbered_all fluent is_true table members)) ∙ ap any_three (values_shown members h)

    values_shown : (members : Claims) → list_all (is_in table) (fluent_atoms_of_all fluent members) ≡ true → map shown_by (folded_all (λ atom. Unknown) (numbered_all fluent is_true table members)) ≡ settled_all fluent is_true members
    values_shown NoClaims h = refl
    values_shown (Also first rest) h =
        let both_in = and_parts (list_all (is_in table) (fluent_atoms fluent first)) (list_all (is_in table) (fluent_atoms_of_all fluent rest)) (sym (list_all-append (is_in table) (fluent_atoms fluent first) (fluent_atoms_of_all fluent rest)) ∙ h) in
        ap (λ t. t ∷ map shown_by (folded_all (λ atom. Unknown) (numbered_all fluent is_true table rest))) (value_shown first both_in.0)
        ∙ ap (λ ts. settled fluent is_true first ∷ ts) (values_shown rest both_in.1)

  -- folding makes it false exactly where its value is no
  pub false_shown : (claim : Claim) → list_all (is_in table) (fluent_atoms fluent claim) ≡ true → is_never (folded (λ atom. Unknown) (numbered fluent is_true table claim)) ≡ is_no (settled fluent is_true claim)
  false_shown claim h = never_shown (folded (λ atom. Unknown) (numbered fluent is_true table claim)) ∙ ap is_no (value_shown claim h)

pub folds_by_value : (p : PlainProblem) (claim : Claim) → folds_to_false p claim ≡ is_no (settled_in p claim)
folds_by_value p claim =
    let atoms = fluent_atoms (is_written p) claim in
    false_shown (is_written p) (is_fact p) (with_atoms [] atoms) claim
    (list_all-from_AllPass (is_in (with_atoms [] atoms)) atoms (λ k d l. each [] atoms (get_or atoms k d) (Contains-get_or atoms k d l)))

-- the same by tables of a problem
pub refuted : (p : PlainProblem) (fluent : ℕ → Bool) (known : Atom → Bool) (typing : Typing) (binding : List ℕ) (f : Condition) → fluent ≡ is_written p → known ≡ is_fact p → typing ≡ typing_of p → is_no (settled fluent known (expanded (objects_in typing) binding f)) ≡ folds_to_false p (expanded (below p) binding f)
refuted p fluent known typing binding f e i m =
    ap (λ g. is_no (settled g known (expanded (objects_in typing) binding f))) e
    ∙ ap (λ g. is_no (settled (is_written p) g (expanded (objects_in typing) binding f))) i
    ∙ ap (λ t. is_no (settled (is_written p) (is_fact p) (expanded (objects_in t) binding f))) m
    ∙ sym (folds_by_value p (expanded (below p) binding f))
