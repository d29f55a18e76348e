-- Which formulas may be judged apart, and what the two cases of one end say of all ends.
use Rattle.std.proofs.Common.{◌≡◌, ℕ, ◌==◌, Bool, true, false, not, ◌||◌, List, Contains, ◌⊎◌, inl, inr, refl, ap, sym, ◌∙◌, subst, arith, eqb-true, eq-eqb}
use Rattle.std.proofs.lemmas.Bool.{cases_Bool}
use Rattle.std.proofs.lemmas.Bool.Decides.{nat_tests}
use Rattle.stp_cond.specs.declared.cond.Cond.{Cond}
use Rattle.stp_cond.specs.Atoms.{has, changed_by}
use Rattle.stp_cond.specs.Truth.{truth}
use Rattle.stp_cond.proofs.Rising.{Contains_from_has}
use Rattle.stp_happen.proofs.Members.{here, there, member_cases, any_passes}
use Rattle.stp_window.specs.Windows.{Point}
use Rattle.stp_split.specs.Cases.{written, AreCases, have_come, without_step, atoms_read, turns, turns_at}
use Rattle.stp_split.specs.Judged.{EachFails}
use Rattle.stp_split.specs.Laws.{OneIsEnough, OthersAreEnough, ApartFormulasFailTogether, BothCasesAreAll, StayedCasesFail, ComeCasesFail}
use Rattle.stp_split.proofs.Written.{truth_alike, written_alike, written_more, written_stayed, written_came, rest_within, rest_cases, turned_before}

or_left : (b c : Bool) → b ≡ true → (b || c) ≡ true
or_left b c e = grind arith

or_right : (b c : Bool) → c ≡ true → (b || c) ≡ true
or_right b c e = grind arith

or_cases : (b c : Bool) → (b || c) ≡ true → (b ≡ true) ⊎ (c ≡ true)
or_cases true c e = inl refl
or_cases false c e = inr e

-- ---- apart

pub one_is_enough : OneIsEnough
one_is_enough c cs want ends state always = λ came. (c, here c cs, always came)

pub others_are_enough : OthersAreEnough
others_are_enough c cs want ends state always = λ came. let r = always came in (r.0, there c cs r.0 r.1, r.2)

-- an end that would change none of these atoms
unturned : (p : Point) (state : ℕ → Bool) (c : Cond) → (turns p state c ≡ true → ⊥) → (a : ℕ) → has (atoms_read c) a ≡ true → turns_at p state a ≡ false
unturned p state c none a h = elim (cases_Bool (turns_at p state a)) [ inl e ↦ absurd (none (any_passes (turns_at p state) (atoms_read c) a (Contains_from_has (atoms_read c) a h) e)) | inr e ↦ e ]

-- a formula keeps its truth where ends come besides that would change none of its atoms
truth_with : (c : Cond) (ends : List Point) (state : ℕ → Bool) (some more all : List ℕ) → ((n : ℕ) → has all n ≡ (has some n || has more n)) → AreCases ends →
    ((p : Point) → Contains ends p → has more p.step ≡ true → turns p state c ≡ true → ⊥) → truth (written ends (have_come all) state) c ≡ truth (written ends (have_come some) state) c
truth_with c ends state some more all told cases none =
    truth_alike c (written ends (have_come all) state) (written ends (have_come some) state) (λ a h.
    written_more ends cases (have_come some) (have_come all) state a (λ p i e. told p.step ∙ or_left (has some p.step) (has more p.step) e)
    (λ p i e. by_cases p i a h (or_cases (has some p.step) (has more p.step) (sym (told p.step) ∙ e))))
  where
    by_cases : (p : Point) → Contains ends p → (a : ℕ) → has (atoms_read c) a ≡ true → (has some p.step ≡ true) ⊎ (has more p.step ≡ true) → (has some p.step ≡ true) ⊎ (turns_at p state a ≡ false)
    by_cases p i a h (inl e) = inl e
    by_cases p i a h (inr e) = inr (unturned p state c (none p i e) a h)

-- the end of a step is one alone
the_end : (ends : List Point) → AreCases ends → (state : ℕ → Bool) (p q : Point) → Contains ends p → Contains ends q → q.step ≡ p.step → (c : Cond) → turns q state c ≡ true → turns p state c ≡ true
the_end ends cases state p q i j e c h = subst (λ (x : Point). turns x state c ≡ true) (cases.one_each q p j i e) h

or_turned : (b c : Bool) → (b || c) ≡ (c || b)
or_turned true true = refl
or_turned true false = refl
or_turned false true = refl
or_turned false false = refl

pub apart_formulas_fail_together : ApartFormulasFailTogether
apart_formulas_fail_together c cs want ends state one more all told cases apart first rest = record {
  fails = λ d i. elim (member_cases c cs d i) [
    | inl e ↦ subst (λ x. truth (written ends (have_come all) state) x ≡ not want) e (
        truth_with c ends state one more all told cases (λ p k h turned. let r = rest.few p.step h in apart p k turned r.3.0 r.3.1 (the_end ends cases state p r.0 k r.1 r.2 r.3.0 r.3.2))
        ∙ first.fails)
    | inr j ↦
        truth_with d ends state more one all (λ n. told n ∙ or_turned (has one n) (has more n)) cases (λ p k h turned. let r = first.few p.step h in apart p k (the_end ends cases state p r.0 k r.1 r.2 c r.3) d j turned)
        ∙ rest.fails d j
  ];
  few = λ n h. elim (or_cases (has one n) (has more n) (sym (told n) ∙ h)) [
    | inl e ↦ let r = first.few n e in (r.0, r.1, r.2, (c, here c cs, r.3))
    | inr e ↦ let r = rest.few n e in (r.0, r.1, r.2, (r.3.0, there c cs r.3.0 r.3.1, r.3.2))
  ];
}

-- ---- one end that comes or does not

pub both_cases_are_all : BothCasesAreAll
both_cases_are_all cs want ends state p cases i stayed come = λ came. elim (cases_Bool (came p)) [
  | inl h ↦ let r = come came in (
    r.0,
    r.1,
    truth_alike r.0 (written ends came state) (written (without_step p.step ends) came (changed_by p.event state)) (λ a k. written_came ends cases came state a p i h) ∙ r.2,
  )
  | inr h ↦ let r = stayed came in (
    r.0,
    r.1,
    truth_alike r.0 (written ends came state) (written (without_step p.step ends) came state) (λ a k. written_stayed ends cases came state a p i h) ∙ r.2,
  )
]

-- no end of the rest is of the step
not_come : (cs : List Cond) (want : Bool) (ends : List Point) (state : ℕ → Bool) (p : Point) (steps : List ℕ) → EachFails cs want (without_step p.step ends) state steps → have_come steps p ≡ false
not_come cs want ends state p steps rest = elim (cases_Bool (has steps p.step)) [
  | inl h ↦ let r = rest.few p.step h in absurd ((rest_within p.step ends r.0 r.1).1 r.2)
  | inr h ↦ h
]

pub stayed_cases_fail : StayedCasesFail
stayed_cases_fail cs want ends state p steps cases i rest =
    let stayed = not_come cs want ends state p steps rest in
    record {
      fails = λ c j. truth_alike c (written ends (have_come steps) state) (written (without_step p.step ends) (have_come steps) state) (λ a k. written_stayed ends cases (have_come steps) state a p i stayed) ∙ rest.fails c j;
      few = λ n h. let r = rest.few n h in (r.0, (rest_within p.step ends r.0 r.1).0, r.2, r.3);
    }

-- the ends of the rest that have come are the same
rest_alike : (p q : Point) (steps all : List ℕ) → has all q.step ≡ ((p.step == q.step) || has steps q.step) → (q.step ≡ p.step → ⊥) → has all q.step ≡ has steps q.step
rest_alike p q steps all told other = told ∙ ap (λ b. b || has steps q.step) (unlike p.step q.step other)
  where
    unlike : (m n : ℕ) → (n ≡ m → ⊥) → (m == n) ≡ false
    unlike m n h = grind (arith, nat_tests)

pub come_cases_fail : ComeCasesFail
come_cases_fail cs want ends state p c steps all told cases i there_c turned rest =
    let come : have_come all p ≡ true = told p.step ∙ ap (λ b. b || has steps p.step) (eq-eqb p.step p.step refl) in
    record {
      fails = λ d j. truth_alike d (written ends (have_come all) state) (written (without_step p.step ends) (have_come steps) (changed_by p.event state)) (λ a k.
          written_came ends cases (have_come all) state a p i come
          ∙ written_alike (without_step p.step ends) (rest_cases p.step ends cases) (have_come all) (have_come steps) (changed_by p.event state) a (λ q l. rest_alike p q steps all (told q.step) (rest_within p.step ends q l).1))
          ∙ rest.fails d j;
      few = λ n h. elim (or_cases (p.step == n) (has steps n) (sym (told n) ∙ h)) [
        | inl e ↦ (p, i, eqb-true p.step n e, (c, there_c, turned))
        | inr e ↦
            let r = rest.few n e in
            let within = (rest_within p.step ends r.0 r.1).0 in
            (r.0, within, r.2, (r.3.0, r.3.1, turned_before ends cases p r.0 i within state r.3.0 r.3.2))
      ];
    }
