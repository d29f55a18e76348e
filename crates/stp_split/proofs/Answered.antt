-- What is answered of a formula by what is answered of its parts.
use Rattle.std.proofs.Common.{◌≡◌, ℕ, Bool, true, false, not, ◌&&◌, ◌||◌, List, [], ◌∷◌, map, Contains, Option, Some, None, MatchOption, inl, inr, refl, ap, sym, ◌∙◌, true≢false, eqb-true, eq-eqb, ◌==◌, Bor}
use mathlib.Core.Bool.{beq}
use Rattle.stp_base.specs.declared.ids.AtomId.{AtomId}
use Rattle.stp_cond.specs.declared.cond.Cond.{Cond}
use Rattle.stp_cond.specs.declared.cond.Cond.TheVariants.{Atom, Not, And, Or}
use Rattle.stp_cond.specs.Atoms.{has}
use Rattle.stp_cond.specs.Truth.{all_of, any_of, truth}
use Rattle.stp_cond.proofs.Equations.{truth_atom, truth_not, truth_and, truth_or}
use Rattle.stp_happen.proofs.Members.{here, there, member_cases, member_nil}
use Rattle.stp_window.specs.Windows.{Point}
use Rattle.stp_split.specs.Cases.{AreCases, written, have_come, turns_at}
use Rattle.stp_split.specs.Judged.{IsAlways, FailsAt, EachAlways, OneFails, SomeAlways, EachFails, IsAtomAlways, AtomFailsAt}
use Rattle.stp_split.proofs.Turned.{turns_not, turns_atom, turns_and, turns_or, turned_way}
use Rattle.stp_split.proofs.Written.{written_by, written_by_none, written_more, no_writer}

not_twice : (b : Bool) → not (not b) ≡ b
not_twice true = refl
not_twice false = refl

-- ---- constants and atoms

pub constant_answered : (cond : Cond) (value : Bool) → ((s : ℕ → Bool) → truth s cond ≡ value) → (want : Bool) (ends : List Point) (state : ℕ → Bool) (r : Option (List ℕ)) → MatchOption r (value ≡ want) (λ steps. (steps ≡ []) × (value ≡ not want)) →
    MatchOption r (IsAlways cond want ends state) (λ steps. FailsAt cond want ends state steps)
constant_answered cond value is want ends state None h = λ came. is (written ends came state) ∙ h
constant_answered cond value is want ends state (Some steps) h = record {
  fails = is (written ends (have_come steps) state) ∙ h.1;
  few = λ n e. absurd (true≢false (sym e ∙ ap (λ ns. has ns n) h.0));
}

pub atom_answered : (cond : Cond) (atom : AtomId) → cond ≡ Atom atom → (want : Bool) (ends : List Point) (state : ℕ → Bool) (r : Option (List ℕ)) → MatchOption r (IsAtomAlways atom.0 want ends state) (λ steps. AtomFailsAt atom.0 want ends state steps) →
    MatchOption r (IsAlways cond want ends state) (λ steps. FailsAt cond want ends state steps)
atom_answered cond atom is want ends state None h = λ came. ap (truth (written ends came state)) is ∙ truth_atom (written ends came state) atom ∙ h came
atom_answered cond atom is want ends state (Some steps) h = record {
  fails = ap (truth (written ends (have_come steps) state)) is ∙ truth_atom (written ends (have_come steps) state) atom ∙ h.fails;
  few = λ n e. let r = h.few n e in (r.0, r.1, r.2, turns_atom r.0 state cond atom is r.3);
}

-- an atom that does not have the value before any end
pub atom_fails_at_first : (atom : ℕ) (want : Bool) (ends : List Point) (state : ℕ → Bool) (steps : List ℕ) → steps ≡ [] → state atom ≡ not want → AtomFailsAt atom want ends state steps
atom_fails_at_first atom want ends state steps none is = record {
  fails = written_by_none ends (have_come steps) state atom (no_writer ends (have_come steps) atom (λ p i h s. nothing p.step h)) ∙ is;
  few = λ n e. absurd (nothing n e);
}
  where
    nothing : (n : ℕ) → has steps n ≡ true → ⊥
    nothing n e = true≢false (sym e ∙ ap (λ ns. has ns n) none)

or_false : (b : Bool) → (b || false) ≡ true → b ≡ true
or_false true h = refl
or_false false h = h

-- an atom that an end changes
pub atom_fails_after : (atom : ℕ) (want : Bool) (ends : List Point) (state : ℕ → Bool) (steps : List ℕ) (p : Point) → AreCases ends → Contains ends p → steps ≡ p.step ∷ [] → state atom ≡ want → turns_at p state atom ≡ true → AtomFailsAt atom want ends state steps
atom_fails_after atom want ends state steps p cases i one is turned =
    let way = turned_way p state atom turned in
    record {
      fails = written_by ends cases (have_come steps) state atom p i (ap (λ ns. has ns p.step) one ∙ own p.step) way.0 ∙ (way.1 ∙ ap not is);
      few = λ n e. (p, i, eqb-true p.step n (or_false (p.step == n) (sym (ap (λ ns. has ns n) one) ∙ e)), turned);
    }
  where
    own : (n : ℕ) → has (n ∷ []) n ≡ true
    own n = ap (λ b. b || false) (eq-eqb n n refl)

-- an atom that no end changes
pub atom_always : (atom : ℕ) (want : Bool) (ends : List Point) (state : ℕ → Bool) → AreCases ends → state atom ≡ want → ((p : Point) → Contains ends p → turns_at p state atom ≡ false) → IsAtomAlways atom want ends state
atom_always atom want ends state cases is none = λ came.
    written_more ends cases (λ p. false) came state atom (λ p i h. absurd (true≢false (sym h))) (λ p i h. inr (none p i))
    ∙ (written_by_none ends (λ p. false) state atom (no_writer ends (λ p. false) atom (λ p i h s. true≢false (sym h))) ∙ is)

-- ---- negations

pub negation_answered : (cond : Cond) (part : Bor Cond) → cond ≡ Not part → (want : Bool) (ends : List Point) (state : ℕ → Bool) (r : Option (List ℕ)) →
    MatchOption r (IsAlways part.now (not want) ends state) (λ steps. FailsAt part.now (not want) ends state steps) → MatchOption r (IsAlways cond want ends state) (λ steps. FailsAt cond want ends state steps)
negation_answered cond part is want ends state None h = λ came. ap (truth (written ends came state)) is ∙ (truth_not (written ends came state) part ∙ (ap not (h came) ∙ not_twice want))
negation_answered cond part is want ends state (Some steps) h = record {
  fails = ap (truth (written ends (have_come steps) state)) is ∙ (truth_not (written ends (have_come steps) state) part ∙ (ap not h.fails ∙ not_twice (not want)));
  few = λ n e. let r = h.few n e in (r.0, r.1, r.2, turns_not r.0 state cond part is ∙ r.3);
}

-- ---- conjunctions and disjunctions

pub all_true : (s : ℕ → Bool) (cs : List Cond) → ((c : Cond) → Contains cs c → truth s c ≡ true) → all_of (map (truth s) cs) ≡ true
all_true s [] h = refl
all_true s (c ∷ cs) h = ap (λ b. b && all_of (map (truth s) cs)) (h c (here c cs)) ∙ all_true s cs (λ d i. h d (there c cs d i))

pub all_false : (s : ℕ → Bool) (cs : List Cond) (c : Cond) → Contains cs c → truth s c ≡ false → all_of (map (truth s) cs) ≡ false
all_false s [] c i h = absurd (member_nil c i)
all_false s (d ∷ cs) c i h = elim (member_cases d cs c i) [ inl e ↦ ap (λ b. b && all_of (map (truth s) cs)) (ap (truth s) e ∙ h) | inr j ↦ and_false (truth s d) (all_of (map (truth s) cs)) (all_false s cs c j h) ]
  where
    and_false : (b c : Bool) → c ≡ false → (b && c) ≡ false
    and_false true c h = h
    and_false false c h = refl

any_false : (s : ℕ → Bool) (cs : List Cond) → ((c : Cond) → Contains cs c → truth s c ≡ false) → any_of (map (truth s) cs) ≡ false
any_false s [] h = refl
any_false s (c ∷ cs) h = ap (λ b. b || any_of (map (truth s) cs)) (h c (here c cs)) ∙ any_false s cs (λ d i. h d (there c cs d i))

any_true : (s : ℕ → Bool) (cs : List Cond) (c : Cond) → Contains cs c → truth s c ≡ true → any_of (map (truth s) cs) ≡ true
any_true s [] c i h = absurd (member_nil c i)
any_true s (d ∷ cs) c i h = elim (member_cases d cs c i) [ inl e ↦ ap (λ b. b || any_of (map (truth s) cs)) (ap (truth s) e ∙ h) | inr j ↦ or_true (truth s d) (any_of (map (truth s) cs)) (any_true s cs c j h) ]
  where
    or_true : (b c : Bool) → c ≡ true → (b || c) ≡ true
    or_true true c h = refl
    or_true false c h = h

-- a conjunction that is wanted true
pub and_of_each : (cond : Cond) (parts : Bor (List Cond)) → cond ≡ And parts → (want : Bool) → want ≡ true → (ends : List Point) (state : ℕ → Bool) (r : Option (List ℕ)) →
    MatchOption r (EachAlways parts.now want ends state) (λ steps. OneFails parts.now want ends state steps) → MatchOption r (IsAlways cond want ends state) (λ steps. FailsAt cond want ends state steps)
and_of_each cond parts is false e ends state r h = absurd (true≢false (sym e))
and_of_each cond parts is true e ends state None h = λ came. ap (truth (written ends came state)) is ∙ (truth_and (written ends came state) parts ∙ all_true (written ends came state) parts.now (λ c i. h c i came))
and_of_each cond parts is true e ends state (Some steps) h = record {
  fails = let s = written ends (have_come steps) state in ap (truth s) is ∙ (truth_and s parts ∙ all_false s parts.now h.0 h.1 h.2.fails);
  few = λ n e. let r = h.2.few n e in (r.0, r.1, r.2, turns_and r.0 state cond parts is h.0 h.1 r.3);
}

-- a conjunction that is wanted false
pub and_of_all : (cond : Cond) (parts : Bor (List Cond)) → cond ≡ And parts → (want : Bool) → want ≡ false → (ends : List Point) (state : ℕ → Bool) (r : Option (List ℕ)) →
    MatchOption r (SomeAlways parts.now want ends state) (λ steps. EachFails parts.now want ends state steps) → MatchOption r (IsAlways cond want ends state) (λ steps. FailsAt cond want ends state steps)
and_of_all cond parts is true e ends state r h = absurd (true≢false e)
and_of_all cond parts is false e ends state None h = λ came. let r = h came in ap (truth (written ends came state)) is ∙ (truth_and (written ends came state) parts ∙ all_false (written ends came state) parts.now r.0 r.1 r.2)
and_of_all cond parts is false e ends state (Some steps) h = record {
  fails = let s = written ends (have_come steps) state in ap (truth s) is ∙ (truth_and s parts ∙ all_true s parts.now h.fails);
  few = λ n e. let r = h.few n e in (r.0, r.1, r.2, turns_and r.0 state cond parts is r.3.0 r.3.1 r.3.2);
}

-- a disjunction that is wanted false
pub or_of_each : (cond : Cond) (parts : Bor (List Cond)) → cond ≡ Or parts → (want : Bool) → want ≡ false → (ends : List Point) (state : ℕ → Bool) (r : Option (List ℕ)) →
    MatchOption r (EachAlways parts.now want ends state) (λ steps. OneFails parts.now want ends state steps) → MatchOption r (IsAlways cond want ends state) (λ steps. FailsAt cond want ends state steps)
or_of_each cond parts is true e ends state r h = absurd (true≢false e)
or_of_each cond parts is false e ends state None h = λ came. ap (truth (written ends came state)) is ∙ (truth_or (written ends came state) parts ∙ any_false (written ends came state) parts.now (λ c i. h c i came))
or_of_each cond parts is false e ends state (Some steps) h = record {
  fails = let s = written ends (have_come steps) state in ap (truth s) is ∙ (truth_or s parts ∙ any_true s parts.now h.0 h.1 h.2.fails);
  few = λ n e. let r = h.2.few n e in (r.0, r.1, r.2, turns_or r.0 state cond parts is h.0 h.1 r.3);
}

-- a disjunction that is wanted true
pub or_of_all : (cond : Cond) (parts : Bor (List Cond)) → cond ≡ Or parts → (want : Bool) → want ≡ true → (ends : List Point) (state : ℕ → Bool) (r : Option (List ℕ)) →
    MatchOption r (SomeAlways parts.now want ends state) (λ steps. EachFails parts.now want ends state steps) → MatchOption r (IsAlways cond want ends state) (λ steps. FailsAt cond want ends state steps)
or_of_all cond parts is false e ends state r h = absurd (true≢false (sym e))
or_of_all cond parts is true e ends state None h = λ came. let r = h came in ap (truth (written ends came state)) is ∙ (truth_or (written ends came state) parts ∙ any_true (written ends came state) parts.now r.0 r.1 r.2)
or_of_all cond parts is true e ends state (Some steps) h = record {
  fails = let s = written ends (have_come steps) state in ap (truth s) is ∙ (truth_or s parts ∙ any_false s parts.now h.fails);
  few = λ n e. let r = h.few n e in (r.0, r.1, r.2, turns_or r.0 state cond parts is r.3.0 r.3.1 r.3.2);
}

-- ---- a value that is or is not the one that is wanted

pub unlike_told : (x want : Bool) → not (beq x want) ≡ true → x ≡ not want
unlike_told true true h = absurd (true≢false (sym h))
unlike_told true false h = refl
unlike_told false true h = refl
unlike_told false false h = absurd (true≢false (sym h))

pub like_told : (x want : Bool) → not (beq x want) ≡ false → x ≡ want
like_told true true h = refl
like_told true false h = absurd (true≢false h)
like_told false true h = absurd (true≢false h)
like_told false false h = refl
