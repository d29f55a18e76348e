-- Marks of predicates: one more, longer rows, those of several atoms and schemas.
use Rattle.std.proofs.Common.{◌≡◌, ℕ, zero, suc, ◌<◌, ◌≤◌, Bool, true, false, ◌||◌, ◌==◌, List, [], ◌∷◌, ◌++◌, length, take, replicate, refl, ap, ◌∙◌, arith}
use Rattle.std.specs.Prelude.{slice_set}
use Rattle.std.specs.List.{list_any}
use Rattle.std.proofs.lemmas.Bool.Decides.{nat_tests}
use Rattle.std.proofs.lemmas.List.{take_all}
use Rattle.stp_schema.specs.Formula.{PlainAtom}
use Rattle.stp_schema.specs.Schemas.{PlainSchema}
use Rattle.stp_schema.specs.Timed.{PlainTimedFact}
use Rattle.stp_schema.specs.Views.{PlainProblem}
use Rattle.stp_instance.specs.Numbered.{is_fluent}
use Rattle.stp_ground.specs.Problems.{effects_of, is_named_by, is_written, is_written_by, names, writes}
use Rattle.stp_ground.specs.Marks.{predicate_of, symbol_of, with_effects, with_events, with_mark, with_marks}

or_true : (b : Bool) → true ≡ (b || true)
or_true true = refl
or_true false = refl

or_false : (b : Bool) → b ≡ (b || false)
or_false true = refl
or_false false = refl

or_again : (a b c : Bool) → ((a || b) || c) ≡ (a || (b || c))
or_again true b c = refl
or_again false b c = refl

-- ---- one row

next_same : (k m : ℕ) → (k == m) ≡ (suc k == suc m)
next_same k m = grind (arith, nat_tests)

zero_next : (m : ℕ) → false ≡ (0 == suc m)
zero_next m = grind (arith, nat_tests)

next_zero : (k : ℕ) → false ≡ (suc k == 0)
next_zero k = grind (arith, nat_tests)

marked_at : (marks : List Bool) (place n : ℕ) → place < length marks → is_fluent (slice_set marks place true) n ≡ (is_fluent marks n || place == n)
marked_at [] place n h = absurd (omega (arith, h))
marked_at (x ∷ xs) zero zero h = or_true x
marked_at (x ∷ xs) zero (suc m) h = or_false (is_fluent xs m) ∙ ap (λ b. is_fluent xs m || b) (zero_next m)
marked_at (x ∷ xs) (suc k) zero h = or_false x ∙ ap (λ b. x || b) (next_zero k)
marked_at (x ∷ xs) (suc k) (suc m) h = marked_at xs k m (omega (arith, h)) ∙ ap (λ b. is_fluent xs m || b) (next_same k m)

pub marked : (marks : List Bool) (place : ℕ) → place < length marks → is_fluent (slice_set marks place true) ≡ with_mark place (is_fluent marks)
marked marks place h = λ i n. marked_at marks place n h i

longer : (marks : List Bool) (k n : ℕ) → is_fluent (marks ++ replicate k false) n ≡ is_fluent marks n
longer [] zero n = refl
longer [] (suc k) zero = refl
longer [] (suc k) (suc n) = longer [] k n
longer (x ∷ xs) k zero = refl
longer (x ∷ xs) k (suc n) = longer xs k n

pub lengthened : (marks : List Bool) (count k : ℕ) → length marks ≤ count → is_fluent (take count marks ++ replicate k false) ≡ is_fluent marks
lengthened marks count k h = ap (λ l. is_fluent (l ++ replicate k false)) (take_all count marks h) ∙ (λ i n. longer marks k n i)

-- ---- several atoms

with_both : (xs ys : List PlainAtom) (marks : ℕ → Bool) → with_marks symbol_of ys (with_marks symbol_of xs marks) ≡ with_marks symbol_of (xs ++ ys) marks
with_both [] ys marks = refl
with_both (x ∷ xs) ys marks = with_both xs ys (with_mark x.symbol marks)

pub of_effects : (s : PlainSchema) (marks : ℕ → Bool) → with_marks symbol_of s.end_dels (with_marks symbol_of s.end_adds (with_marks symbol_of s.start_dels (with_marks symbol_of s.start_adds marks))) ≡ with_marks symbol_of (effects_of s) marks
of_effects s marks =
    ap (λ m. with_marks symbol_of s.end_dels (with_marks symbol_of s.end_adds m)) (with_both s.start_adds s.start_dels marks)
    ∙ ap (with_marks symbol_of s.end_dels) (with_both (s.start_adds ++ s.start_dels) s.end_adds marks)
    ∙ with_both (s.start_adds ++ s.start_dels ++ s.end_adds) s.end_dels marks

marks_are : {A : Type 0} (predicate : A → ℕ) (atoms : List A) (marks : ℕ → Bool) (n : ℕ) → with_marks predicate atoms marks n ≡ (marks n || list_any (λ a. predicate a == n) atoms)
marks_are predicate [] marks n = or_false (marks n)
marks_are predicate (a ∷ rest) marks n =
    marks_are predicate rest (with_mark (predicate a) marks) n
    ∙ or_again (marks n) (predicate a == n) (list_any (λ x. predicate x == n) rest)

effects_are : (schemas : List PlainSchema) (marks : ℕ → Bool) (n : ℕ) → with_effects schemas marks n ≡ (marks n || is_written_by schemas n)
effects_are [] marks n = or_false (marks n)
effects_are (s ∷ rest) marks n =
    effects_are rest (with_marks symbol_of (effects_of s) marks) n
    ∙ ap (λ b. b || is_written_by rest n) (marks_are symbol_of (effects_of s) marks n)
    ∙ or_again (marks n) (writes n s) (is_written_by rest n)

-- ---- several events

events_are : (events : List PlainTimedFact) (marks : ℕ → Bool) (n : ℕ) → with_events events marks n ≡ (marks n || is_named_by events n)
events_are [] marks n = or_false (marks n)
events_are (e ∷ rest) marks n =
    events_are rest (with_marks predicate_of e.literals marks) n
    ∙ ap (λ b. b || is_named_by rest n) (marks_are predicate_of e.literals marks n)
    ∙ or_again (marks n) (names n e) (is_named_by rest n)

all_at : (p : PlainProblem) (n : ℕ) → with_events p.timed (with_effects p.domain.schemas (is_fluent [])) n ≡ is_written p n
all_at p n =
    events_are p.timed (with_effects p.domain.schemas (is_fluent [])) n
    ∙ ap (λ b. b || is_named_by p.timed n) (effects_are p.domain.schemas (is_fluent []) n)

pub all_marked : (p : PlainProblem) → with_events p.timed (with_effects p.domain.schemas (is_fluent [])) ≡ is_written p
all_marked p = λ i n. all_at p n i
