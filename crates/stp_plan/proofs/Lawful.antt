-- What is true of each plan that is read, and of each that can be printed.
use Rattle.std.proofs.Common.{◌≡◌, ℕ, zero, suc, ◌≤◌, ◌+◌, ◌*◌, ◌^◌, Bool, true, false, ◌&&◌, ◌==◌, nat_le, if◌then◌else◌, List, [], ◌∷◌, length, map, slice_get, filter_map, All, Option, Some, None, option_map, IfSome, Ok, Err, pos, refl, subst, arith}
use Rattle.std.specs.List.{list_all, list_any, before_first, after_first, cons_option}
use Rattle.std.specs.Str.Parse.{digits_value}
use Rattle.std.specs.Char.{to_ascii_lowercase}
use Rattle.stp_frac.specs.declared.fault.NumberFault.{NumberFault}
use Rattle.stp_frac.specs.declared.fault.NumberFault.TheVariants.{TooLong, ZeroDenominator}
use Rattle.stp_frac.specs.Fractions.{Fraction, value_of, lowest}
use Rattle.stp_frac.specs.Reading.{Spelling, judged as number_judged, number_spelled, spelling_of, number_of}
use Rattle.stp_frac.specs.Reading.Spelling.{Whole, Point, Over}
use Rattle.stp_frac.specs.declared.frac.Frac.{Frac}
use Rattle.stp_frac.proofs.Divisors.{both_true}
use Rattle.stp_frac.proofs.Values.{value_can_be_spelled}
use Rattle.stp_plan.specs.declared.atoms.Named.{Named}
use Rattle.stp_plan.specs.declared.steps.Bracket.{Bracket}
use Rattle.stp_plan.specs.declared.steps.Bracket.TheVariants.{Absent, Number, Star, Pair}
use Rattle.stp_plan.specs.declared.steps.Step.{Step}
use Rattle.stp_plan.specs.Parts.{Part, Colon, Open, Close, OpenBracket, CloseBracket, Run, parts}
use Rattle.stp_plan.specs.Lines.{texts_of}
use Rattle.stp_base.specs.Options.{◌>>=◌}
use Rattle.stp_text.specs.Names.{is_name}
use Rattle.stp_plan.specs.Names.{name_of, names_of, named_by, runs_of, until_close, atom_of}
use Rattle.stp_plan.specs.Numbers.{if_number, plain_number}
use Rattle.stp_plan.specs.Steps.{PlainBracket, Exactly, AnyNumber, PlainStep, time_of, is_star, is_comma, pair_of, inside, bracket_of, step_of}
use Rattle.stp_plan.specs.Plans.{LineKind, Empty, AStep, Bad, if_step, kind_of, is_bad, is_step, step_in, numbers_of, unless_bad, unless_many, plan_in, plan_of}
use Rattle.stp_plan.specs.Views.{plain_bracket, plain_step}
use Rattle.stp_plan.specs.Laws.{bracket_numbers, IsAbove, IsShort, IsSpellable, IsLawful, IsLawfulPlan, ReadPlansAreLawful}

-- ---- lists of one, of two, and of more

all_none : {A : Type 0} (P : A → Type 0) → All P []
all_none P k d below = absurd (omega arith)

all_more : {A : Type 0} (P : A → Type 0) (x : A) (xs : List A) → P x → All P xs → All P (x ∷ xs)
all_more P x xs h hs zero d below = h
all_more P x xs h hs (suc k) d below = hs k d (omega arith)

all_first : {A : Type 0} (P : A → Type 0) (x : A) (xs : List A) → All P (x ∷ xs) → P x
all_first P x xs h = h 0 x (omega arith)

all_rest : {A : Type 0} (P : A → Type 0) (x : A) (xs : List A) → All P (x ∷ xs) → All P xs
all_rest P x xs h k d below = h (suc k) d (omega arith)

-- ---- what is read, if it is there

-- a fact of what comes of a value, from a fact of the value
then_some : {A B : Type 0} (P : A → Type 0) (Q : B → Type 0) (f : A → Option B) (o : Option A) → IfSome o P → ((x : A) → P x → IfSome (f x) Q) → IfSome (o >>= f) Q
then_some P Q f None h k = tt
then_some P Q f (Some x) h k = k x h

mapped_some : {A B : Type 0} (P : A → Type 0) (Q : B → Type 0) (f : A → B) (o : Option A) → IfSome o P → ((x : A) → P x → Q (f x)) → IfSome (option_map f o) Q
mapped_some P Q f None h k = tt
mapped_some P Q f (Some x) h k = k x h

-- ---- numbers are not below 0

one_above : (b : Bool) (n d : ℕ) (fault : NumberFault) → IfSome (if_number (if b then Ok (lowest (pos n) d) else Err fault)) IsAbove
one_above true n d fault = refl
one_above false n d fault = tt

judged_above : (s : Spelling) → IfSome (if_number (number_judged false s)) IsAbove
judged_above (Whole ds) = one_above (nat_le (length ds) 9) (digits_value 10 ds) 1 TooLong
judged_above (Point before after) = one_above (nat_le (length before) 9 && nat_le (length after) 9) (digits_value 10 before * 10 ^ length after + digits_value 10 after) (10 ^ length after) TooLong
judged_above (Over before after) = over_above (nat_le (length before) 18 && nat_le (length after) 9) (digits_value 10 after == 0)
  where
    over_above : (b zero_below : Bool) → IfSome (if_number (if b then (if zero_below then Err ZeroDenominator else Ok (lowest (pos (digits_value 10 before)) (digits_value 10 after))) else Err TooLong)) IsAbove
    over_above true true = tt
    over_above true false = refl
    over_above false z = tt

spelled_above : (s : Option Spelling) → IfSome (if_number (number_spelled false s)) IsAbove
spelled_above None = tt
spelled_above (Some s) = judged_above s

unsigned_above : (b : ℕ) (bs : List ℕ) (minus : Bool) → IfSome (if minus then None else if_number (if minus then number_spelled true (spelling_of bs) else number_spelled false (spelling_of (b ∷ bs)))) IsAbove
unsigned_above b bs true = tt
unsigned_above b bs false = spelled_above (spelling_of (b ∷ bs))

number_above : (word : List ℕ) → IfSome (plain_number word) IsAbove
unfolding number_of
number_above [] = tt
number_above (b ∷ bs) = unsigned_above b bs (b == 45)

-- ---- names are names

one_name : (folded : List ℕ) (b : Bool) → is_name folded ≡ b → IfSome (if b then Some folded else None) (λ name. is_name name ≡ true)
one_name folded true e = e
one_name folded false e = tt

name_is_name : (word : List ℕ) → IfSome (name_of word) (λ name. is_name name ≡ true)
name_is_name word = one_name (map to_ascii_lowercase word) (is_name (map to_ascii_lowercase word)) refl

names_are_names : (words : List (List ℕ)) → IfSome (names_of words) (λ names. list_all is_name names ≡ true)
names_are_names [] = refl
names_are_names (word ∷ words) =
    then_some (λ name. is_name name ≡ true) (λ names. list_all is_name names ≡ true) (λ name. names_of words >>= (λ names. Some (name ∷ names))) (name_of word) (name_is_name word)
    (λ name h. then_some (λ names. list_all is_name names ≡ true) (λ names. list_all is_name names ≡ true) (λ names. Some (name ∷ names)) (names_of words) (names_are_names words)
    (λ names k. both_true (is_name name) (list_all is_name names) h k))

-- the names of a name with its arguments
abbrev HasNames : Named → Type 0
HasNames named = list_all is_name (named.name ∷ named.args) ≡ true

named_is_named : (words : List (List ℕ)) → IfSome (named_by words) HasNames
named_is_named [] = tt
named_is_named (word ∷ words) =
    then_some (λ name. is_name name ≡ true) HasNames (λ name. names_of words >>= (λ args. Some (record { name = name; args = args }))) (name_of word) (name_is_name word)
    (λ name h. then_some (λ names. list_all is_name names ≡ true) HasNames (λ args. Some (record { name = name; args = args })) (names_of words) (names_are_names words)
    (λ args k. both_true (is_name name) (list_all is_name args) h k))

until_close_is_named : (words : List (List ℕ)) (rest : List Part) → IfSome (until_close (words, rest)) (λ a. HasNames a.0)
until_close_is_named words (Close ∷ rest) = mapped_some HasNames (λ a. HasNames a.0) (λ named. (named, rest)) (named_by words) (named_is_named words) (λ named h. h)
until_close_is_named words _ = tt

atom_is_named : (ps : List Part) → IfSome (atom_of ps) (λ a. HasNames a.0)
atom_is_named (Open ∷ rest) = until_close_is_named (runs_of rest).0 (runs_of rest).1
atom_is_named _ = tt

-- ---- the parts of a step

time_above : (ps : List Part) → IfSome (time_of ps) (λ t. IsAbove t.0)
time_above (Run word ∷ Colon ∷ rest) = mapped_some IsAbove (λ t. IsAbove t.0) (λ at. (at, rest)) (plain_number word) (number_above word) (λ at h. h)
time_above _ = tt

abbrev HasAbove : PlainBracket → Type 0
HasAbove b = All IsAbove (bracket_numbers b)

pair_above : (low high : Option Fraction) → IfSome low IsAbove → IfSome high IsAbove → IfSome (pair_of low high) HasAbove
pair_above None high h k = tt
pair_above (Some l) None h k = tt
pair_above (Some l) (Some u) h k = all_more IsAbove l (u ∷ []) h (all_more IsAbove u [] k (all_none IsAbove))

inside_above_by : (word : List ℕ) (star comma : Bool) → IfSome (if star then Some AnyNumber else if comma then pair_of (plain_number (before_first is_comma word)) (plain_number (after_first is_comma word)) else option_map (λ number. Exactly number) (plain_number word)) HasAbove
inside_above_by word true comma = all_none IsAbove
inside_above_by word false true = pair_above (plain_number (before_first is_comma word)) (plain_number (after_first is_comma word)) (number_above (before_first is_comma word)) (number_above (after_first is_comma word))
inside_above_by word false false = mapped_some IsAbove HasAbove (λ number. Exactly number) (plain_number word) (number_above word) (λ f h. all_more IsAbove f [] h (all_none IsAbove))

inside_above : (word : List ℕ) → IfSome (inside word) HasAbove
inside_above word = inside_above_by word (is_star word) (list_any is_comma word)

bracket_above : (ps : List Part) → IfSome (bracket_of ps) HasAbove
bracket_above [] = all_none IsAbove
bracket_above (OpenBracket ∷ Run word ∷ CloseBracket ∷ []) = inside_above word
bracket_above _ = tt

step_lawful : (text : List ℕ) → IfSome (step_of text) (IsLawful IsAbove)
unfolding step_of
step_lawful text =
    then_some (λ t. IsAbove t.0) (IsLawful IsAbove) _ (time_of (parts text)) (time_above (parts text))
    (λ t h. then_some (λ a. HasNames a.0) (IsLawful IsAbove) _ (atom_of t.1) (atom_is_named t.1)
    (λ a k. then_some HasAbove (IsLawful IsAbove) _ (bracket_of a.1) (bracket_above a.1)
    (λ b m. record { names = k; numbers = all_more IsAbove t.0 (bracket_numbers b) h m })))

-- ---- the steps of a plan

kept_lawful : (o : Option PlainStep) (steps : List PlainStep) → IfSome o (IsLawful IsAbove) → All (IsLawful IsAbove) steps → All (IsLawful IsAbove) (cons_option (step_in (if_step o)) steps)
kept_lawful None steps h hs = hs
kept_lawful (Some step) steps h hs = all_more (IsLawful IsAbove) step steps h hs

steps_lawful : (texts : List (List ℕ)) → All (IsLawful IsAbove) (filter_map step_in (map kind_of texts))
steps_lawful [] = all_none (IsLawful IsAbove)
steps_lawful ([] ∷ texts) = steps_lawful texts
steps_lawful ((b ∷ bs) ∷ texts) = kept_lawful (step_of (b ∷ bs)) (filter_map step_in (map kind_of texts)) (step_lawful (b ∷ bs)) (steps_lawful texts)

-- where no line is that of one more, there are not more
few_steps : (n most : ℕ) (lines : List LineKind) → slice_get (numbers_of is_step n lines) most ≡ None → length (filter_map step_in lines) ≤ most
few_steps n most [] e = omega arith
few_steps n most (Empty ∷ lines) e = few_steps (n + 1) most lines e
few_steps n most (Bad ∷ lines) e = few_steps (n + 1) most lines e
few_steps n zero (AStep step ∷ lines) e = cc
few_steps n (suc most) (AStep step ∷ lines) e = omega (arith, few_steps (n + 1) most lines e)

plan_kept : (bad many : Option ℕ) (steps plan : List PlainStep) → unless_bad bad (unless_many many steps) ≡ Ok plan → (many ≡ None) × (steps ≡ plan)
plan_kept (Some n) many steps plan e = cc
plan_kept None (Some n) steps plan e = cc
plan_kept None None steps plan e = (refl, cc)

pub read_plans_are_lawful : ReadPlansAreLawful
unfolding plan_of plan_in
read_plans_are_lawful bytes plan e =
    let lines : List LineKind = map kind_of (texts_of bytes) in
    let kept = plan_kept (slice_get (numbers_of is_bad 1 lines) 0) (slice_get (numbers_of is_step 1 lines) 500) (filter_map step_in lines) plan e in
    subst (λ (p : List PlainStep). IsLawfulPlan IsAbove p) kept.1 (record { few = few_steps 1 500 lines kept.0; steps = steps_lawful (texts_of bytes) })

-- ---- plans of values

short_value : (f : Frac) → IsShort (value_of f) → IsSpellable (value_of f)
short_value f h = (h.0, value_can_be_spelled f h.1 h.2)

short_bracket : (b : Bracket) → All IsShort (bracket_numbers (plain_bracket b)) → All IsSpellable (bracket_numbers (plain_bracket b))
short_bracket Absent h = all_none IsSpellable
short_bracket (Number f) h = all_more IsSpellable (value_of f) [] (short_value f (all_first IsShort (value_of f) [] h)) (all_none IsSpellable)
short_bracket Star h = all_none IsSpellable
short_bracket (Pair l u) h =
    all_more IsSpellable (value_of l) (value_of u ∷ []) (short_value l (all_first IsShort (value_of l) (value_of u ∷ []) h))
    (all_more IsSpellable (value_of u) [] (short_value u (all_first IsShort (value_of u) [] (all_rest IsShort (value_of l) (value_of u ∷ []) h))) (all_none IsSpellable))

short_step : (s : Step) → IsLawful IsShort (plain_step s) → IsLawful IsSpellable (plain_step s)
short_step s h = record {
  names = h.names;
  numbers = all_more IsSpellable (value_of s.at) (bracket_numbers (plain_bracket s.bracket))
      (short_value s.at (all_first IsShort (value_of s.at) (bracket_numbers (plain_bracket s.bracket)) h.numbers))
      (short_bracket s.bracket (all_rest IsShort (value_of s.at) (bracket_numbers (plain_bracket s.bracket)) h.numbers));
}

short_steps : (steps : List Step) → All (IsLawful IsShort) (map plain_step steps) → All (IsLawful IsSpellable) (map plain_step steps)
short_steps [] h = all_none (IsLawful IsSpellable)
short_steps (s ∷ ss) h =
    all_more (IsLawful IsSpellable) (plain_step s) (map plain_step ss) (short_step s (all_first (IsLawful IsShort) (plain_step s) (map plain_step ss) h))
    (short_steps ss (all_rest (IsLawful IsShort) (plain_step s) (map plain_step ss) h))

-- a plan of values with few digits can be spelled
pub short_plan : (steps : List Step) → IsLawfulPlan IsShort (map plain_step steps) → IsLawfulPlan IsSpellable (map plain_step steps)
short_plan steps h = record { few = h.few; steps = short_steps steps h.steps }
