-- A box that is not strong has a least failure.
use Rattle.std.proofs.Common.{◌≡◌, ℕ, zero, suc, ◌+◌, ◌<◌, ◌≤◌, nat_le, Bool, true, false, not, ◌&&◌, cond, if◌then◌else◌, List, [], ◌∷◌, ◌++◌, map, filter, drop, length, slice_index, Contains, ◌⊎◌, inl, inr, refl, ap, sym, ◌∙◌, subst, arith, true≢false}
use Rattle.std.specs.Cmp.Lexicographic.{slice_cmp, nat_list_cmp_total}
use Rattle.std.specs.Ordering.{nat_cmp, is_lt, ordering_reverse}
use Rattle.std.specs.declared.cmp.Ordering.{Ordering}
use Rattle.std.specs.declared.cmp.Ordering.TheVariants.{Less, Equal, Greater}
use Rattle.std.proofs.lemmas.Bool.{cases_Bool}
use Rattle.std.proofs.lemmas.Bool.Decides.{nat_tests}
use Rattle.std.proofs.lemmas.List.Elements.{Contains-append_cases, Contains-append_left, Contains-append_right}
use Rattle.stp_happen.specs.declared.fault.Fault.{Fault}
use Rattle.stp_happen.specs.Plain.{Executes}
use Rattle.stp_happen.specs.Faults.{faults_of}
use Rattle.stp_happen.specs.Boxes.{PlainBox, run_under, IsInInterval, IsVector, PlainOwner}
use Rattle.stp_happen.specs.LeastFailure.{IsFailure, IsLeastFailure}
use Rattle.stp_happen.proofs.Members.{here, there, member_cases, member_nil, member_map, mapped_member, kept_member, member_of_kept}
use Rattle.stp_happen.proofs.NoFault.{executes, none_if_executes}
use Rattle.stp_strength.specs.Checks.{StrongOrLeastFailure, LeastFailureExactlyWhereWeak}
use Rattle.stp_happen.proofs.Tops.{NonePasses}
use Rattle.stp_strength.proofs.BoxGaps.{strong_or_fails, failures_mean_weakness}

-- ---- whether a run executes is a test

abbrev is_none : List Fault → Bool
is_none [] = true
is_none (f ∷ fs) = false

none_told : (fs : List Fault) → is_none fs ≡ true → fs ≡ []
none_told [] h = refl
none_told (f ∷ fs) h = absurd (true≢false (sym h))

abbrev fails_test : PlainBox → List ℕ → Bool
fails_test box ds = not (is_none (faults_of (run_under box ds)))

test_false : (b : Bool) → not b ≡ false → b ≡ true
test_false true h = refl
test_false false h = absurd (true≢false h)

executes_told : (box : PlainBox) (ds : List ℕ) → fails_test box ds ≡ false → Executes (run_under box ds)
executes_told box ds h = executes (run_under box ds) (none_told (faults_of (run_under box ds)) (test_false (is_none (faults_of (run_under box ds))) h))

fails_told : (box : PlainBox) (ds : List ℕ) → fails_test box ds ≡ true → Executes (run_under box ds) → ⊥
fails_told box ds h x = true≢false (sym h ∙ ap (λ fs. not (is_none fs)) (none_if_executes (run_under box ds) x))

-- ---- all vectors

abbrev up_to : ℕ → List ℕ
up_to zero = 0 ∷ []
up_to (suc n) = suc n ∷ up_to n

in_up_to : (n d : ℕ) → d ≤ n → Contains (up_to n) d
in_up_to zero d l = subst (Contains (up_to 0)) (omega arith) (here 0 [])
in_up_to (suc n) d l = by_order n d l (in_up_to n d)
  where
    by_order : (n d : ℕ) → d ≤ suc n → (d ≤ n → Contains (up_to n) d) → Contains (up_to (suc n)) d
    by_order n d l more = elim (first_or n d l) [ inl e ↦ subst (Contains (up_to (suc n))) e (here (suc n) (up_to n)) | inr k ↦ there (suc n) (up_to n) d (more k) ]
      where
        first_or : (n d : ℕ) → d ≤ suc n → (suc n ≡ d) ⊎ (d ≤ n)
        first_or n d l = grind arith

abbrev is_duration : PlainOwner → ℕ → Bool
is_duration s d = nat_le s.low (s.start + d) && nat_le (s.start + d) s.high

abbrev with_first : List ℕ → List (List ℕ) → List (List ℕ)
with_first [] rests = []
with_first (d ∷ ds) rests = map (λ l. d ∷ l) rests ++ with_first ds rests

in_with_first : (ds : List ℕ) (rests : List (List ℕ)) (d : ℕ) (l : List ℕ) → Contains ds d → Contains rests l → Contains (with_first ds rests) (d ∷ l)
in_with_first [] rests d l i j = absurd (member_nil d i)
in_with_first (x ∷ xs) rests d l i j = elim (member_cases x xs d i) [
  | inl e ↦ subst (λ (y : ℕ). Contains (with_first (x ∷ xs) rests) (y ∷ l)) e (Contains-append_left (map (λ l. x ∷ l) rests) (with_first xs rests) (x ∷ l) (member_map (λ (l : List ℕ). x ∷ l) rests l j))
  | inr k ↦ Contains-append_right (map (λ l. x ∷ l) rests) (with_first xs rests) (d ∷ l) (in_with_first xs rests d l k j)
]

of_with_first : (ds : List ℕ) (rests : List (List ℕ)) (v : List ℕ) → Contains (with_first ds rests) v → (d : ℕ) × (l : List ℕ) × Contains ds d × Contains rests l × (d ∷ l ≡ v)
of_with_first [] rests v i = absurd (member_nil v i)
of_with_first (x ∷ xs) rests v i = elim (Contains-append_cases (map (λ l. x ∷ l) rests) (with_first xs rests) v i) [
  | inl j ↦ let r = mapped_member (λ (l : List ℕ). x ∷ l) rests v j in (x, r.0, here x xs, r.1, r.2)
  | inr j ↦ let r = of_with_first xs rests v j in (r.0, r.1, there x xs r.0 r.2, r.3, r.4)
]

abbrev vectors : List PlainOwner → List (List ℕ)
vectors [] = [] ∷ []
vectors (s ∷ ss) = if s.uncertain then with_first (filter (is_duration s) (up_to s.high)) (vectors ss) else vectors ss

is_vector : (owners : List PlainOwner) (ds : List ℕ) → Contains (vectors owners) ds → IsVector owners ds
is_vector [] ds i = elim (member_cases [] [] ds i) [ inl e ↦ sym e | inr j ↦ absurd (member_nil ds j) ]
is_vector (s ∷ ss) ds i = by_kind s ss ds s.uncertain refl i (is_vector ss)
  where
    within : (s : PlainOwner) (d : ℕ) → is_duration s d ≡ true → (s.low ≤ s.start + d) × (s.start + d ≤ s.high)
    within s d h = by_numbers s.low (s.start + d) s.high h
      where
        by_numbers : (a b c : ℕ) → (nat_le a b && nat_le b c) ≡ true → (a ≤ b) × (b ≤ c)
        by_numbers a b c h = grind (arith, nat_tests)

    by_kind : (s : PlainOwner) (ss : List PlainOwner) (ds : List ℕ) (u : Bool) → s.uncertain ≡ u → Contains (cond u (with_first (filter (is_duration s) (up_to s.high)) (vectors ss)) (vectors ss)) ds →
        ((l : List ℕ) → Contains (vectors ss) l → IsVector ss l) → IsVector (s ∷ ss) ds
    by_kind s ss ds true e i more =
        let r = of_with_first (filter (is_duration s) (up_to s.high)) (vectors ss) ds i in
        let k = within s r.0 (member_of_kept (is_duration s) (up_to s.high) r.0 r.2).1 in
        subst (IsVector (s ∷ ss)) r.4 (rw e (λ _. (omega arith, k.0, k.1), more r.1 r.3))
    by_kind s ss ds false e i more = rw e (λ u. absurd (true≢false (sym u)), more ds i)

vector_there : (owners : List PlainOwner) (ds : List ℕ) → IsVector owners ds → Contains (vectors owners) ds
vector_there [] ds v = subst (Contains ([] ∷ [])) (sym v) (here [] [])
vector_there (s ∷ ss) ds v = by_kind s ss ds s.uncertain refl v.0 v.1 (vector_there ss)
  where
    duration : (s : PlainOwner) (d : ℕ) → s.low ≤ s.start + d → s.start + d ≤ s.high → is_duration s d ≡ true
    duration s d l k = by_numbers s.low (s.start + d) s.high l k
      where
        by_numbers : (a b c : ℕ) → a ≤ b → b ≤ c → (nat_le a b && nat_le b c) ≡ true
        by_numbers a b c l k = grind (arith, nat_tests)

    uncertain_there : (s : PlainOwner) (ss : List PlainOwner) (ds : List ℕ) → (0 < length ds) × (s.low ≤ s.start + slice_index ds 0) × (s.start + slice_index ds 0 ≤ s.high) → Contains (vectors ss) (drop 1 ds) →
        Contains (with_first (filter (is_duration s) (up_to s.high)) (vectors ss)) ds
    uncertain_there s ss [] w i = absurd (omega (arith, w.0))
    uncertain_there s ss (d ∷ ds) w i =
        let low : s.low ≤ s.start + d = w.1 in
        let high : s.start + d ≤ s.high = w.2 in
        in_with_first (filter (is_duration s) (up_to s.high)) (vectors ss) d ds
        (kept_member (is_duration s) (up_to s.high) d (in_up_to s.high d (omega arith)) (duration s d low high)) i

    by_kind : (s : PlainOwner) (ss : List PlainOwner) (ds : List ℕ) (u : Bool) → s.uncertain ≡ u → IsInInterval s ds → IsVector ss (cond s.uncertain (drop 1 ds) ds) → ((l : List ℕ) → IsVector ss l → Contains (vectors ss) l) →
        Contains (cond s.uncertain (with_first (filter (is_duration s) (up_to s.high)) (vectors ss)) (vectors ss)) ds
    by_kind s ss ds true e w v more = subst (λ (u : Bool). Contains (cond u (with_first (filter (is_duration s) (up_to s.high)) (vectors ss)) (vectors ss)) ds) (sym e)
        (uncertain_there s ss ds (w e) (more (drop 1 ds) (subst (λ (u : Bool). IsVector ss (cond u (drop 1 ds) ds)) e v)))
    by_kind s ss ds false e w v more = subst (λ (u : Bool). Contains (cond u (with_first (filter (is_duration s) (up_to s.high)) (vectors ss)) (vectors ss)) ds) (sym e)
        (more ds (subst (λ (u : Bool). IsVector ss (cond u (drop 1 ds) ds)) e v))

-- ---- the first in dictionary order

abbrev comes_before : List ℕ → List ℕ → Bool
comes_before xs ys = is_lt (slice_cmp nat_cmp xs ys)

record IsFirst (p : List ℕ → Bool) (xs : List (List ℕ)) (m : List ℕ) : Type 0 where
  there : Contains xs m
  passes : p m ≡ true
  first : (x : List ℕ) → Contains xs x → p x ≡ true → comes_before x m ≡ false

not_less_itself : (r : Ordering) → r ≡ ordering_reverse r → is_lt r ≡ false
not_less_itself Less e = absurd (cc)
not_less_itself Equal e = refl
not_less_itself Greater e = refl

not_before_itself : (xs : List ℕ) → comes_before xs xs ≡ false
not_before_itself xs = not_less_itself (slice_cmp nat_cmp xs xs) (nat_list_cmp_total.antisymm xs xs)

less_told : (r : Ordering) → is_lt r ≡ true → r ≡ Less
less_told Less h = refl
less_told Equal h = absurd (true≢false (sym h))
less_told Greater h = absurd (true≢false (sym h))

-- what does not come before m does not come before y, where y comes before m
before_both : (x y m : List ℕ) → comes_before x m ≡ false → comes_before y m ≡ true → comes_before x y ≡ false
before_both x y m h k = elim (cases_Bool (comes_before x y)) [
  | inl l ↦
      let less : slice_cmp nat_cmp x m ≡ Less = nat_list_cmp_total.trans x y m (less_told (slice_cmp nat_cmp x y) l) (less_told (slice_cmp nat_cmp y m) k) in
      absurd (true≢false (sym (ap is_lt less) ∙ h))
  | inr l ↦ l
]

first_passing : (p : List ℕ → Bool) (xs : List (List ℕ)) → NonePasses p xs ⊎ ((m : List ℕ) × IsFirst p xs m)
first_passing p [] = inl (λ x i h. member_nil x i)
first_passing p (y ∷ ys) = by_test p y ys (p y) refl (first_passing p ys)
  where
    alone : (p : List ℕ → Bool) (y : List ℕ) (ys : List (List ℕ)) → p y ≡ true → ((x : List ℕ) → Contains ys x → p x ≡ true → comes_before x y ≡ false) → IsFirst p (y ∷ ys) y
    alone p y ys e more = record {
      there = here y ys;
      passes = e;
      first = λ x i h. elim (member_cases y ys x i) [ inl s ↦ subst (λ z. comes_before z y ≡ false) s (not_before_itself y) | inr j ↦ more x j h ];
    }

    further : (p : List ℕ → Bool) (y : List ℕ) (ys : List (List ℕ)) (m : List ℕ) → IsFirst p ys m → (p y ≡ true → comes_before y m ≡ false) → IsFirst p (y ∷ ys) m
    further p y ys m f e = record {
      there = there y ys m f.there;
      passes = f.passes;
      first = λ x i h. elim (member_cases y ys x i) [ inl s ↦ subst (λ z. comes_before z m ≡ false) s (e (ap p s ∙ h)) | inr j ↦ f.first x j h ];
    }

    by_order : (p : List ℕ → Bool) (y : List ℕ) (ys : List (List ℕ)) → p y ≡ true → (m : List ℕ) → IsFirst p ys m → (b : Bool) → comes_before y m ≡ b → (m : List ℕ) × IsFirst p (y ∷ ys) m
    by_order p y ys e m f true k = (y, alone p y ys e (λ x i h. before_both x y m (f.first x i h) k))
    by_order p y ys e m f false k = (m, further p y ys m f (λ _. k))

    by_test : (p : List ℕ → Bool) (y : List ℕ) (ys : List (List ℕ)) (b : Bool) → p y ≡ b → NonePasses p ys ⊎ ((m : List ℕ) × IsFirst p ys m) → NonePasses p (y ∷ ys) ⊎ ((m : List ℕ) × IsFirst p (y ∷ ys) m)
    by_test p y ys true e (inl none) = inr (y, alone p y ys e (λ x i h. absurd (none x i h)))
    by_test p y ys true e (inr (m, f)) = inr (by_order p y ys e m f (comes_before y m) refl)
    by_test p y ys false e (inl none) = inl (λ x i h. elim (member_cases y ys x i) [ inl s ↦ true≢false (sym h ∙ (ap p (sym s) ∙ e)) | inr j ↦ none x j h ])
    by_test p y ys false e (inr (m, f)) = inr (m, further p y ys m f (λ h. absurd (true≢false (sym h ∙ e))))

-- ---- the least failure

fails_tested : (box : PlainBox) (ds : List ℕ) → (Executes (run_under box ds) → ⊥) → fails_test box ds ≡ true
fails_tested box ds h = elim (cases_Bool (fails_test box ds)) [ inl t ↦ t | inr f ↦ absurd (h (executes_told box ds f)) ]

pub least_of : (box : PlainBox) (ds : List ℕ) → IsFailure box ds → (m : List ℕ) × IsLeastFailure box m
least_of box ds f = elim (first_passing (fails_test box) (vectors box.owners)) [
  | inl none ↦ absurd (none ds (vector_there box.owners ds f.vector) (fails_tested box ds f.fails))
  | inr r ↦ (
    r.0,
    record {
      failure = record { vector = is_vector box.owners r.0 r.1.there; fails = fails_told box r.0 r.1.passes };
      least = λ other g. r.1.first other (vector_there box.owners other g.vector) (fails_tested box other g.fails);
    },
  )
]

pub strong_or_least_failure : StrongOrLeastFailure
strong_or_least_failure box w = elim (strong_or_fails box w) [ inl strong ↦ inl strong | inr f ↦ inr (least_of box f.0 f.1) ]

pub least_failure_exactly_where_weak : LeastFailureExactlyWhereWeak
least_failure_exactly_where_weak box w =
    (λ f strong. failures_mean_weakness box f.0 f.1.failure strong, λ weak. elim (strong_or_least_failure box w) [ inl strong ↦ absurd (weak strong) | inr f ↦ f ])
