-- The state after a moment is the state before it with what the moment changes.
use Rattle.std.proofs.Common.{◌≡◌, ℕ, ◌<◌, ◌≤◌, Bool, true, false, not, ◌&&◌, ◌||◌, cond, nat_lt, nat_le, List, [], ◌∷◌, ◌++◌, get_or, All, refl, sym, ap, ◌∙◌, ⊎_elim, arith}
use Rattle.std.specs.List.{list_any, list_all, filter}
use Rattle.std.proofs.lemmas.Bool.{lt-ltb, le-ltb, le-leb, lt-leb, cases_Bool, or_parts, or_right, and_from, and_left, and_right, cond-true, both_ways}
use Rattle.std.proofs.lemmas.List.{append-nil}
use Rattle.std.proofs.lemmas.List.Elements.{All-cons, All-nil, All-head, All-tail, filter-append}
use Rattle.std.proofs.lemmas.List.Folds.{list_any-append, list_all-append}
use Rattle.stp_cond.specs.Atoms.{has}
use Rattle.stp_happen.specs.Firsts.{changed}
use Rattle.stp_happen.specs.Plain.{PlainEntry, writes, is_latest_write, state_after}

-- ---- lists whose items all pass a test, or all fail

pub filter_all : {X : Type 0} (p : X → Bool) (xs : List X) → All (λ x. p x ≡ true) xs → filter p xs ≡ xs
filter_all p [] all = refl
filter_all p (x ∷ xs) all = ap (λ b. cond b (x ∷ filter p xs) (filter p xs)) (All-head (λ y. p y ≡ true) x xs all) ∙ ap (λ l. x ∷ l) (filter_all p xs (All-tail (λ y. p y ≡ true) x xs all))

pub filter_none : {X : Type 0} (p : X → Bool) (xs : List X) → All (λ x. p x ≡ false) xs → filter p xs ≡ []
filter_none p [] all = refl
filter_none p (x ∷ xs) all = ap (λ b. cond b (x ∷ filter p xs) (filter p xs)) (All-head (λ y. p y ≡ false) x xs all) ∙ filter_none p xs (All-tail (λ y. p y ≡ false) x xs all)

-- ---- the entries up to a moment

pub before_is : (D M L : List PlainEntry) (t : ℕ) → All (λ e. e.time < t) D → All (λ e. e.time ≡ t) M → All (λ e. t < e.time) L → filter (λ e. nat_lt e.time t) (D ++ (M ++ L)) ≡ D
before_is D M L t d m l =
    filter-append (λ e. nat_lt e.time t) D (M ++ L)
    ∙ (ap (λ r. filter (λ e. nat_lt e.time t) D ++ r)
    (filter-append (λ e. nat_lt e.time t) M L
    ∙ (ap (λ r. r ++ filter (λ e. nat_lt e.time t) L) (filter_none (λ e. nat_lt e.time t) M (λ k x h. le-ltb (get_or M k x).time t (omega (arith, m k x h))))
    ∙ filter_none (λ e. nat_lt e.time t) L (λ k x h. le-ltb (get_or L k x).time t (omega (arith, l k x h)))))
    ∙ (append-nil (filter (λ e. nat_lt e.time t) D) ∙ filter_all (λ e. nat_lt e.time t) D (λ k x h. lt-ltb (get_or D k x).time t (d k x h))))

pub after_is : (D M L : List PlainEntry) (t : ℕ) → All (λ e. e.time < t) D → All (λ e. e.time ≡ t) M → All (λ e. t < e.time) L → filter (λ e. nat_le e.time t) (D ++ (M ++ L)) ≡ D ++ M
after_is D M L t d m l =
    filter-append (λ e. nat_le e.time t) D (M ++ L)
    ∙ (ap (λ r. r ++ filter (λ e. nat_le e.time t) (M ++ L)) (filter_all (λ e. nat_le e.time t) D (λ k x h. le-leb (get_or D k x).time t (omega (arith, d k x h))))
    ∙ ap (λ r. D ++ r)
    (filter-append (λ e. nat_le e.time t) M L
    ∙ (ap (λ r. r ++ filter (λ e. nat_le e.time t) L) (filter_all (λ e. nat_le e.time t) M (λ k x h. le-leb (get_or M k x).time t (omega (arith, m k x h))))
    ∙ (ap (λ r. M ++ r) (filter_none (λ e. nat_le e.time t) L (λ k x h. lt-leb (get_or L k x).time t (l k x h))) ∙ append-nil M))))

-- ---- writes

any_or : {X : Type 0} (p q : X → Bool) (xs : List X) → list_any (λ x. p x || q x) xs ≡ (list_any p xs || list_any q xs)
any_or p q [] = refl
any_or p q (x ∷ xs) = ap (λ b. (p x || q x) || b) (any_or p q xs) ∙ four (p x) (q x) (list_any p xs) (list_any q xs)
  where
    four : (a b c d : Bool) → ((a || b) || (c || d)) ≡ ((a || c) || (b || d))
    four true b c d = refl
    four false true true d = refl
    four false true false d = refl
    four false false c d = refl

any_agree : {X : Type 0} (p q : X → Bool) (xs : List X) → All (λ x. p x ≡ q x) xs → list_any p xs ≡ list_any q xs
any_agree p q [] all = refl
any_agree p q (x ∷ xs) all = ap (λ b. b || list_any p xs) (All-head (λ y. p y ≡ q y) x xs all) ∙ ap (λ b. q x || b) (any_agree p q xs (All-tail (λ y. p y ≡ q y) x xs all))

all_agree : {X : Type 0} (p q : X → Bool) (xs : List X) → All (λ x. p x ≡ q x) xs → list_all p xs ≡ list_all q xs
all_agree p q [] all = refl
all_agree p q (x ∷ xs) all = ap (λ b. b && list_all p xs) (All-head (λ y. p y ≡ q y) x xs all) ∙ ap (λ b. q x && b) (all_agree p q xs (All-tail (λ y. p y ≡ q y) x xs all))

all_true : {X : Type 0} (p : X → Bool) (xs : List X) → All (λ x. p x ≡ true) xs → list_all p xs ≡ true
all_true p [] all = refl
all_true p (x ∷ xs) all = and_from (p x) (list_all p xs) (All-head (λ y. p y ≡ true) x xs all) (all_true p xs (All-tail (λ y. p y ≡ true) x xs all))

any_false : {X : Type 0} (p : X → Bool) (xs : List X) → All (λ x. p x ≡ false) xs → list_any p xs ≡ false
any_false p [] all = refl
any_false p (x ∷ xs) all = ap (λ b. b || list_any p xs) (All-head (λ y. p y ≡ false) x xs all) ∙ any_false p xs (All-tail (λ y. p y ≡ false) x xs all)

-- where none passes, each fails
each_false : {X : Type 0} (p : X → Bool) (xs : List X) → list_any p xs ≡ false → All (λ x. p x ≡ false) xs
each_false p [] h = All-nil (λ y. p y ≡ false)
each_false p (x ∷ xs) h = let parts = or_parts (p x) (list_any p xs) h in All-cons (λ y. p y ≡ false) x xs parts.0 (each_false p xs parts.1)

-- a write at a later moment, so that no earlier one is the latest
not_latest : (a u : ℕ) (xs : List PlainEntry) (t : ℕ) → u < t → All (λ e. e.time ≡ t) xs → list_any (λ e. writes e a) xs ≡ true → is_latest_write xs a u ≡ false
not_latest a u [] t h all some = sym some
not_latest a u (x ∷ xs) t h all some =
    let late : nat_le x.time u ≡ false = lt-leb x.time u (omega (arith, All-head (λ e. e.time ≡ t) x xs all)) in
    by (writes x a) (nat_le x.time u) (list_any (λ e. writes e a) xs) (is_latest_write xs a u) late some (not_latest a u xs t h (All-tail (λ e. e.time ≡ t) x xs all))
  where
    by : (w l s r : Bool) → l ≡ false → (w || s) ≡ true → (s ≡ true → r ≡ false) → ((not w || l) && r) ≡ false
    by true true s r e some rest = absurd (both_ways true e refl)
    by true false s r e some rest = refl
    by false l s r e some rest = rest some

-- ---- the state

latest_append : (D M : List PlainEntry) (a u : ℕ) → is_latest_write (D ++ M) a u ≡ (is_latest_write D a u && is_latest_write M a u)
latest_append D M a u = list_all-append (λ e. not (writes e a) || nat_le e.time u) D M

up_to : (xs : List PlainEntry) (a u : ℕ) → All (λ e. e.time ≤ u) xs → is_latest_write xs a u ≡ true
up_to xs a u all = all_true (λ e. not (writes e a) || nat_le e.time u) xs (λ k d h. or_right (not (writes (get_or xs k d) a)) (nat_le (get_or xs k d).time u) (le-leb (get_or xs k d).time u (all k d h)))

adds_and_writes : (M : List PlainEntry) (a : ℕ) → list_any (λ e. writes e a) M ≡ (list_any (λ e. has e.event.adds a) M || list_any (λ e. has e.event.dels a) M)
adds_and_writes M a = any_or (λ e. has e.event.adds a) (λ e. has e.event.dels a) M

last_added : (adds dels old : Bool) → (adds || dels) ≡ true → cond adds true (cond dels false old) ≡ adds
last_added true dels old h = refl
last_added false true old h = refl
last_added false false old h = absurd (both_ways false refl h)

none_added : (adds dels old : Bool) → (adds || dels) ≡ false → cond adds true (cond dels false old) ≡ old
none_added true dels old h = absurd (both_ways true h refl)
none_added false true old h = absurd (both_ways true h refl)
none_added false false old h = refl

written : (initial : ℕ → Bool) (D M : List PlainEntry) (t : ℕ) → All (λ e. e.time < t) D → All (λ e. e.time ≡ t) M → (a : ℕ) → list_any (λ e. writes e a) M ≡ true → changed M (state_after initial D) a ≡ state_after initial (D ++ M) a
written initial D M t d m a some =
    let adds : PlainEntry → Bool = λ e. has e.event.adds a in
    let chosen : PlainEntry → Bool = λ e. has e.event.adds a && is_latest_write (D ++ M) a e.time in
    let early : list_any chosen D ≡ false = any_false chosen D (λ k x h. and_right (adds (get_or D k x)) (is_latest_write (D ++ M) a (get_or D k x).time)
    (latest_append D M a (get_or D k x).time ∙ and_right (is_latest_write D a (get_or D k x).time) (is_latest_write M a (get_or D k x).time) (not_latest a (get_or D k x).time M t (d k x h) m some))) in
    let all_by : is_latest_write (D ++ M) a t ≡ true = latest_append D M a t ∙ and_from (is_latest_write D a t) (is_latest_write M a t) (up_to D a t (λ k x h. omega (arith, d k x h))) (up_to M a t (λ k x h. omega (arith, m k x h))) in
    let late : list_any chosen M ≡ list_any adds M = any_agree chosen adds M (λ k x h. ap (λ u. adds (get_or M k x) && is_latest_write (D ++ M) a u) (m k x h) ∙ (ap (λ b. adds (get_or M k x) && b) all_by ∙ and_true (adds (get_or M k x)))) in
    let wrote : list_any (λ e. writes e a) (D ++ M) ≡ true = list_any-append (λ e. writes e a) D M ∙ or_right (list_any (λ e. writes e a) D) (list_any (λ e. writes e a) M) some in
    last_added (list_any adds M) (list_any (λ e. has e.event.dels a) M) (state_after initial D a) (sym (adds_and_writes M a) ∙ some)
    ∙ sym (cond-true (list_any (λ e. writes e a) (D ++ M)) (list_any chosen (D ++ M)) (initial a) wrote
    ∙ (list_any-append chosen D M ∙ (ap (λ b. b || list_any chosen M) early ∙ late)))
  where
    and_true : (b : Bool) → (b && true) ≡ b
    and_true true = refl
    and_true false = refl

unwritten : (initial : ℕ → Bool) (D M : List PlainEntry) (a : ℕ) → list_any (λ e. writes e a) M ≡ false → changed M (state_after initial D) a ≡ state_after initial (D ++ M) a
unwritten initial D M a none =
    let adds : PlainEntry → Bool = λ e. has e.event.adds a in
    let chosen : PlainEntry → Bool = λ e. has e.event.adds a && is_latest_write (D ++ M) a e.time in
    let before : PlainEntry → Bool = λ e. has e.event.adds a && is_latest_write D a e.time in
    let each = each_false (λ e. writes e a) M none in
    let quiet : (u : ℕ) → is_latest_write M a u ≡ true = λ u. all_true (λ e. not (writes e a) || nat_le e.time u) M (λ k x h. ap (λ b. not b || nat_le (get_or M k x).time u) (each k x h)) in
    let same : list_any chosen D ≡ list_any before D = any_agree chosen before D (λ k x h. ap (λ b. adds (get_or D k x) && b) (latest_append D M a (get_or D k x).time ∙ (ap (λ b. is_latest_write D a (get_or D k x).time && b) (quiet (get_or D k x).time) ∙ and_true (is_latest_write D a (get_or D k x).time)))) in
    let no_add : list_any chosen M ≡ false = any_false chosen M (λ k x h. and_left (adds (get_or M k x)) (is_latest_write (D ++ M) a (get_or M k x).time) (or_parts (adds (get_or M k x)) (has (get_or M k x).event.dels a) (each k x h)).0) in
    let wrote : list_any (λ e. writes e a) (D ++ M) ≡ list_any (λ e. writes e a) D = list_any-append (λ e. writes e a) D M ∙ (ap (λ b. list_any (λ e. writes e a) D || b) none ∙ or_false (list_any (λ e. writes e a) D)) in
    let picked : list_any chosen (D ++ M) ≡ list_any before D = list_any-append chosen D M ∙ (ap (λ b. b || list_any chosen M) same ∙ (ap (λ b. list_any before D || b) no_add ∙ or_false (list_any before D))) in
    none_added (list_any adds M) (list_any (λ e. has e.event.dels a) M) (state_after initial D a) (sym (adds_and_writes M a) ∙ none)
    ∙ sym (ap (λ b. cond b (list_any chosen (D ++ M)) (initial a)) wrote ∙ ap (λ b. cond (list_any (λ e. writes e a) D) b (initial a)) picked)
  where
    and_true : (b : Bool) → (b && true) ≡ b
    and_true true = refl
    and_true false = refl

    or_false : (b : Bool) → (b || false) ≡ b
    or_false true = refl
    or_false false = refl

pub moment_state : (initial : ℕ → Bool) (D M : List PlainEntry) (t : ℕ) → All (λ e. e.time < t) D → All (λ e. e.time ≡ t) M → (a : ℕ) → changed M (state_after initial D) a ≡ state_after initial (D ++ M) a
moment_state initial D M t d m a =
    ⊎_elim
    (λ some. written initial D M t d m a some)
    (λ none. unwritten initial D M a none)
    (cases_Bool (list_any (λ e. writes e a) M))
