-- Numbers of atoms by how many come before.
use Rattle.std.proofs.Common.{◌≡◌, ℕ, zero, suc, ◌+◌, ◌<◌, ◌==◌, ◌||◌, Bool, true, false, not, cond, List, [], ◌∷◌, ◌++◌, length, map, filter, take, drop, get_or, Option, Some, None, option_map, is_some, refl, sym, ap, ap₂, ◌∙◌, append_assoc, arith}
use Rattle.std.specs.List.{list_any, position_or_len, range_with_len, enumerate_from}
use Rattle.std.proofs.lemmas.Bool.{eq-eqb}
use Rattle.std.proofs.lemmas.Bool.Decides.{nat_tests}
use Rattle.std.proofs.lemmas.List.{length-append, length-map, drop_more, get_or-map, map-append}
use Rattle.std.proofs.lemmas.List.Elements.{filter-append}
use Rattle.std.proofs.lemmas.List.FromFn.{map-range_with_len_more}
use Rattle.std.proofs.lemmas.List.{map-id}
use Rattle.stp_cond.specs.Atoms.{has}
use Rattle.stp_cond.specs.Truth.{state_of_row}
use Rattle.stp_task.specs.declared.action.GroundAction.{GroundAction}
use Rattle.stp_task.specs.Actions.{PlainAction, PlainHappening, action_of, event_in}
use Rattle.stp_task.specs.Tasks.{PlainTask}
use Rattle.stp_rewriting.specs.Rewritten.{Ending, is_shadowed}
use Rattle.stp_rewriting.specs.Numbering.{ending_of, endings_from, shadowed_among}
use Rattle.stp_rewrite.specs.RewrittenTasks.{end_of, first_opened, kept_of, opened_at, rewriting_in, shadow_at}
use Rattle.stp_rewrite.specs.Rows.{writes_if, writes_at_end, passing_below, number_if, numbers_if}
use Rattle.stp_rewrite.specs.Views.{number_of, after_number}

-- ---- what uncertain ends write

pub any_ending : (key : ℕ) (xs : List GroundAction) (a : ℕ) → list_any (λ x. writes_at_end (action_of x) a) xs ≡ list_any (λ o. has o.event.adds a || has o.event.dels a) (endings_from key (map kept_of (map action_of xs)))
any_ending key [] a = refl
any_ending key (x ∷ xs) a = ap (λ b. writes_at_end (action_of x) a || b) (any_ending (key + 1) xs a) ∙ by_end (end_of (action_of x)) (endings_from (key + 1) (map kept_of (map action_of xs)))
  where
    by_end : (e : Option PlainHappening) (rest : List Ending) →
        (writes_if e a || list_any (λ o. has o.event.adds a || has o.event.dels a) rest) ≡ list_any (λ o. has o.event.adds a || has o.event.dels a) (ending_of key (option_map event_in e) ++ rest)
    by_end None rest = refl
    by_end (Some e) rest = refl

or_none : (b : Bool) → b ≡ (b || false)
or_none true = refl
or_none false = refl

-- all actions are marked
pub marked_all : (xs : List GroundAction) (bit : Bool) (a : ℕ) → (bit || list_any (λ x. writes_at_end (action_of x) a) []) ≡ list_any (λ x. writes_at_end (action_of x) a) xs → bit ≡ list_any (λ o. has o.event.adds a || has o.event.dels a) (endings_from 1 (map kept_of (map action_of xs)))
marked_all xs bit a h = or_none bit ∙ h ∙ any_ending 1 xs a

-- ---- numbers in order

range_more : (n : ℕ) → range_with_len 0 (n + 1) ≡ range_with_len 0 n ++ n ∷ []
range_more n = sym (map-id (range_with_len 0 (n + 1))) ∙ (map-range_with_len_more (λ (a : ℕ). a) 0 n n (omega arith) ∙ ap (λ l. l ++ n ∷ []) (map-id (range_with_len 0 n)))

pub numbers_more : (test : ℕ → Bool) (first n : ℕ) → numbers_if test first (n + 1) ≡ numbers_if test first n ++ number_of (test n) (first + passing_below test n) ∷ []
numbers_more test first n = map-range_with_len_more (number_if test first) 0 n n (omega arith)

pub passing_more : (test : ℕ → Bool) (first n : ℕ) → after_number (test n) (first + passing_below test n) ≡ first + passing_below test (n + 1)
passing_more test first n =
    by_test (test n) refl ∙ sym (ap (λ l. first + length (filter test l)) (range_more n) ∙ ap (λ l. first + length l) (filter-append test (range_with_len 0 n) (n ∷ [])) ∙ ap (λ k. first + k) (length-append (filter test (range_with_len 0 n)) (filter test (n ∷ []))))
  where
    by_test : (b : Bool) → test n ≡ b → after_number b (first + passing_below test n) ≡ first + (passing_below test n + length (cond b (n ∷ []) []))
    by_test true e = omega arith
    by_test false e = omega arith

place_passing : (test : ℕ → Bool) (a s k m : ℕ) → a ≡ s + k → k < m → test a ≡ true → position_or_len (λ x. x == a) (filter test (range_with_len s m)) ≡ length (filter test (range_with_len s k))
place_passing test a s k zero e l h = absurd (omega (arith, l))
place_passing test a s zero (suc m) e l h =
    let here : s ≡ a = omega (arith, e) in
    ap (λ b. position_or_len (λ x. x == a) (cond b (s ∷ filter test (range_with_len (s + 1) m)) (filter test (range_with_len (s + 1) m)))) (ap test here ∙ h)
    ∙ ap (λ b. cond (not b) (1 + position_or_len (λ x. x == a) (filter test (range_with_len (s + 1) m))) 0) (eq-eqb s a here)
place_passing test a s (suc k) (suc m) e l h =
    by_test (test s) (place_passing test a (s + 1) k m (omega (arith, e)) (omega (arith, l)) h)
  where
    other : (s == a) ≡ false
    other = let l : s < a = omega (arith, e) in grind (arith, nat_tests)

    by_test : (b : Bool) → position_or_len (λ x. x == a) (filter test (range_with_len (s + 1) m)) ≡ length (filter test (range_with_len (s + 1) k)) →
        position_or_len (λ x. x == a) (cond b (s ∷ filter test (range_with_len (s + 1) m)) (filter test (range_with_len (s + 1) m))) ≡ length (cond b (s ∷ filter test (range_with_len (s + 1) k)) (filter test (range_with_len (s + 1) k)))
    by_test true i = ap (λ c. cond (not c) (1 + position_or_len (λ x. x == a) (filter test (range_with_len (s + 1) m))) 0) other ∙ omega (arith, i)
    by_test false i = i

pub same_range : {X : Type 0} (f g : ℕ → X) (s m : ℕ) → ((a : ℕ) → a < s + m → f a ≡ g a) → map f (range_with_len s m) ≡ map g (range_with_len s m)
same_range f g s zero h = refl
same_range f g s (suc m) h = ap₂ (λ x xs. x ∷ xs) (h s (omega arith)) (same_range f g (s + 1) m (λ a l. h a (omega (arith, l))))

number_is_shadow : (t : PlainTask) (a : ℕ) → a < length t.atoms → number_if (is_shadowed (rewriting_in t)) (length t.atoms) a ≡ shadow_at (rewriting_in t) a
number_is_shadow t a l = by_test (is_shadowed (rewriting_in t) a) refl
  where
    by_test : (b : Bool) → is_shadowed (rewriting_in t) a ≡ b → cond b (Some (length t.atoms + passing_below (is_shadowed (rewriting_in t)) a)) None ≡ cond b (Some ((rewriting_in t).shadow a)) None
    by_test true e = ap (λ k. Some (length t.atoms + k)) (sym (place_passing (is_shadowed (rewriting_in t)) a 0 a (length t.atoms) (omega arith) l e))
    by_test false e = refl

pub shadow_row_is : (t : PlainTask) → numbers_if (is_shadowed (rewriting_in t)) (length t.atoms) (length t.atoms) ≡ map (shadow_at (rewriting_in t)) (range_with_len 0 (length t.atoms))
shadow_row_is t = same_range (number_if (is_shadowed (rewriting_in t)) (length t.atoms)) (shadow_at (rewriting_in t)) 0 (length t.atoms) (λ a l. number_is_shadow t a (omega (arith, l)))

-- ---- opened atoms

place_of_ending : (n first i : ℕ) (xs : List PlainAction) (d : PlainAction) (e : PlainHappening) → n ≡ first + i → i < length xs → end_of (get_or xs i d) ≡ Some e →
    position_or_len (λ o. o.key == n) (endings_from first (map kept_of xs)) ≡ length (endings_from first (map kept_of (take i xs)))
place_of_ending n first i [] d e same l h = absurd (omega (arith, l))
place_of_ending n first zero (x ∷ xs) d e same l h =
    ap (λ o. position_or_len (λ o. o.key == n) (ending_of first (option_map event_in o) ++ endings_from (first + 1) (map kept_of xs))) h
    ∙ ap (λ b. cond (not b) (1 + position_or_len (λ o. o.key == n) (endings_from (first + 1) (map kept_of xs))) 0) (eq-eqb first n (omega (arith, same)))
place_of_ending n first (suc i) (x ∷ xs) d e same l h =
    skipped (end_of x) (endings_from (first + 1) (map kept_of xs)) (endings_from (first + 1) (map kept_of (take i xs))) (place_of_ending n (first + 1) i xs d e (omega (arith, same)) (omega (arith, l)) h)
  where
    other : (first == n) ≡ false
    other = let l : first < n = omega (arith, same) in grind (arith, nat_tests)

    skipped : (o : Option PlainHappening) (rest before : List Ending) → position_or_len (λ o. o.key == n) rest ≡ length before →
        position_or_len (λ o. o.key == n) (ending_of first (option_map event_in o) ++ rest) ≡ length (ending_of first (option_map event_in o) ++ before)
    skipped None rest before k = k
    skipped (Some f) rest before k = ap (λ b. cond (not b) (1 + position_or_len (λ o. o.key == n) rest) 0) other ∙ omega (arith, k)

endings_more : (first i : ℕ) (xs : List PlainAction) (d : PlainAction) → i < length xs → length (endings_from first (map kept_of (take (suc i) xs))) ≡ after_number (is_some (end_of (get_or xs i d))) (length (endings_from first (map kept_of (take i xs))))
endings_more first i [] d l = absurd (omega (arith, l))
endings_more first zero (x ∷ xs) d l = one (end_of x)
  where
    one : (o : Option PlainHappening) → length (ending_of first (option_map event_in o) ++ []) ≡ after_number (is_some o) 0
    one None = refl
    one (Some e) = refl
endings_more first (suc i) (x ∷ xs) d l = with_first (end_of x) (endings_from (first + 1) (map kept_of (take (suc i) xs))) (endings_from (first + 1) (map kept_of (take i xs))) (is_some (end_of (get_or xs i d))) (endings_more (first + 1) i xs d (omega (arith, l)))
  where
    with_first : (o : Option PlainHappening) (more less : List Ending) (b : Bool) → length more ≡ after_number b (length less) → length (ending_of first (option_map event_in o) ++ more) ≡ after_number b (length (ending_of first (option_map event_in o) ++ less))
    with_first None more less b h = h
    with_first (Some e) more less true h = omega (arith, h)
    with_first (Some e) more less false h = omega (arith, h)

one_more : (i : ℕ) → i + 1 ≡ suc i
one_more i = omega arith

added_after : (b : Bool) (first n : ℕ) → after_number b (first + n) ≡ first + after_number b n
added_after true first n = omega arith
added_after false first n = refl

-- the number that an action gets
pub opened_is : (t : PlainTask) (i : ℕ) (d : PlainAction) → i < length t.actions → number_of (is_some (end_of (get_or t.actions i d))) (first_opened t + length (endings_from 1 (map kept_of (take i t.actions)))) ≡ opened_at (rewriting_in t) (i + 1) (get_or t.actions i d)
opened_is t i d l = by_end (end_of (get_or t.actions i d)) refl
  where
    by_end : (o : Option PlainHappening) → end_of (get_or t.actions i d) ≡ o → number_of (is_some o) (first_opened t + length (endings_from 1 (map kept_of (take i t.actions)))) ≡ option_map (λ e. (rewriting_in t).opened (i + 1)) o
    by_end None e = refl
    by_end (Some f) e = ap (λ k. Some (first_opened t + k)) (sym (place_of_ending (i + 1) 1 i t.actions d f (omega arith) l e))

pub next_opened : (t : PlainTask) (i : ℕ) (d : PlainAction) → i < length t.actions → after_number (is_some (end_of (get_or t.actions i d))) (first_opened t + length (endings_from 1 (map kept_of (take i t.actions)))) ≡ first_opened t + length (endings_from 1 (map kept_of (take (i + 1) t.actions)))
next_opened t i d l = added_after (is_some (end_of (get_or t.actions i d))) (first_opened t) (length (endings_from 1 (map kept_of (take i t.actions)))) ∙ ap (λ k. first_opened t + k) (sym (ap (λ k. length (endings_from 1 (map kept_of (take k t.actions)))) (one_more i) ∙ endings_more 1 i t.actions d l))

pub all_numbers : (t : PlainTask) → length t.initial ≡ length t.atoms → first_opened t + length (rewriting_in t).endings ≡ length (rewriting_in t).initial
all_numbers t e =
    let r = rewriting_in t in
    let shadowed = shadowed_among (length t.atoms) r.endings in
    sym (length-append (t.initial ++ map (state_of_row t.initial) shadowed) (map (λ o. false) r.endings)
    ∙ ap₂ (λ m n. m + n)
    (length-append t.initial (map (state_of_row t.initial) shadowed) ∙ ap₂ (λ m n. m + n) e (length-map shadowed (state_of_row t.initial)))
    (length-map r.endings (λ o. false)))

-- one action more
pub opened_step : (t : PlainTask) (i : ℕ) (d : PlainAction) (row new whole : List (Option ℕ)) (next : ℕ) (b : Bool) → i < length t.actions → b ≡ is_some (end_of (get_or t.actions i d)) →
    next ≡ first_opened t + length (endings_from 1 (map kept_of (take i t.actions))) → new ≡ row ++ number_of b next ∷ [] →
    row ++ map (λ p. opened_at (rewriting_in t) p.0 p.1) (enumerate_from (i + 1) (drop i t.actions)) ≡ whole → new ++ map (λ p. opened_at (rewriting_in t) p.0 p.1) (enumerate_from (i + 1 + 1) (drop (i + 1) t.actions)) ≡ whole
opened_step t i d row new whole next b l is n e h =
    let rest = map (λ p. opened_at (rewriting_in t) p.0 p.1) (enumerate_from (i + 1 + 1) (drop (i + 1) t.actions)) in
    ap (λ k. k ++ rest) e
    ∙ (append_assoc row (number_of b next ∷ []) rest
    ∙ (ap (λ o. row ++ o ∷ rest) (ap₂ number_of is n ∙ opened_is t i d l)
    ∙ (ap (λ k. row ++ map (λ p. opened_at (rewriting_in t) p.0 p.1) (enumerate_from (i + 1) k)) (sym (drop_more t.actions i d l)) ∙ h)))

-- an action among those that stand for others
pub action_at : (xs : List GroundAction) (i : ℕ) (x : GroundAction) → i < length xs → x ≡ get_or xs i x → get_or (map action_of xs) i (action_of x) ≡ action_of x
action_at xs i x l e = get_or-map action_of xs i x (action_of x) l ∙ ap action_of (sym e)

pub some_mapped : {X Y : Type 0} (f : X → Y) (o : Option X) → is_some o ≡ is_some (option_map f o)
some_mapped f None = refl
some_mapped f (Some x) = refl

-- one value more, where its atom is marked
pub value_more : (value test : ℕ → Bool) (n : ℕ) (old values new : List Bool) (b v : Bool) → b ≡ test n → v ≡ value n → values ≡ old ++ map value (filter test (range_with_len 0 n)) → new ≡ values ++ cond b (v ∷ []) [] → new ≡ old ++ map value (filter test (range_with_len 0 (n + 1)))
value_more value test n old values new b v is same so_far e =
    e
    ∙ (ap₂ (λ l c. l ++ cond c (v ∷ []) []) so_far is
    ∙ (ap (λ w. (old ++ map value (filter test (range_with_len 0 n))) ++ cond (test n) (w ∷ []) []) same
    ∙ (append_assoc old (map value (filter test (range_with_len 0 n))) (cond (test n) (value n ∷ []) [])
    ∙ (ap (λ l. old ++ (map value (filter test (range_with_len 0 n)) ++ l)) (by_test (test n))
    ∙ ap (λ l. old ++ l) (sym (ap (λ l. map value (filter test l)) (range_more n) ∙ (ap (map value) (filter-append test (range_with_len 0 n) (n ∷ [])) ∙ map-append value (filter test (range_with_len 0 n)) (filter test (n ∷ [])))))))))
  where
    by_test : (c : Bool) → cond c (value n ∷ []) [] ≡ map value (cond c (n ∷ []) [])
    by_test true = refl
    by_test false = refl

-- ---- how the numbers of shadows grow

pub passing_step : (test : ℕ → Bool) (n : ℕ) → passing_below test (n + 1) ≡ passing_below test n + cond (test n) 1 0
passing_step test n =
    ap (λ l. length (filter test l)) (range_more n) ∙ (ap length (filter-append test (range_with_len 0 n) (n ∷ [])) ∙ (length-append (filter test (range_with_len 0 n)) (filter test (n ∷ [])) ∙ ap (λ k. passing_below test n + k) (by_test (test n))))
  where
    by_test : (b : Bool) → length (cond b (n ∷ []) []) ≡ cond b 1 0
    by_test true = refl
    by_test false = refl

pub shadow_number : (t : PlainTask) (a : ℕ) → a < length t.atoms → is_shadowed (rewriting_in t) a ≡ true → (rewriting_in t).shadow a ≡ length t.atoms + passing_below (is_shadowed (rewriting_in t)) a
shadow_number t a l h = ap (λ k. length t.atoms + k) (place_passing (is_shadowed (rewriting_in t)) a 0 a (length t.atoms) (omega arith) l h)
