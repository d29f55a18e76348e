-- Variables in scope, one more and one less.
use Rattle.std.proofs.Common.{◌≡◌, ◌≢◌, ℕ, zero, suc, ◌+◌, ◌<◌, ◌≤◌, Bool, true, false, not, if◌then◌else◌, List, [], ◌∷◌, ◌++◌, Option, Some, None, length, get_or, refl, ap, sym, ◌∙◌, arith, append_assoc, length-append}
use Rattle.std.specs.Prelude.{bytes_eq, position, slice_set, cond}
use Rattle.std.specs.List.{list_any, position_or_len}
use Rattle.std.proofs.lemmas.List.{map-append, append-nil, length-map}
use Rattle.std.proofs.lemmas.List.Folds.{position_or_len_push}
use Rattle.std.proofs.lemmas.List.Quantifiers.{position-Some}
use Rattle.std.proofs.Math.ListN.{length-set}
use Rattle.std.proofs.lemmas.Option.{slice_get_read}
use Rattle.std.proofs.lemmas.Slice.Eq.{bytes_eq-Decides}
use Rattle.std.proofs.lemmas.Bool.Decides.{nat_tests}
use Rattle.stp_tables.specs.Names.{number_of, with_name}
use Rattle.stp_condition.specs.declared.scope.Variable.{Variable}
use Rattle.stp_condition.specs.Scope.{Var, last_of, last_from, with_value}
use Rattle.stp_condition.specs.Hiding.{var_of, scope_of, latest_at, latest_in, IsKept, AreKept, IsScope}

-- ---- the last variable of a name

last_from-push : (i : ℕ) (found : Option ℕ) (name : List ℕ) (vs : List Var) (v : Var) → last_from i found name (vs ++ v ∷ []) ≡ (if bytes_eq name v.name then Some (i + length vs) else last_from i found name vs)
last_from-push i found name [] v = let e : i ≡ i + 0 = omega arith in ap (λ n. if bytes_eq name v.name then Some n else found) e
last_from-push i found name (w ∷ vs) v =
    let e : i + 1 + length vs ≡ i + length (w ∷ vs) = omega arith in
    last_from-push (i + 1) (if bytes_eq name w.name then Some i else found) name vs v
    ∙ ap (λ n. if bytes_eq name v.name then Some n else last_from i found name (w ∷ vs)) e

last_of-push : (name : List ℕ) (vs : List Var) (v : Var) → last_of name (vs ++ v ∷ []) ≡ (if bytes_eq name v.name then Some (length vs) else last_of name vs)
last_of-push name vs v =
    let e : 0 + length vs ≡ length vs = omega arith in
    last_from-push 0 None name vs v ∙ ap (λ n. if bytes_eq name v.name then Some n else last_of name vs) e

last_in-push : (name : List ℕ) (vs : List Variable) (v : Variable) → last_of name (scope_of (vs ++ v ∷ [])) ≡ (if bytes_eq name v.name.now then Some (length vs) else last_of name (scope_of vs))
last_in-push name vs v = ap (last_of name) (map-append var_of vs (v ∷ [])) ∙ last_of-push name (scope_of vs) (var_of v) ∙ ap (λ n. if bytes_eq name v.name.now then Some n else last_of name (scope_of vs)) (length-map vs var_of)

-- ---- numbers of words

same_bytes : (a b : List ℕ) → bytes_eq a b ≡ true → a ≡ b
same_bytes a b e = (bytes_eq-Decides a b).0 e

same_word : (words : List (List ℕ)) (a b : List ℕ) (n : ℕ) → number_of words a ≡ Some n → number_of words b ≡ Some n → a ≡ b
same_word words a b n e h =
    same_bytes a (get_or words n []) (position-Some (bytes_eq a) words n [] e).1
    ∙ sym (same_bytes b (get_or words n []) (position-Some (bytes_eq b) words n [] h).1)

word_within : (words : List (List ℕ)) (a : List ℕ) (n : ℕ) → number_of words a ≡ Some n → n < length words
word_within words a n e = (position-Some (bytes_eq a) words n [] e).0

one_more : (b : Bool) (n m : ℕ) → n ≤ m → cond (not b) (1 + n) 0 ≤ suc m
one_more true n m h = omega arith
one_more false n m h = omega (arith, h)

pol_le : {X : Type 0} (p : X → Bool) (xs : List X) → position_or_len p xs ≤ length xs
pol_le p [] = omega arith
pol_le p (x ∷ xs) = one_more (p x) (position_or_len p xs) (length xs) (pol_le p xs)

-- the number stays where there are more words
number_kept : (p : List ℕ → Bool) (words : List (List ℕ)) (word : List ℕ) (n : ℕ) → position p words ≡ Some n → position p (words ++ word ∷ []) ≡ Some n
number_kept p words word n e = let h = position_or_len_push p words word in let k = length-append words (word ∷ []) in grind (arith, nat_tests, h, k, e)

number_new : (p : List ℕ → Bool) (words : List (List ℕ)) (word : List ℕ) → position p words ≡ None → position p (words ++ word ∷ []) ≡ (if p word then Some (length words) else None)
number_new p words word e = let h = position_or_len_push p words word in let k = length-append words (word ∷ []) in let m = pol_le p words in grind (arith, nat_tests, h, k, e, m)

-- ---- what is kept for each word

at_set : (latest : List (Option ℕ)) (word : ℕ) (value : Option ℕ) → word < length latest → latest_at (slice_set latest word value) word ≡ value
at_set [] word value h = absurd (omega (arith, h))
at_set (x ∷ xs) zero value h = refl
at_set (x ∷ xs) (suc n) value h = at_set xs n value (omega (arith, h))

at_other : (latest : List (Option ℕ)) (word other : ℕ) (value : Option ℕ) → other ≢ word → latest_at (slice_set latest word value) other ≡ latest_at latest other
at_other [] word other value h = refl
at_other (x ∷ xs) zero zero value h = absurd (h refl)
at_other (x ∷ xs) zero (suc m) value h = refl
at_other (x ∷ xs) (suc n) zero value h = refl
at_other (x ∷ xs) (suc n) (suc m) value h = at_other xs n m value (λ e. h (ap suc e))

at_roomy : (latest : List (Option ℕ)) (word : ℕ) → latest_at (latest ++ None ∷ []) word ≡ latest_at latest word
at_roomy [] zero = refl
at_roomy [] (suc n) = refl
at_roomy (x ∷ xs) zero = refl
at_roomy (x ∷ xs) (suc n) = at_roomy xs n

same_values : {A B : Type 0} (f g : A → Option B) → ((x : A) → f x ≡ g x) → (o : Option A) → with_value f o ≡ with_value g o
same_values f g h None = refl
same_values f g h (Some x) = h x

-- what is kept for a name once a word has another number
in_set : (words : List (List ℕ)) (latest : List (Option ℕ)) (name other : List ℕ) (word : ℕ) (value : Option ℕ) → number_of words name ≡ Some word → word < length latest → (b : Bool) → bytes_eq other name ≡ b → (o : Option ℕ) → number_of words other ≡ o → with_value (latest_at (slice_set latest word value)) o ≡ (if b then value else with_value (latest_at latest) o)
in_set words latest name other word value e h true is None k = let s = same_bytes other name is in cc
in_set words latest name other word value e h true is (Some n) k = let s = same_bytes other name is in let same : n ≡ word = cc in rw same (at_set latest word value h)
in_set words latest name other word value e h false is None k = refl
in_set words latest name other word value e h false is (Some n) k = at_other latest word n value (λ same. let s : other ≡ name = same_word words other name word (k ∙ ap Some same) e in let t = (bytes_eq-Decides other name).1 s in cc)

latest_set : (words : List (List ℕ)) (latest : List (Option ℕ)) (name other : List ℕ) (word : ℕ) (value : Option ℕ) → number_of words name ≡ Some word → word < length latest → latest_in words (slice_set latest word value) other ≡ (if bytes_eq other name then value else latest_in words latest other)
latest_set words latest name other word value e h = in_set words latest name other word value e h (bytes_eq other name) refl (number_of words other) refl

-- ---- what the variables keep

kept_one : (words more : List (List ℕ)) (room wider : ℕ) (before : List Variable) (v : Variable) → ((name : List ℕ) (n : ℕ) → number_of words name ≡ Some n → number_of more name ≡ Some n) → room ≤ wider → IsKept words room before v → IsKept more wider before v
kept_one words more room wider before v f h k = record { word = f v.name.now v.word k.word; within = let w = k.within in omega (arith, h, w); hidden = k.hidden }

kept_more : (words more : List (List ℕ)) (room wider : ℕ) (before vs : List Variable) → ((name : List ℕ) (n : ℕ) → number_of words name ≡ Some n → number_of more name ≡ Some n) → room ≤ wider → AreKept words room before vs → AreKept more wider before vs
kept_more words more room wider before [] f h k = tt
kept_more words more room wider before (v ∷ vs) f h k = (kept_one words more room wider before v f h k.0, kept_more words more room wider (before ++ v ∷ []) vs f h k.1)

kept_push : (words : List (List ℕ)) (room : ℕ) (before vs : List Variable) (v : Variable) → AreKept words room before vs → IsKept words room (before ++ vs) v → AreKept words room before (vs ++ v ∷ [])
kept_push words room before [] v k h = (rw append-nil at h, tt)
kept_push words room before (w ∷ vs) v k h = (k.0, kept_push words room (before ++ w ∷ []) vs v k.1 (rw (append_assoc before (w ∷ []) vs) h))

kept_pop : (words : List (List ℕ)) (room : ℕ) (before vs : List Variable) (v : Variable) → AreKept words room before (vs ++ v ∷ []) → AreKept words room before vs × IsKept words room (before ++ vs) v
kept_pop words room before [] v k = (tt, rw append-nil k.0)
kept_pop words room before (w ∷ vs) v k = let h = kept_pop words room (before ++ w ∷ []) vs v k.1 in ((k.0, h.0), rw (append_assoc before (w ∷ []) vs) at h.1)

-- ---- scopes

-- a scope with place for one more word
pub roomy : (vs : List Variable) (words : List (List ℕ)) (latest : List (Option ℕ)) → IsScope vs words latest → IsScope vs words (latest ++ None ∷ [])
roomy vs words latest s = record {
  few = s.few;
  room = let h = s.room in let k = length-append latest (None ∷ []) in omega (arith, h, k);
  spare = λ word h. at_roomy latest word ∙ s.spare word h;
  right = λ name. same_values (latest_at (latest ++ None ∷ [])) (latest_at latest) (at_roomy latest) (number_of words name) ∙ s.right name;
  kept = kept_more words words (length latest) (length (latest ++ None ∷ [])) [] vs (λ name n e. e) (let k = length-append latest (None ∷ []) in omega (arith, k)) s.kept;
}

kept_either : (words : List (List ℕ)) (name other : List ℕ) (n : ℕ) → number_of words other ≡ Some n → (b : Bool) → number_of (if b then words else words ++ name ∷ []) other ≡ Some n
kept_either words name other n e true = e
kept_either words name other n e false = number_kept (bytes_eq other) words name n e

-- the number of a word stays where a name is put in
word_kept : (words : List (List ℕ)) (name other : List ℕ) (n : ℕ) → number_of words other ≡ Some n → number_of (with_name words name) other ≡ Some n
word_kept words name other n e = kept_either words name other n e (list_any (bytes_eq name) words)

module _ (vs : List Variable) (words : List (List ℕ)) (latest : List (Option ℕ)) (name : List ℕ) (s : IsScope vs words latest) where
  spare_at : (b : Bool) → latest_at latest (length words) ≡ None → with_value (latest_at latest) (if b then Some (length words) else None) ≡ None
  spare_at true h = h
  spare_at false h = refl

  right_new : (other : List ℕ) (o : Option ℕ) → number_of words other ≡ o → latest_in (words ++ name ∷ []) latest other ≡ with_value (latest_at latest) o
  right_new other None e = ap (with_value (latest_at latest)) (number_new (bytes_eq other) words name e) ∙ spare_at (bytes_eq other name) (s.spare (length words) (omega arith))
  right_new other (Some n) e = ap (with_value (latest_at latest)) (number_kept (bytes_eq other) words name n e)

  one_word : length words < length latest → IsScope vs (words ++ name ∷ []) latest
  one_word h = record {
    few = s.few;
    room = let k = length-append words (name ∷ []) in omega (arith, h, k);
    spare = λ word e. s.spare word (let k = length-append words (name ∷ []) in omega (arith, e, k));
    right = λ other. right_new other (number_of words other) refl ∙ s.right other;
    kept = kept_more words (words ++ name ∷ []) (length latest) (length latest) [] vs (λ other n e. number_kept (bytes_eq other) words name n e) (omega arith) s.kept;
  }

  either_word : (b : Bool) → length words < length latest → IsScope vs (if b then words else words ++ name ∷ []) latest
  either_word true h = s
  either_word false h = one_word h

  -- a scope that knows one more word
  pub worded : length words < length latest → IsScope vs (with_name words name) latest
  worded h = either_word (list_any (bytes_eq name) words) h

module _ (vs : List Variable) (words : List (List ℕ)) (latest : List (Option ℕ)) (v : Variable) where
  pushed_right : (other : List ℕ) → IsScope vs words latest → number_of words v.name.now ≡ Some v.word → v.word < length latest → latest_in words (slice_set latest v.word (Some (length vs))) other ≡ last_of other (scope_of (vs ++ v ∷ []))
  pushed_right other s e h =
      latest_set words latest v.name.now other v.word (Some (length vs)) e h
      ∙ ap (λ o. if bytes_eq other v.name.now then Some (length vs) else o) (s.right other)
      ∙ sym (last_in-push other vs v)

  -- a scope with one more variable
  pub pushed : IsScope vs words latest → length vs < 4000000000 → number_of words v.name.now ≡ Some v.word → v.hidden ≡ latest_at latest v.word → IsScope (vs ++ v ∷ []) words (slice_set latest v.word (Some (length vs)))
  pushed s few e hidden =
      let within : v.word < length words = word_within words v.name.now v.word e in
      let room : length words ≤ length latest = s.room in
      let same : length (slice_set latest v.word (Some (length vs))) ≡ length latest = length-set latest v.word (Some (length vs)) in
      record {
        few = let k = length-append vs (v ∷ []) in omega (arith, few, k);
        room = omega (arith, room, same);
        spare = λ word h. at_other latest v.word word (Some (length vs)) (λ (k : word ≡ v.word). omega (arith, h, k, within)) ∙ s.spare word h;
        right = λ other. pushed_right other s e (omega (arith, within, room));
        kept = rw same (kept_push words (length latest) [] vs v s.kept (record { word = e; within = omega (arith, within, room); hidden = hidden ∙ sym (ap (with_value (latest_at latest)) e) ∙ s.right v.name.now }));
      }

  popped_right : (other : List ℕ) (b : Bool) → bytes_eq other v.name.now ≡ b → v.hidden ≡ last_of v.name.now (scope_of vs) → (if b then v.hidden else (if b then Some (length vs) else last_of other (scope_of vs))) ≡ last_of other (scope_of vs)
  popped_right other true e h = h ∙ ap (λ n. last_of n (scope_of vs)) (sym (same_bytes other v.name.now e))
  popped_right other false e h = refl

  -- a scope without its innermost variable
  pub popped : IsScope (vs ++ v ∷ []) words latest → IsScope vs words (slice_set latest v.word v.hidden)
  popped s =
      let k = kept_pop words (length latest) [] vs v s.kept in
      let kept : IsKept words (length latest) vs v = k.1 in
      let within : v.word < length words = word_within words v.name.now v.word kept.word in
      let same : length (slice_set latest v.word v.hidden) ≡ length latest = length-set latest v.word v.hidden in
      let room : length words ≤ length latest = s.room in
      record {
        few = let few = s.few in let l = length-append vs (v ∷ []) in omega (arith, few, l);
        room = omega (arith, room, same);
        spare = λ word h. at_other latest v.word word v.hidden (λ (e : word ≡ v.word). omega (arith, h, e, within)) ∙ s.spare word h;
        right = λ other.
            latest_set words latest v.name.now other v.word v.hidden kept.word kept.within
            ∙ ap (λ o. if bytes_eq other v.name.now then v.hidden else o) (s.right other ∙ last_in-push other vs v)
            ∙ popped_right other (bytes_eq other v.name.now) refl kept.hidden;
        kept = rw same k.0;
      }

  -- the place of what is kept for the innermost variable's name
  pub popped_within : IsScope (vs ++ v ∷ []) words latest → v.word < length latest
  popped_within s = (kept_pop words (length latest) [] vs v s.kept).1.within

-- ---- a scope that has place for one more word

pub record IsReady (old vs : List Variable) (words : List (List ℕ)) (latest : List (Option ℕ)) : Type 0 where
  pub same : vs ≡ old
  pub scope : IsScope vs words latest
  pub space : length words < length latest

pub made_ready : (vs : List Variable) (words : List (List ℕ)) (latest : List (Option ℕ)) → IsScope vs words latest → IsReady vs vs words (latest ++ None ∷ [])
made_ready vs words latest s = record { same = refl; scope = roomy vs words latest s; space = let h = s.room in let k = length-append latest (None ∷ []) in omega (arith, h, k) }

pub is_ready : (vs : List Variable) (words : List (List ℕ)) (latest : List (Option ℕ)) → IsScope vs words latest → (length latest ≡ length words → ⊥) → IsReady vs vs words latest
is_ready vs words latest s h = record { same = refl; scope = s; space = let k = s.room in omega (arith, h, k) }

-- what is read at the place of a word
pub at_read : (latest : List (Option ℕ)) (word : ℕ) (value : Option ℕ) → word < length latest → value ≡ get_or latest word value → value ≡ latest_at latest word
at_read latest word value h e = sym (ap (with_value (λ o. o)) (slice_get_read latest (length latest) word value refl h e))

-- one more variable of a word that was put in, in this scope
pub pushed_after : (old vs new : List Variable) (words more : List (List ℕ)) (latest : List (Option ℕ)) (v : Variable) (number : ℕ) → IsReady old vs words latest → more ≡ with_name words v.name.now → new ≡ vs ++ v ∷ [] → number ≡ length old → number < 4000000000 → number_of more v.name.now ≡ Some v.word → v.hidden ≡ get_or latest v.word v.hidden → IsScope new more (slice_set latest v.word (Some number))
pushed_after old vs new words more latest v number ready e f g few word hidden =
    let scope : IsScope vs more latest = rw e (worded vs words latest v.name.now ready.scope ready.space) in
    let within : v.word < length more = word_within more v.name.now v.word word in
    let room : length more ≤ length latest = scope.room in
    let same : number ≡ length vs = g ∙ ap length (sym ready.same) in
    let below : length vs < 4000000000 = omega (arith, few, same) in
    rw (f, same) (pushed vs more latest v scope below word (at_read latest v.word v.hidden (omega (arith, within, room)) hidden))
