-- What trees say as expressions, by their first items.
use Rattle.std.proofs.Common.{◌≡◌, ℕ, suc, ◌+◌, ◌-◌, ◌<◌, ◌≤◌, List, [], ◌∷◌, ◌++◌, Option, Some, None, length, get_or, drop, take, refl, ap, sym, ◌∙◌, append_assoc, arith}
use Rattle.std.proofs.lemmas.List.{append-nil}
use Rattle.stp_text.specs.declared.sexpr.Sexpr.{Sexpr}
use Rattle.stp_text.specs.Tree.{Tree, Trees, Word, Node, NoMore, More, view, views}
use Rattle.stp_refusal.specs.declared.offence.Offence.{Offence}
use Rattle.stp_refusal.specs.First.{first_from}
use Rattle.stp_refusal.specs.Read.{Read, IsRead, fine, pair_read}
use Rattle.stp_refusal.proofs.Reading.{first_from-append}
use Rattle.stp_text.proofs.Items.{views_head, views_none, views_one, views_two, views_more, views_end}
use Rattle.stp_schema.specs.Known.{Known}
use Rattle.stp_schema.specs.Expression.{Expression}
use Rattle.stp_condition.specs.Scope.{Var}
use Rattle.stp_condition.specs.Keys.{key_of}
use Rattle.stp_condition.specs.declared.key.Key.{Key}
use Rattle.stp_condition.specs.declared.key.Key.TheVariants as keys
use Rattle.stp_condition.specs.declared.key.Operator.{Operator}
use Rattle.stp_body.specs.declared.join.Join.TheVariants as joins
use Rattle.stp_body.specs.declared.join.Join.{Join}
use Rattle.stp_body.specs.Expressions.{expression_read, each_read, number_read, wrong, by_key, from_left, joined, chained, paired, subtracted}

pub says_word : (k : Known) (scope : List Var) (at : ℕ) (text : List ℕ) → expression_read k scope (Word at text) ≡ number_read at text
unfolding expression_read
says_word k scope at text = refl

pub says_none : (k : Known) (scope : List Var) (at : ℕ) → expression_read k scope (Node at NoMore) ≡ wrong at
unfolding expression_read
says_none k scope at = refl

pub says_listed : (k : Known) (scope : List Var) (at place : ℕ) (items ts : Trees) → expression_read k scope (Node at (More (Node place items) ts)) ≡ wrong at
unfolding expression_read
says_listed k scope at place items ts = refl

pub says_list : (k : Known) (scope : List Var) (at place : ℕ) (text : List ℕ) (ts : Trees) → expression_read k scope (Node at (More (Word place text) ts)) ≡ by_key (key_of text) k scope at text ts (each_read k scope ts)
unfolding expression_read each_read
says_list k scope at place text ts = refl

pub each_more : (k : Known) (scope : List Var) (t : Tree) (ts : Trees) → each_read k scope (More t ts) ≡ expression_read k scope t ∷ each_read k scope ts
unfolding each_read
each_more k scope t ts = refl

pub each_end : (k : Known) (scope : List Var) → each_read k scope NoMore ≡ []
unfolding each_read
each_end k scope = refl

-- the items of a slice from one on
pub each_at : (k : Known) (scope : List Var) (ts : List Sexpr) (i : ℕ) (t : Sexpr) → i < length ts → get_or ts i t ≡ t → each_read k scope (views (drop i ts)) ≡ expression_read k scope (view t) ∷ each_read k scope (views (drop (i + 1) ts))
each_at k scope ts i t below is = ap (each_read k scope) (views_more ts i t below is) ∙ each_more k scope (view t) (views (drop (i + 1) ts))

pub each_past : (k : Known) (scope : List Var) (ts : List Sexpr) (i : ℕ) → length ts ≤ i → each_read k scope (views (drop i ts)) ≡ []
each_past k scope ts i above = ap (each_read k scope) (views_end ts i above) ∙ each_end k scope

pub each_head : (k : Known) (scope : List Var) (ts : List Sexpr) (t : Sexpr) → 1 ≤ length ts → t ≡ get_or ts 0 t → each_read k scope (views ts) ≡ expression_read k scope (view t) ∷ each_read k scope (views (take (length ts - 1) (drop 1 ts)))
each_head k scope ts t some is = ap (each_read k scope) (views_head ts t some is) ∙ each_more k scope (view t) _

pub each_none : (k : Known) (scope : List Var) (ts : List Sexpr) → length ts < 1 → each_read k scope (views ts) ≡ []
each_none k scope ts none = ap (each_read k scope) (views_none ts none) ∙ each_end k scope

pub each_one : (k : Known) (scope : List Var) (ts : List Sexpr) (t : Sexpr) → length ts ≡ 1 → t ≡ get_or ts 0 t → each_read k scope (views ts) ≡ expression_read k scope (view t) ∷ []
each_one k scope ts t one is = ap (each_read k scope) (views_one ts t one is) ∙ each_more k scope (view t) NoMore ∙ ap (λ es. expression_read k scope (view t) ∷ es) (each_end k scope)

pub each_two : (k : Known) (scope : List Var) (ts : List Sexpr) (t u : Sexpr) → length ts ≡ 2 → t ≡ get_or ts 0 t → u ≡ get_or ts 1 u → each_read k scope (views ts) ≡ expression_read k scope (view t) ∷ expression_read k scope (view u) ∷ []
each_two k scope ts t u two is too =
    ap (each_read k scope) (views_two ts t u two is too) ∙ each_more k scope (view t) (More (view u) NoMore)
    ∙ ap (λ es. expression_read k scope (view t) ∷ es) (each_more k scope (view u) NoMore)
    ∙ ap (λ es. expression_read k scope (view t) ∷ expression_read k scope (view u) ∷ es) (each_end k scope)

-- as many as there are items
each_length : (k : Known) (scope : List Var) (ts : List Sexpr) → length (each_read k scope (views ts)) ≡ length ts
each_length k scope [] = ap length (each_end k scope)
each_length k scope (t ∷ ts) = ap length (each_more k scope (view t) (views ts)) ∙ ap suc (each_length k scope ts)

not_two : (join : Join) (at : ℕ) (es : List (Read Expression)) → (length es ≡ 2 → ⊥) → paired join at es ≡ wrong at
not_two join at [] h = refl
not_two join at (e ∷ []) h = refl
not_two join at (e ∷ f ∷ []) h = absurd (h refl)
not_two join at (e ∷ f ∷ g ∷ es) h = refl

pub paired_wrong : (k : Known) (scope : List Var) (join : Join) (at : ℕ) (ts : List Sexpr) → (length ts ≡ 2 → ⊥) → paired join at (each_read k scope (views ts)) ≡ wrong at
paired_wrong k scope join at ts h = not_two join at (each_read k scope (views ts)) (λ e. h (sym (each_length k scope ts) ∙ e))

not_one : (at : ℕ) (es : List (Read Expression)) → (length es ≡ 1 → ⊥) → subtracted at es ≡ paired joins.Difference at es
not_one at [] h = refl
not_one at (e ∷ []) h = absurd (h refl)
not_one at (e ∷ f ∷ es) h = refl

pub subtracted_many : (k : Known) (scope : List Var) (at : ℕ) (ts : List Sexpr) → (length ts ≡ 1 → ⊥) → subtracted at (each_read k scope (views ts)) ≡ paired joins.Difference at (each_read k scope (views ts))
subtracted_many k scope at ts h = not_one at (each_read k scope (views ts)) (λ e. h (sym (each_length k scope ts) ∙ e))

chained_many : (join : Join) (at : ℕ) (e : Read Expression) (es : List (Read Expression)) → 0 < length es → chained join at (e ∷ es) ≡ from_left join e es
chained_many join at e [] h = absurd (omega (arith, h))
chained_many join at e (f ∷ es) h = refl

pub chained_more : (k : Known) (scope : List Var) (join : Join) (at : ℕ) (e : Read Expression) (ts : List Sexpr) → 0 < length ts → chained join at (e ∷ each_read k scope (views ts)) ≡ from_left join e (each_read k scope (views ts))
chained_more k scope join at e ts h = chained_many join at e (each_read k scope (views ts)) (let l = each_length k scope ts in omega (arith, h, l))

-- any key but those of operators and functions
pub other_keys : (key : Key) (k : Known) (scope : List Var) (at : ℕ) (name : List ℕ) (ts : Trees) (es : List (Read Expression)) → ((o : Operator) → key ≡ keys.Arithmetic o → ⊥) → (key ≡ keys.Symbol → ⊥) → by_key key k scope at name ts es ≡ wrong at
other_keys keys.Symbol k scope at name ts es n m = absurd (m refl)
other_keys (keys.Arithmetic o) k scope at name ts es n m = absurd (n o refl)
other_keys keys.Equal k scope at name ts es n m = refl
other_keys keys.Not k scope at name ts es n m = refl
other_keys keys.And k scope at name ts es n m = refl
other_keys keys.Or k scope at name ts es n m = refl
other_keys keys.Imply k scope at name ts es n m = refl
other_keys keys.Forall k scope at name ts es n m = refl
other_keys keys.Exists k scope at name ts es n m = refl
other_keys keys.Comparison k scope at name ts es n m = refl
other_keys keys.Preference k scope at name ts es n m = refl
other_keys keys.When k scope at name ts es n m = refl
other_keys keys.Change k scope at name ts es n m = refl

-- ---- expressions that are joined from left to right

-- what is joined already stands apart from the rest
parts_from_left : (join : Join) (r : Read Expression) (es : List (Read Expression)) → from_left join r es ≡ record { offences = r.offences ++ (from_left join (fine r.value) es).offences; value = (from_left join (fine r.value) es).value }
parts_from_left join r [] = ap (λ (os : List Offence). let p : Read Expression = record { offences = os; value = r.value } in p) (sym (append-nil r.offences))
parts_from_left join r (e ∷ es) =
    parts_from_left join (pair_read (joined join) r e) es
    ∙ ap (λ (os : List Offence). let p : Read Expression = record { offences = os; value = (from_left join (fine (joined join r.value e.value)) es).value } in p)
    (append_assoc r.offences e.offences (from_left join (fine (joined join r.value e.value)) es).offences
    ∙ ap (λ (s : Read Expression). r.offences ++ s.offences) (sym (parts_from_left join (pair_read (joined join) (fine r.value) e) es)))
    ∙ ap (λ (s : Read Expression). let p : Read Expression = record { offences = r.offences ++ (from_left join (pair_read (joined join) (fine r.value) e) es).offences; value = s.value } in p) (sym (parts_from_left join (pair_read (joined join) (fine r.value) e) es))

-- a reader that has joined so much, and goes on
pub record Joining (old found : Option Offence) (rest whole : Read Expression) : Type 0 where
  pub first : first_from found rest.offences ≡ first_from old whole.offences
  pub same : rest.value ≡ whole.value

pub joining_next : (join : Join) (old found new : Option Offence) (v w x : Expression) (e : Read Expression) (es : List (Read Expression)) (whole : Read Expression) →
    Joining old found (from_left join (fine v) (e ∷ es)) whole → IsRead found new w e → x ≡ joined join v w → Joining old new (from_left join (fine x) es) whole
joining_next join old found new v w x e es whole so_far step is =
    let parts = parts_from_left join (pair_read (joined join) (fine v) e) es in
    let same : x ≡ joined join v e.value = is ∙ ap (joined join v) step.same in
    record {
      first =
          ap (λ y. first_from new (from_left join (fine y) es).offences) same
          ∙ ap (λ f. first_from f (from_left join (fine (joined join v e.value)) es).offences) step.first
          ∙ sym (first_from-append found e.offences (from_left join (fine (joined join v e.value)) es).offences)
          ∙ ap (λ (s : Read Expression). first_from found s.offences) (sym parts)
          ∙ so_far.first;
      same = ap (λ y. (from_left join (fine y) es).value) same ∙ ap (λ (s : Read Expression). s.value) (sym parts) ∙ so_far.same;
    }

pub joining_done : (join : Join) (old found : Option Offence) (v : Expression) (whole : Read Expression) → Joining old found (from_left join (fine v) []) whole → IsRead old found v whole
joining_done join old found v whole so_far = record { first = so_far.first; same = so_far.same }

-- before the first is joined to anything
pub joining_first : (join : Join) (old found : Option Offence) (v : Expression) (e : Read Expression) (es : List (Read Expression)) → IsRead old found v e → Joining old found (from_left join (fine v) es) (from_left join e es)
joining_first join old found v e es h =
    let parts = parts_from_left join e es in
    record {
      first =
          ap (λ y. first_from found (from_left join (fine y) es).offences) h.same
          ∙ ap (λ f. first_from f (from_left join (fine e.value) es).offences) h.first
          ∙ sym (first_from-append old e.offences (from_left join (fine e.value) es).offences)
          ∙ ap (λ (s : Read Expression). first_from old s.offences) (sym parts);
      same = ap (λ y. (from_left join (fine y) es).value) h.same ∙ ap (λ (s : Read Expression). s.value) (sym parts);
    }
