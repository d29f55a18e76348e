-- The trees of a slice.
use Rattle.std.proofs.Common.{◌≡◌, ℕ, ◌+◌, ◌-◌, ◌<◌, ◌≤◌, List, [], ◌∷◌, Option, Some, None, length, map, drop, take, get_or, refl, ap, sym, ◌∙◌, arith, Bor}
use Rattle.std.proofs.lemmas.List.{drop_all, drop_more, take_rest}
use Rattle.stp_text.specs.declared.sexpr.Sexpr.{Sexpr}
use Rattle.stp_text.specs.declared.sexpr.Sexpr.TheVariants.{Items, Word as SexprWord}
use Rattle.stp_text.specs.Tree.{Tree, Trees, Word, Node, NoMore, More, view, views, trees_of}
use Rattle.stp_text.proofs.Equations.{view_word, view_items}
use Rattle.stp_text.specs.Items.{count, list_of, one_of, two_of}

pub count_views : (ts : List Sexpr) → count (views ts) ≡ length ts
count_views [] = refl
count_views (t ∷ ts) = let h = count_views ts in omega (arith, h)

pub list_of_views : (ts : List Sexpr) → list_of (views ts) ≡ map view ts
list_of_views [] = refl
list_of_views (t ∷ ts) = ap (λ r. view t ∷ r) (list_of_views ts)

pub views_none : (ts : List Sexpr) → length ts < 1 → views ts ≡ NoMore
views_none [] h = refl
views_none (t ∷ ts) h = absurd (omega (arith, h))

pub views_head : (ts : List Sexpr) (t : Sexpr) → 1 ≤ length ts → t ≡ get_or ts 0 t → views ts ≡ More (view t) (views (take (length ts - 1) (drop 1 ts)))
views_head [] t h e = absurd (omega (arith, h))
views_head (u ∷ ts) t h e = ap (λ x. More (view x) (views ts)) (sym e) ∙ ap (λ r. More (view t) (views r)) (sym (take_rest (u ∷ ts) 1))

pub views_one : (ts : List Sexpr) (a : Sexpr) → length ts ≡ 1 → a ≡ get_or ts 0 a → views ts ≡ More (view a) NoMore
views_one [] a h e = absurd (omega (arith, h))
views_one (t ∷ []) a h e = ap (λ x. More (view x) NoMore) (sym e)
views_one (t ∷ u ∷ ts) a h e = absurd (omega (arith, h))

pub views_two : (ts : List Sexpr) (a b : Sexpr) → length ts ≡ 2 → a ≡ get_or ts 0 a → b ≡ get_or ts 1 b → views ts ≡ More (view a) (More (view b) NoMore)
views_two [] a b h e f = absurd (omega (arith, h))
views_two (t ∷ []) a b h e f = absurd (omega (arith, h))
views_two (t ∷ u ∷ []) a b h e f = rw (sym e, sym f) refl
views_two (t ∷ u ∷ v ∷ ts) a b h e f = absurd (omega (arith, h))

pub no_one : (ts : List Sexpr) → (length ts ≡ 1 → ⊥) → one_of (list_of (views ts)) ≡ None
no_one [] h = refl
no_one (t ∷ []) h = absurd (h refl)
no_one (t ∷ u ∷ ts) h = refl

pub no_two : (ts : List Sexpr) → (length ts ≡ 2 → ⊥) → two_of (list_of (views ts)) ≡ None
no_two [] h = refl
no_two (t ∷ []) h = refl
no_two (t ∷ u ∷ []) h = absurd (h refl)
no_two (t ∷ u ∷ v ∷ ts) h = refl

-- the trees of a slice from one on
pub views_more : (ts : List Sexpr) (i : ℕ) (t : Sexpr) → i < length ts → get_or ts i t ≡ t → views (drop i ts) ≡ More (view t) (views (drop (i + 1) ts))
views_more ts i t below is = ap views (drop_more ts i t below) ∙ ap (λ x. More (view x) (views (drop (i + 1) ts))) is

pub views_end : (ts : List Sexpr) (i : ℕ) → length ts ≤ i → views (drop i ts) ≡ NoMore
views_end ts i above = ap views (drop_all i ts above)

-- ---- a tree by its first item

-- the items behind the first
abbrev pub behind : List Sexpr → List Sexpr
behind ts = take (length ts - 1) (drop 1 ts)

pub view_empty : (tree : Sexpr) (at : ℕ) (items : Bor (List Sexpr)) → tree ≡ Items at items → length items.now < 1 → view tree ≡ Node at NoMore
view_empty tree at items e h = ap view e ∙ view_items at items ∙ ap (Node at) (views_none items.now h)

pub view_listed : (tree : Sexpr) (at : ℕ) (items : Bor (List Sexpr)) (head : Sexpr) (place : ℕ) (inner : Bor (List Sexpr)) → tree ≡ Items at items → 1 ≤ length items.now → head ≡ get_or items.now 0 head → head ≡ Items place inner
    → view tree ≡ Node at (More (Node place (views inner.now)) (views (behind items.now)))
view_listed tree at items head place inner e h first is =
    ap view e ∙ view_items at items ∙ ap (Node at) (views_head items.now head h first ∙ ap (λ t. More t (views (behind items.now))) (ap view is ∙ view_items place inner))

pub view_headed : (tree : Sexpr) (at : ℕ) (items : Bor (List Sexpr)) (head : Sexpr) (place : ℕ) (text : Bor (List ℕ)) → tree ≡ Items at items → 1 ≤ length items.now → head ≡ get_or items.now 0 head → head ≡ SexprWord place text
    → view tree ≡ Node at (More (Word place text.now) (views (behind items.now)))
view_headed tree at items head place text e h first is =
    ap view e ∙ view_items at items ∙ ap (Node at) (views_head items.now head h first ∙ ap (λ t. More t (views (behind items.now))) (ap view is ∙ view_word place text))
