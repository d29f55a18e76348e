-- What a tree says as a condition, by its first items.
use Rattle.std.proofs.Common.{◌≡◌, ℕ, false, List, [], ◌∷◌, ◌++◌, Some, None, length, take, get_or, refl, ap, sym, arith}
use Rattle.std.proofs.Math.Seq.{take-append_seam}
use Rattle.stp_text.specs.declared.sexpr.Sexpr.{Sexpr}
use Rattle.stp_text.specs.Tree.{Tree, Trees, Word, Node, NoMore, More, view, views}
use Rattle.stp_refusal.specs.declared.code.Code.TheVariants.{D16}
use Rattle.stp_refusal.specs.Read.{fine, bad}
use Rattle.stp_text.specs.Items.{one_of, two_of, list_of, has_list}
use Rattle.stp_text.proofs.Items.{views_two}
use Rattle.stp_schema.specs.Formula.{nothing}
use Rattle.stp_schema.specs.Known.{Known}
use Rattle.stp_condition.specs.Scope.{Var}
use Rattle.stp_condition.specs.Keys.{key_of}
use Rattle.stp_condition.specs.Conditions.{condition_read, items_read, by_key, Item, equality_read, same_read}

pub read_word : (k : Known) (at : ℕ) (text : List ℕ) (s : List Var) → condition_read k (Word at text) s ≡ bad at D16 nothing
unfolding condition_read
read_word k at text s = refl

pub read_empty : (k : Known) (at : ℕ) (s : List Var) → condition_read k (Node at NoMore) s ≡ fine nothing
unfolding condition_read
read_empty k at s = refl

pub read_listed : (k : Known) (at place : ℕ) (items ts : Trees) (s : List Var) → condition_read k (Node at (More (Node place items) ts)) s ≡ bad at D16 nothing
unfolding condition_read
read_listed k at place items ts s = refl

pub read_headed : (k : Known) (at place : ℕ) (text : List ℕ) (ts : Trees) (s : List Var) → condition_read k (Node at (More (Word place text) ts)) s ≡ by_key (key_of text) k at text ts (items_read k ts) s
unfolding condition_read items_read
read_headed k at place text ts s = refl

-- ---- items

abbrev pub item_of : Known → Tree → Item
item_of k t = record { tree = t; says = condition_read k t }

pub items_more : (k : Known) (t : Tree) (ts : Trees) → items_read k (More t ts) ≡ item_of k t ∷ items_read k ts
unfolding items_read
items_more k t ts = refl

pub items_end : (k : Known) → items_read k NoMore ≡ []
unfolding items_read
items_end k = refl

-- an item alone in its slice
pub one_item : (k : Known) (ts : List Sexpr) (a : Sexpr) → length ts ≡ 1 → a ≡ get_or ts 0 a → one_of (items_read k (views ts)) ≡ Some (item_of k (view a))
unfolding items_read
one_item k [] a h e = absurd (omega (arith, h))
one_item k (t ∷ []) a h e = ap (λ x. Some (item_of k (view x))) (sym e)
one_item k (t ∷ u ∷ ts) a h e = absurd (omega (arith, h))

pub no_one_item : (k : Known) (ts : List Sexpr) → (length ts ≡ 1 → ⊥) → one_of (items_read k (views ts)) ≡ None
unfolding items_read
no_one_item k [] h = refl
no_one_item k (t ∷ []) h = absurd (h refl)
no_one_item k (t ∷ u ∷ ts) h = refl

-- the two items of a slice of two
pub two_items : (k : Known) (ts : List Sexpr) (a b : Sexpr) → length ts ≡ 2 → a ≡ get_or ts 0 a → b ≡ get_or ts 1 b → two_of (items_read k (views ts)) ≡ Some (item_of k (view a), item_of k (view b))
unfolding items_read
two_items k [] a b h e f = absurd (omega (arith, h))
two_items k (t ∷ []) a b h e f = absurd (omega (arith, h))
two_items k (t ∷ u ∷ []) a b h e f = rw (sym e, sym f) refl
two_items k (t ∷ u ∷ v ∷ ts) a b h e f = absurd (omega (arith, h))

pub no_two_items : (k : Known) (ts : List Sexpr) → (length ts ≡ 2 → ⊥) → two_of (items_read k (views ts)) ≡ None
unfolding items_read
no_two_items k [] h = refl
no_two_items k (t ∷ []) h = refl
no_two_items k (t ∷ u ∷ []) h = absurd (h refl)
no_two_items k (t ∷ u ∷ v ∷ ts) h = refl

-- a scope once its innermost variables are gone
pub truncated : (scope vs inner : List Var) (mark : ℕ) → inner ≡ scope ++ vs → mark ≡ length scope → take mark inner ≡ scope
truncated scope vs inner mark e h = rw (e, h) (take-append_seam scope vs)

-- ---- equalities

pub two_words : (ts : List Sexpr) (a b : Sexpr) → length ts ≡ 2 → a ≡ get_or ts 0 a → b ≡ get_or ts 1 b → two_of (list_of (views ts)) ≡ Some (view a, view b)
two_words ts a b h e f = ap (λ v. two_of (list_of v)) (views_two ts a b h e f)

pub of_words : (k : Known) (scope : List Var) (at : ℕ) (ts : Trees) → false ≡ has_list ts → equality_read k scope at ts ≡ same_read k scope at (two_of (list_of ts))
of_words k scope at ts h = rw (sym h) refl
