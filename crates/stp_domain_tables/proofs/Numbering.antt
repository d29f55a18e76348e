-- Numbers of types, parents, and types that are ancestors of themselves.
use Rattle.std.proofs.Common.{◌≡◌, ◌≢◌, ℕ, zero, suc, ◌<◌, Bool, true, false, if◌then◌else◌, List, [], ◌∷◌, ◌++◌, codes, length, length-append, lit<, set, Option, Some, None, inl, inr, ◌⊎◌, refl, ap, sym, ◌∙◌, arith, length-set, get_or-set_same, get_or-set_other}
use Rattle.stp_refusal.specs.declared.code.Code.TheVariants.{D14}
use Rattle.stp_refusal.specs.declared.offence.Offence.{Offence}
use Rattle.stp_refusal.specs.Read.{unless}
use Rattle.std.specs.Prelude.{not, ◌==◌, ◌||◌, replicate, unwrap_or, bytes_eq}
use Rattle.std.proofs.lemmas.Bool.{cases_eq}
use Rattle.std.proofs.lemmas.Bool.Decides.{eqb_tells}
use Rattle.std.proofs.lemmas.List.{length-replicate}
use Rattle.std.proofs.lemmas.List.Quantifiers.{position-Some}
use Rattle.std.specs.List.{list_any}
use Rattle.stp_text.specs.Tree.{Tree, Trees, Word, Node, NoMore, More}
use Rattle.stp_tables.specs.Names.{number_of, with_name}
use Rattle.stp_domain_parts.specs.Entries.{Plain, is_dash}
use Rattle.stp_domain_parts.specs.Judged.{kind_number, tree_number}
use Rattle.stp_types.specs.Forest.{IsTable, IsForest, IsOwnAncestor, parent_of, above, is_own_ancestor}
use Rattle.stp_types.proofs.Above.{above_root}
use Rattle.stp_types.proofs.Deciding.{test_from_own, own_from_test}
use Rattle.stp_domain_tables.specs.Types.{with_type, with_types, types_in, type_number, with_parent, with_parents, parents_in, loop_wrong, loops_wrong, has_loop_below, has_loop, forest_of}

-- ---- numbers are below the number of types

number_below : (types : List (List ℕ)) (name : List ℕ) (o : Option ℕ) → 0 < length types → number_of types name ≡ o → unwrap_or o 0 < length types
number_below types name None some e = some
number_below types name (Some n) some e = (position-Some (bytes_eq name) types n [] e).0

pub type_number_below : (types : List (List ℕ)) (name : List ℕ) → 0 < length types → type_number types name < length types
type_number_below types name some = number_below types name (number_of types name) some refl

tree_number_below : (types : List (List ℕ)) (t : Option Tree) → 0 < length types → tree_number types t < length types
tree_number_below types None some = some
tree_number_below types (Some (Word at text)) some = type_number_below types text some
tree_number_below types (Some (Node at items)) some = some

pub kind_number_below : (types : List (List ℕ)) (e : Plain) → 0 < length types → kind_number types e < length types
kind_number_below types e some = tree_number_below types e.kind some

-- ---- parents

-- as many as there are types
record IsRight (types : List (List ℕ)) (parents : List ℕ) : Type 0 where
  len : length parents ≡ length types
  root : parent_of parents 0 ≡ 0
  within : (k : ℕ) → k < length parents → parent_of parents k < length types

put_parent : (types : List (List ℕ)) (parents : List ℕ) (n m : ℕ) → IsRight types parents → n ≢ 0 → n < length types → m < length types → IsRight types (set parents n m)
put_parent types parents n m r child below kind =
    let h : n < length parents = let l = r.len in omega arith in
    record {
      len = length-set parents n m ∙ r.len;
      root = get_or-set_other parents n 0 m 0 (λ e. child (sym e)) ∙ r.root;
      within = λ k there. elim (cases_eq k n) [
        | inl e ↦ let f : parent_of (set parents n m) k ≡ m = ap (parent_of (set parents n m)) e ∙ get_or-set_same parents n m 0 h in omega arith
        | inr d ↦
            let f : parent_of (set parents n m) k ≡ parent_of parents k = get_or-set_other parents n k m 0 d in
            let l = length-set parents n m in
            let w = r.within k (omega (arith, l, there)) in
            omega arith
      ];
    }

kept_parent : (types : List (List ℕ)) (parents : List ℕ) (e : Plain) (b : Bool) → (type_number types e.name == 0) ≡ b → 0 < length types → IsRight types parents → IsRight types (if b then parents else set parents (type_number types e.name) (kind_number types e))
kept_parent types parents e true test some r = r
kept_parent types parents e false test some r =
    let child : type_number types e.name ≢ 0 = elim (eqb_tells (type_number types e.name) 0) [ inl w ↦ λ z. (let f = sym w.0 ∙ test in absurd (cc)) | inr w ↦ w.1 ] in
    put_parent types parents (type_number types e.name) (kind_number types e) r child (type_number_below types e.name some) (kind_number_below types e some)

with_parents_right : (types : List (List ℕ)) (parents : List ℕ) (es : List Plain) → 0 < length types → IsRight types parents → IsRight types (with_parents types parents es)
with_parents_right types parents [] some r = r
with_parents_right types parents (e ∷ es) some r = with_parents_right types (with_parent types parents e) es some (kept_parent types parents e (type_number types e.name == 0) refl some r)

at_zeros : (n k : ℕ) → parent_of (replicate n 0) k ≡ 0
at_zeros zero k = refl
at_zeros (suc n) zero = refl
at_zeros (suc n) (suc k) = at_zeros n k

parents_right : (types : List (List ℕ)) (es : List Plain) → 0 < length types → IsRight types (parents_in types es)
parents_right types es some = with_parents_right types (replicate (length types) 0) es some (record {
  len = length-replicate (length types) 0;
  root = at_zeros (length types) 0;
  within = λ k there. let e = at_zeros (length types) k in omega arith;
})

pub parents_table : (types : List (List ℕ)) (es : List Plain) → 0 < length types → IsTable (parents_in types es)
parents_table types es some =
    let r = parents_right types es some in
    let l = r.len in
    record { some = omega arith; root = r.root; within = λ k there. let w = r.within k there in omega arith }

-- ---- the forest

loop_or : (b c : Bool) → c ≡ true → (b || c) ≡ true
loop_or true c e = refl
loop_or false c e = e

loop_first : (b c : Bool) → b ≡ true → (b || c) ≡ true
loop_first true c e = refl
loop_first false c e = absurd (cc)

pub loop_from : (p : List ℕ) (n k : ℕ) → k < n → is_own_ancestor p k ≡ true → has_loop_below p n ≡ true
loop_from p zero k h own = absurd (omega (arith, h))
loop_from p (suc n) k h own = elim (cases_eq k n) [
  | inl e ↦ loop_first (is_own_ancestor p n) (has_loop_below p n) (ap (is_own_ancestor p) (sym e) ∙ own)
  | inr d ↦ loop_or (is_own_ancestor p n) (has_loop_below p n) (loop_from p n k (omega arith) own)
]

no_loop_or : (b c : Bool) → b ≡ false → c ≡ false → (b || c) ≡ false
no_loop_or true c e f = absurd (cc)
no_loop_or false c e f = f

pub no_loop : (p : List ℕ) (n : ℕ) → ((k : ℕ) → k < n → is_own_ancestor p k ≡ false) → has_loop_below p n ≡ false
no_loop p zero h = refl
no_loop p (suc n) h = no_loop_or (is_own_ancestor p n) (has_loop_below p n) (h n (omega arith)) (no_loop p n (λ k below. h k (omega arith)))

zeros_above : (n m : ℕ) → above (replicate n 0) m 0 ≡ 0
zeros_above n zero = refl
zeros_above n (suc m) = ap (above (replicate n 0) m) (at_zeros n 0) ∙ zeros_above n m

pub zeros_forest : (n : ℕ) → IsForest (replicate n 0)
zeros_forest n k there own = own.0 (sym own.1.1 ∙ ap (above (replicate n 0) own.1.0) (at_zeros n k) ∙ zeros_above n own.1.0)

not_true : (b : Bool) → b ≡ true → b ≡ false → ⊥
not_true true e f = cc
not_true false e f = cc

-- ---- an entry more

pub parent_length : (types : List (List ℕ)) (parents : List ℕ) (e : Plain) → length (with_parent types parents e) ≡ length parents
parent_length types parents e = one_length (type_number types e.name == 0)
  where
    one_length : (b : Bool) → length (if b then parents else set parents (type_number types e.name) (kind_number types e)) ≡ length parents
    one_length true = refl
    one_length false = length-set parents (type_number types e.name) (kind_number types e)

-- ---- there are types

named_some : (b : Bool) (names : List (List ℕ)) (name : List ℕ) → 0 < length names → 0 < length (if b then names else names ++ name ∷ [])
named_some true names name some = some
named_some false names name some = let l = length-append names (name ∷ []) in omega arith

type_some : (seen : List (List ℕ)) (t : Tree) → 0 < length seen → 0 < length (with_type seen t)
type_some seen (Word at text) some = word_some (is_dash text)
  where
    word_some : (b : Bool) → 0 < length (if b then seen else with_name seen text)
    word_some true = some
    word_some false = named_some (list_any (bytes_eq text) seen) seen text some
type_some seen (Node at items) some = some

with_types_some : (seen : List (List ℕ)) (ts : Trees) → 0 < length seen → 0 < length (with_types seen ts)
with_types_some seen NoMore some = some
with_types_some seen (More t ts) some = with_types_some (with_type seen t) ts (type_some seen t some)

pub types_some : (ts : Trees) → 0 < length (types_in ts)
types_some ts = with_types_some (codes "object" ∷ []) ts (lit< tt)

pub no_loops_forest : (p : List ℕ) → has_loop p ≡ false → IsTable p → IsForest p
no_loops_forest p e t = λ k there own. not_true (has_loop p) (loop_from p (length p) k there (test_from_own p k t there own)) e

-- ---- parents that lead back are those of entries

-- one of these entries declares the type
abbrev HasEntry : List (List ℕ) → ℕ → List Plain → Type 0
HasEntry types k [] = ⊥
HasEntry types k (e ∷ es) = (type_number types e.name ≡ k) ⊎ HasEntry types k es

other_parent : (types : List (List ℕ)) (parents : List ℕ) (e : Plain) (k : ℕ) (b : Bool) → k ≢ type_number types e.name → parent_of (if b then parents else set parents (type_number types e.name) (kind_number types e)) k ≡ parent_of parents k
other_parent types parents e k true d = refl
other_parent types parents e k false d = get_or-set_other parents (type_number types e.name) k (kind_number types e) 0 d

entry_of : (types : List (List ℕ)) (parents : List ℕ) (es : List Plain) (k : ℕ) → parent_of (with_parents types parents es) k ≢ 0 → (parent_of parents k ≢ 0) ⊎ HasEntry types k es
entry_of types parents [] k h = inl h
entry_of types parents (e ∷ es) k h = elim (entry_of types (with_parent types parents e) es k h) [
  | inr w ↦ inr (inr w)
  | inl d ↦ elim (cases_eq k (type_number types e.name)) [
    | inl same ↦ inr (inl (sym same))
    | inr other ↦ inl (λ z. d (other_parent types parents e k (type_number types e.name == 0) other ∙ z))
  ]
]

nothing_before : {A : Type 0} (xs ys : List A) → xs ++ ys ≡ [] → (xs ≡ []) × (ys ≡ [])
nothing_before [] ys e = (refl, e)
nothing_before (x ∷ xs) ys e = absurd (cc)

not_wrong : (b : Bool) (os : List Offence) (o : Offence) → unless (not b) (o ∷ os) ≡ [] → b ≡ false
not_wrong true os o e = absurd (cc)
not_wrong false os o e = refl

no_loop_at : (types : List (List ℕ)) (parents : List ℕ) (es : List Plain) (k : ℕ) → loops_wrong types parents es ≡ [] → HasEntry types k es → is_own_ancestor parents k ≡ false
no_loop_at types parents [] k none h = absurd h
no_loop_at types parents (e ∷ es) k none h =
    let parts = nothing_before (loop_wrong types parents e) (loops_wrong types parents es) none in
    elim h [
      | inl same ↦ ap (is_own_ancestor parents) (sym same) ∙ not_wrong (is_own_ancestor parents (type_number types e.name)) [] (record { at = e.at; code = D14 }) parts.0
      | inr w ↦ no_loop_at types parents es k parts.1 w
    ]

-- a type below the root is no ancestor of itself
zero_parent : (p : List ℕ) (k : ℕ) → IsTable p → IsOwnAncestor p k → parent_of p k ≢ 0
zero_parent p k t own z = own.0 (sym own.1.1 ∙ ap (above p own.1.0) z ∙ above_root p t own.1.0)

not_own : (types : List (List ℕ)) (es : List Plain) (k : ℕ) (b : Bool) → 0 < length types → loops_wrong types (parents_in types es) es ≡ [] → is_own_ancestor (parents_in types es) k ≡ b → b ≡ false
not_own types es k false some none test = refl
not_own types es k true some none test =
    let own = own_from_test (parents_in types es) k test in
    elim (entry_of types (replicate (length types) 0) es k (zero_parent (parents_in types es) k (parents_table types es some) own)) [
      | inl d ↦ absurd (d (at_zeros (length types) k))
      | inr w ↦ absurd (not_true (is_own_ancestor (parents_in types es) k) test (no_loop_at types (parents_in types es) es k none w))
    ]

same_forest : (p : List ℕ) (b : Bool) → b ≡ false → (if b then replicate (length p) 0 else p) ≡ p
same_forest p true e = absurd (cc)
same_forest p false e = refl

pub parents_kept : (types : List (List ℕ)) (es : List Plain) → 0 < length types → loops_wrong types (parents_in types es) es ≡ [] → forest_of (parents_in types es) ≡ parents_in types es
parents_kept types es some none =
    let p = parents_in types es in
    same_forest p (has_loop p) (no_loop p (length p) (λ k h. not_own types es k (is_own_ancestor p k) some none refl))
