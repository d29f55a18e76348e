-- What is read over objects with equal names is what is read over the first of them, with their places.
use Rattle.std.proofs.Common.{◌≡◌, ℕ, Bool, true, false, if◌then◌else◌, List, [], ◌∷◌, Option, Some, None, length, map, refl, ap, ◌∙◌}
use Rattle.std.proofs.Math.Path.{fun_ext}
use Rattle.std.specs.Prelude.{◌==◌, option_map}
use Rattle.stp_text.specs.Tree.{Tree, Trees, Word, Node, NoMore, More}
use Rattle.stp_refusal.specs.declared.offence.Offence.{Offence}
use Rattle.stp_refusal.specs.declared.code.Code.TheVariants.{D17, D18, D20, D21}
use Rattle.stp_text.specs.Items.{count, has_list, list_of, one_of, two_of}
use Rattle.stp_refusal.specs.Read.{Read, fine, bad, cons_read, map_read, pair_read, given}
use Rattle.stp_schema.specs.declared.lifted.Term.{Term}
use Rattle.stp_schema.specs.Rows.{Shape, Thing}
use Rattle.stp_schema.specs.Known.{Known}
use Rattle.stp_schema.specs.Formula.{Formula, Same, And, Or, More as MoreFormulas, formulas_of, nothing, PlainAtom}
use Rattle.stp_condition.specs.declared.key.Key.{Key}
use Rattle.stp_condition.specs.declared.key.Key.TheVariants as keys
use Rattle.stp_condition.specs.Keys.{key_of}
use Rattle.stp_condition.specs.Scope.{Var, variable_in}
use Rattle.stp_condition.specs.Terms.{object_in, variable_or, find_term, fits, found_term, term_read, terms_read}
use Rattle.stp_condition.specs.Atoms.{shape_in, atom_with, no_atom, applied_read}
use Rattle.stp_condition.specs.Conditions.{Part, Item, same_read, equality_read, all_read, holds, each_of, either_of, not_read, imply_read, quantified_read, by_key, by_head, condition_read, items_read}
use Rattle.stp_domain.specs.Placed.{placed_term, placed, all_placed}
use Rattle.stp_domain.specs.Firsts.{firsts_in}
use Rattle.stp_domain.proofs.Found.{placed_found, AreFirsts, firsts_found}

-- what is known where these are the objects
abbrev pub among : Known → List Thing → Known
among k things = record k { objects = things }

placed_each : (places : List ℕ) (fs : List Formula) → formulas_of (map (placed places) fs) ≡ all_placed places (formulas_of fs)
placed_each places [] = refl
placed_each places (f ∷ fs) = ap (MoreFormulas (placed places f)) (placed_each places fs)

abbrev with_offences : {A : Type 0} → List Offence → A → Read A
with_offences offences value = record { offences = offences; value = value }

abbrev part_placed : List ℕ → Part → Part
part_placed places says = λ scope. map_read (placed places) (says scope)

abbrev with_item : Tree → Part → Item
with_item tree says = record { tree = tree; says = says }

abbrev item_placed : List ℕ → Item → Item
item_placed places i = with_item i.tree (part_placed places i.says)

abbrev atom_placed : List ℕ → PlainAtom → PlainAtom
atom_placed places a = atom_with a.symbol (map (placed_term places) a.terms)

module _ (k : Known) (things firsts : List Thing) (places : List ℕ) (same : AreFirsts things firsts places) where
  -- ---- terms

  or_placed : (name : List ℕ) (v : Option (ℕ × ℕ)) → variable_or v (object_in things name) ≡ option_map (placed_found places) (variable_or v (object_in firsts name))
  or_placed name None = same name
  or_placed name (Some v) = refl

  found_placed : (place : Option ℕ) (at : ℕ) (o : Option (Term × ℕ)) → found_term k.parents place at (option_map (placed_found places) o) ≡ map_read (placed_term places) (found_term k.parents place at o)
  found_placed place at None = refl
  found_placed place at (Some t) = fit_placed (fits k.parents place t.1)
    where
      fit_placed : (b : Bool) → (let r : Read Term = if b then fine (placed_term places t.0) else bad at D20 (placed_term places t.0) in r) ≡ map_read (placed_term places) (if b then fine t.0 else bad at D20 t.0)
      fit_placed true = refl
      fit_placed false = refl

  term_placed : (scope : List Var) (place : Option ℕ) (tree : Tree) → term_read (among k things) scope place tree ≡ map_read (placed_term places) (term_read (among k firsts) scope place tree)
  term_placed scope place (Word at text) = ap (found_term k.parents place at) (or_placed text (variable_in text scope)) ∙ found_placed place at (find_term firsts scope text)
  term_placed scope place (Node at items) = refl

  terms_placed : (scope : List Var) (ps : List ℕ) (ts : Trees) → terms_read (among k things) scope ps ts ≡ map_read (map (placed_term places)) (terms_read (among k firsts) scope ps ts)
  terms_placed scope [] ts = refl
  terms_placed scope (p ∷ ps) NoMore = refl
  terms_placed scope (p ∷ ps) (More t ts) =
      ap (λ r. cons_read r (terms_read (among k things) scope ps ts)) (term_placed scope (Some p) t)
      ∙ ap (cons_read (map_read (placed_term places) (term_read (among k firsts) scope (Some p) t))) (terms_placed scope ps ts)

  -- ---- atoms and equalities

  applied_placed : (scope : List Var) (at : ℕ) (ts : Trees) (s : ℕ × Shape) → applied_read (among k things) scope at ts s ≡ map_read (atom_placed places) (applied_read (among k firsts) scope at ts s)
  applied_placed scope at ts s = counted (count ts == length s.1.parameters)
    where
      counted : (b : Bool) → (if b then map_read (atom_with s.0) (terms_read (among k things) scope s.1.parameters ts) else bad at D18 no_atom) ≡ map_read (atom_placed places) (if b then map_read (atom_with s.0) (terms_read (among k firsts) scope s.1.parameters ts) else bad at D18 no_atom)
      counted true = ap (map_read (atom_with s.0)) (terms_placed scope s.1.parameters ts)
      counted false = refl

  symbol_placed : (scope : List Var) (at : ℕ) (ts : Trees) (s : Option (ℕ × Shape)) → given (bad at D17 no_atom) (applied_read (among k things) scope at ts) s ≡ map_read (atom_placed places) (given (bad at D17 no_atom) (applied_read (among k firsts) scope at ts) s)
  symbol_placed scope at ts None = refl
  symbol_placed scope at ts (Some s) = applied_placed scope at ts s

  same_placed : (scope : List Var) (at : ℕ) (two : Option (Tree × Tree)) → same_read (among k things) scope at two ≡ map_read (placed places) (same_read (among k firsts) scope at two)
  same_placed scope at None = refl
  same_placed scope at (Some p) =
      ap (λ r. pair_read Same r (term_read (among k things) scope None p.1)) (term_placed scope None p.0)
      ∙ ap (pair_read Same (map_read (placed_term places) (term_read (among k firsts) scope None p.0))) (term_placed scope None p.1)

  equality_placed : (scope : List Var) (at : ℕ) (ts : Trees) → equality_read (among k things) scope at ts ≡ map_read (placed places) (equality_read (among k firsts) scope at ts)
  equality_placed scope at ts = listed (has_list ts)
    where
      listed : (b : Bool) → (if b then bad at D21 nothing else same_read (among k things) scope at (two_of (list_of ts))) ≡ map_read (placed places) (if b then bad at D21 nothing else same_read (among k firsts) scope at (two_of (list_of ts)))
      listed true = refl
      listed false = same_placed scope at (two_of (list_of ts))

  -- ---- conditions by their kinds

  members_placed : (is : List Item) (scope : List Var) → all_read (map (item_placed places) is) scope ≡ map_read (map (placed places)) (all_read is scope)
  members_placed [] scope = refl
  members_placed (i ∷ is) scope = ap (cons_read (map_read (placed places) (i.says scope))) (members_placed is scope)

  each_placed : (is : List Item) (scope : List Var) → map_read each_of (all_read (map (item_placed places) is) scope) ≡ map_read (placed places) (map_read each_of (all_read is scope))
  each_placed is scope = ap (map_read each_of) (members_placed is scope) ∙ ap (λ fs. with_offences (all_read is scope).offences (And fs)) (placed_each places (all_read is scope).value)

  either_placed : (is : List Item) (scope : List Var) → map_read either_of (all_read (map (item_placed places) is) scope) ≡ map_read (placed places) (map_read either_of (all_read is scope))
  either_placed is scope = ap (map_read either_of) (members_placed is scope) ∙ ap (λ fs. with_offences (all_read is scope).offences (Or fs)) (placed_each places (all_read is scope).value)

  not_placed : (at : ℕ) (is : List Item) (scope : List Var) → not_read at (one_of (map (item_placed places) is)) scope ≡ map_read (placed places) (not_read at (one_of is) scope)
  not_placed at [] scope = refl
  not_placed at (i ∷ []) scope = refl
  not_placed at (i ∷ j ∷ is) scope = refl

  imply_placed : (at : ℕ) (is : List Item) (scope : List Var) → imply_read at (two_of (map (item_placed places) is)) scope ≡ map_read (placed places) (imply_read at (two_of is) scope)
  imply_placed at [] scope = refl
  imply_placed at (i ∷ []) scope = refl
  imply_placed at (i ∷ j ∷ []) scope = refl
  imply_placed at (i ∷ j ∷ l ∷ is) scope = refl

  quantified_placed : (every : Bool) (at : ℕ) (is : List Item) (scope : List Var) → quantified_read every (among k things) at (two_of (map (item_placed places) is)) scope ≡ map_read (placed places) (quantified_read every (among k firsts) at (two_of is) scope)
  quantified_placed every at [] scope = refl
  quantified_placed every at (i ∷ []) scope = refl
  quantified_placed true at (i ∷ j ∷ []) scope = refl
  quantified_placed false at (i ∷ j ∷ []) scope = refl
  quantified_placed every at (i ∷ j ∷ l ∷ is) scope = refl

  key_placed : (key : Key) (at : ℕ) (text : List ℕ) (ts : Trees) (is : List Item) (scope : List Var) → by_key key (among k things) at text ts (map (item_placed places) is) scope ≡ map_read (placed places) (by_key key (among k firsts) at text ts is scope)
  key_placed keys.Equal at text ts is scope = equality_placed scope at ts
  key_placed keys.Not at text ts is scope = not_placed at is scope
  key_placed keys.And at text ts is scope = each_placed is scope
  key_placed keys.Or at text ts is scope = either_placed is scope
  key_placed keys.Imply at text ts is scope = imply_placed at is scope
  key_placed keys.Forall at text ts is scope = quantified_placed true at is scope
  key_placed keys.Exists at text ts is scope = quantified_placed false at is scope
  key_placed keys.Comparison at text ts is scope = refl
  key_placed keys.Preference at text ts is scope = refl
  key_placed keys.When at text ts is scope = refl
  key_placed keys.Change at text ts is scope = refl
  key_placed (keys.Arithmetic operator) at text ts is scope = refl
  key_placed keys.Symbol at text ts is scope = ap (map_read holds) (symbol_placed scope at ts (shape_in k.predicates text))

  head_placed : (at : ℕ) (ts : Trees) (is : List Item) (scope : List Var) → by_head (among k things) at ts (map (item_placed places) is) scope ≡ map_read (placed places) (by_head (among k firsts) at ts is scope)
  head_placed at NoMore is scope = refl
  head_placed at (More (Node place items) ts) is scope = refl
  head_placed at (More (Word place text) ts) [] scope = refl
  head_placed at (More (Word place text) ts) (i ∷ is) scope = key_placed (key_of text) at text ts is scope

mutual
  unfolding condition_read items_read

  pub condition_placed : (k : Known) (things firsts : List Thing) (places : List ℕ) → AreFirsts things firsts places → (tree : Tree) → condition_read (among k things) tree ≡ part_placed places (condition_read (among k firsts) tree)
  condition_placed k things firsts places same (Word at text) = refl
  condition_placed k things firsts places same (Node at items) =
      fun_ext (λ scope.
      ap (λ is. by_head (among k things) at items is scope) (items_placed k things firsts places same items)
      ∙ head_placed k things firsts places same at items (items_read (among k firsts) items) scope)

  items_placed : (k : Known) (things firsts : List Thing) (places : List ℕ) → AreFirsts things firsts places → (ts : Trees) → items_read (among k things) ts ≡ map (item_placed places) (items_read (among k firsts) ts)
  items_placed k things firsts places same NoMore = refl
  items_placed k things firsts places same (More t ts) =
      ap (λ says. with_item t says ∷ items_read (among k things) ts) (condition_placed k things firsts places same t)
      ∙ ap (λ is. with_item t (part_placed places (condition_read (among k firsts) t)) ∷ is) (items_placed k things firsts places same ts)

-- what is read over all objects is what is read over the first ones, with their places
pub placed_reading : (k : Known) (all firsts : List Thing) (places : List ℕ) → firsts ≡ (firsts_in all).things → places ≡ (firsts_in all).places → (tree : Tree) (scope : List Var) → condition_read (among k all) tree scope ≡ map_read (placed places) (condition_read (among k firsts) tree scope)
placed_reading k all firsts places e f tree scope =
    let same : AreFirsts all firsts places = rw (e, f) (firsts_found all) in
    ap (λ says. says scope) (condition_placed k all firsts places same tree)
