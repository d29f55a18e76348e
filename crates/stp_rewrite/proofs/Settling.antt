-- What rows of shadows and lists of ends give for an event.
use Rattle.std.proofs.Common.{◌≡◌, ℕ, zero, suc, ◌<◌, ◌==◌, not, ◌&&◌, ◌||◌, nat_lt, Bool, true, false, cond, List, [], ◌∷◌, ◌++◌, length, map, filter, get_or, slice_get, All, Option, Some, None, option_map, refl, sym, ap, ap₂, ◌∙◌, arith}
use Rattle.std.specs.List.{list_all, filter_map}
use Rattle.std.proofs.lemmas.Bool.{ltb-true, or_right}
use Rattle.std.proofs.lemmas.List.Elements.{filter_map-append}
use Rattle.std.proofs.lemmas.List.FromFn.{get_or-map-range_with_len}
use Rattle.std.proofs.lemmas.List.Folds.{list_all-append}
use Rattle.stp_base.specs.declared.ids.AtomId.{AtomId}
use Rattle.stp_cond.specs.declared.cond.Cond.{Cond}
use Rattle.stp_cond.specs.declared.event.Event.{Event}
use Rattle.stp_cond.specs.Atoms.{PlainEvent, has, have_common, interfere}
use Rattle.stp_cond.specs.Events.{IsEventInRange}
use Rattle.stp_cond.specs.Formulas.{Formula, atoms_in, atoms_in_all, formulas_of, view}
use Rattle.stp_cond.specs.Truth.{reads_only}
use Rattle.stp_cond.specs.Views.{atoms_of}
use Rattle.stp_cond.proofs.EventLists.{below_from_All}
use Rattle.stp_cond.proofs.Lawful.{apart, reading}
use Rattle.stp_cond.proofs.Rising.{Contains_from_has, has_first}
use Rattle.stp_cond.proofs.Shapes.{reads_are_of_shape}
use Rattle.stp_expand.specs.Expanded.{not_opened}
use Rattle.stp_expand.proofs.Members.{and_both, each_passes, all_pass}
use Rattle.stp_cond.proofs.Rising.{has_from_Contains}
use Rattle.stp_task.specs.Actions.{PlainHappening}
use Rattle.stp_rewriting.specs.Rewritten.{Rewriting, Ending, footprint_of_end, is_shadowed, other_ends, shadows}
use Rattle.stp_rewrite.specs.declared.rewriter.Rewriter.{Rewriter}
use Rattle.stp_rewrite.specs.Ends.{end_by, is_lock, is_other, number_or_none, shadow_by, shadows_by}
use Rattle.stp_rewrite.specs.Happenings.{guarded, lock_atoms}
use Rattle.stp_rewrite.specs.RewrittenTasks.{shadow_at}
use Rattle.stp_rewrite.specs.Rewriters.{plain_in, rewriting_by, task_in}
use Rattle.stp_rewrite.specs.Views.{numbers_of}
use Rattle.stp_rewrite.proofs.Proper.{settled_apart, opening_apart, closing_apart}
use Rattle.stp_rewrite.proofs.Tasks.{each}

-- ---- locks

locks_of_ends : (r : Rewriting) (key : ℕ) (e : PlainEvent) (os : List Ending) → map (λ o. o.opened) (filter (is_lock key e) (map (end_by r) os)) ≡ map (λ o. r.opened o.key) (filter (λ o. not (o.key == key) && interfere e o.event) os)
locks_of_ends r key e [] = refl
locks_of_ends r key e (o ∷ os) = by_test (not (o.key == key) && interfere e o.event) (locks_of_ends r key e os)
  where
    by_test : (b : Bool) → map (λ o. o.opened) (filter (is_lock key e) (map (end_by r) os)) ≡ map (λ o. r.opened o.key) (filter (λ o. not (o.key == key) && interfere e o.event) os) →
        map (λ o. o.opened) (cond b (end_by r o ∷ filter (is_lock key e) (map (end_by r) os)) (filter (is_lock key e) (map (end_by r) os))) ≡ map (λ o. r.opened o.key) (cond b (o ∷ filter (λ o. not (o.key == key) && interfere e o.event) os) (filter (λ o. not (o.key == key) && interfere e o.event) os))
    by_test true h = ap (λ l. r.opened o.key ∷ l) h
    by_test false h = h

pub locks_are : (r : Rewriting) (key : ℕ) (e : PlainEvent) → map (λ o. o.opened) (filter (is_lock key e) (map (end_by r) r.endings)) ≡ lock_atoms r key e
locks_are r key e = locks_of_ends r key e r.endings

-- ---- guarded conditions

all_in_parts : (these : ℕ → Bool) (os : List ℕ) → list_all these os ≡ true → list_all these (atoms_in_all (formulas_of (map not_opened os))) ≡ true
all_in_parts these [] h = refl
all_in_parts these (o ∷ os) h = parts (these o) (list_all these os) h (all_in_parts these os)
  where
    parts : (b c : Bool) → (b && c) ≡ true → (c ≡ true → list_all these (atoms_in_all (formulas_of (map not_opened os))) ≡ true) → (b && list_all these (atoms_in_all (formulas_of (map not_opened os)))) ≡ true
    parts true c e k = k e
    parts false c e k = cc

guarded_reads : (these : ℕ → Bool) (f : Formula) (os : List ℕ) → list_all these (atoms_in f) ≡ true → list_all these os ≡ true → list_all these (atoms_in (guarded f os)) ≡ true
guarded_reads these f [] h k = h
guarded_reads these f (o ∷ os) h k =
    list_all-append these (atoms_in f) (atoms_in_all (formulas_of (map not_opened (o ∷ os))))
    ∙ and_both (list_all these (atoms_in f)) (list_all these (atoms_in_all (formulas_of (map not_opened (o ∷ os))))) h (all_in_parts these (o ∷ os) k)

has_left : (xs ys : List ℕ) (a : ℕ) → has xs a ≡ true → has (xs ++ ys) a ≡ true
has_left [] ys a h = cc
has_left (x ∷ xs) ys a h = grow (x == a) (has xs a) (has (xs ++ ys) a) h (has_left xs ys a)
  where
    grow : (b c d : Bool) → (b || c) ≡ true → (c ≡ true → d ≡ true) → (b || d) ≡ true
    grow true c d h k = refl
    grow false c d h k = k h

has_right : (xs ys : List ℕ) (a : ℕ) → has ys a ≡ true → has (xs ++ ys) a ≡ true
has_right [] ys a h = h
has_right (x ∷ xs) ys a h = or_right (x == a) (has (xs ++ ys) a) (has_right xs ys a h)

all_has : (p : ℕ → Bool) (xs : List ℕ) → ((a : ℕ) → has xs a ≡ true → p a ≡ true) → list_all p xs ≡ true
all_has p xs h = all_pass p xs (λ a i. h a (has_from_Contains xs a i))

-- a guarded condition reads what its event reads, and its locks
pub guarded_alone : (e : Event) (made : Cond) (os reads : List ℕ) → view made ≡ guarded (view e.cond.now) os → reads ≡ atoms_of e.reads.now ++ os → reads_only (has reads) made ≡ true
guarded_alone e made os reads v l =
    ap (λ xs. reads_only (has xs) made) l
    ∙ (reads_are_of_shape (has (atoms_of e.reads.now ++ os)) made
    ∙ (ap (λ f. list_all (has (atoms_of e.reads.now ++ os)) (atoms_in f)) v
    ∙ guarded_reads (has (atoms_of e.reads.now ++ os)) (view e.cond.now) os
    (all_has (has (atoms_of e.reads.now ++ os)) (atoms_in (view e.cond.now)) (λ a i. has_left (atoms_of e.reads.now) os a
    (each_passes (has (atoms_of e.reads.now)) (atoms_in (view e.cond.now)) (sym (reads_are_of_shape (has (atoms_of e.reads.now)) e.cond.now) ∙ reading e) a (Contains_from_has (atoms_in (view e.cond.now)) a i))))
    (all_has (has (atoms_of e.reads.now ++ os)) os (λ a i. has_right (atoms_of e.reads.now) os a i))))

-- ---- shadows

by_place : (row : List (Option AtomId)) (a : ℕ) → number_or_none (slice_get row a) ≡ get_or (numbers_of row) a None
by_place [] a = refl
by_place (x ∷ row) zero = one x
  where
    one : (o : Option AtomId) → number_or_none (Some o) ≡ option_map (λ n. n.0) o
    one None = refl
    one (Some n) = refl
by_place (x ∷ row) (suc a) = by_place row a

pub below_has : (n : ℕ) (xs : List AtomId) → All (λ a. a.0 < n) xs → (a : ℕ) → has (atoms_of xs) a ≡ true → a < n
below_has n xs all a h = ltb-true a n (each_passes (λ a. nat_lt a n) (atoms_of xs) (below_from_All n xs all) a (Contains_from_has (atoms_of xs) a h))

module _ (w : Rewriter) where
  abbrev r : Rewriting
  r = rewriting_by w

  pub shadow_is : (a : ℕ) → a < plain_in w → shadow_by w.shadow_of a ≡ shadow_at r a
  shadow_is a l =
      by_place w.shadow_of a ∙ (ap (λ k. get_or k a None) w.shadowed ∙ get_or-map-range_with_len (shadow_at r) 0 (plain_in w) a a None l (omega arith))

  shadows_in : (xs : List ℕ) → ((a : ℕ) → has xs a ≡ true → a < plain_in w) → shadows_by w.shadow_of xs ≡ shadows r xs
  shadows_in [] h = refl
  shadows_in (x ∷ xs) h =
      filter_map-append (shadow_by w.shadow_of) (x ∷ []) xs
      ∙ (ap₂ (λ o l. filter_map (λ (a : ℕ). o) (x ∷ []) ++ l) (shadow_is x (h x (has_first x xs))) (shadows_in xs (λ a i. h a (or_right (x == a) (has xs a) i)))
      ∙ by_test (is_shadowed r x))
    where
      by_test : (b : Bool) → filter_map (λ (a : ℕ). cond b (Some (r.shadow x)) None) (x ∷ []) ++ shadows r xs ≡ map r.shadow (cond b (x ∷ filter (is_shadowed r) xs) (filter (is_shadowed r) xs))
      by_test true = refl
      by_test false = refl

  module _ (e : Event) (in_range : IsEventInRange (plain_in w) e) where
    pub adds_shadows : shadows_by w.shadow_of (atoms_of e.adds.now) ≡ shadows r (atoms_of e.adds.now)
    adds_shadows = shadows_in (atoms_of e.adds.now) (below_has (plain_in w) e.adds.now in_range.adds)

    pub dels_shadows : shadows_by w.shadow_of (atoms_of e.dels.now) ≡ shadows r (atoms_of e.dels.now)
    dels_shadows = shadows_in (atoms_of e.dels.now) (below_has (plain_in w) e.dels.now in_range.dels)

    added : (a : ℕ) → has (atoms_of e.adds.now) a ≡ true → a < length (task_in w).atoms
    added a h = omega (arith, below_has (plain_in w) e.adds.now in_range.adds a h, each w.task.now)

    deleted : (a : ℕ) → has (atoms_of e.dels.now) a ≡ true → a < length (task_in w).atoms
    deleted a h = omega (arith, below_has (plain_in w) e.dels.now in_range.dels a h, each w.task.now)

    apart_as : (xs ys xs' ys' : List ℕ) → xs ≡ xs' → ys ≡ ys' → have_common xs' ys' ≡ false → have_common xs ys ≡ false
    apart_as xs ys xs' ys' x y h = ap₂ have_common x y ∙ h

    pub apart_if_settled : (xs ys : List ℕ) → xs ≡ atoms_of e.adds.now ++ shadows_by w.shadow_of (atoms_of e.adds.now) → ys ≡ atoms_of e.dels.now ++ shadows_by w.shadow_of (atoms_of e.dels.now) → have_common xs ys ≡ false
    apart_if_settled xs ys x y =
        apart_as xs ys _ _ (x ∙ ap (λ l. atoms_of e.adds.now ++ l) adds_shadows) (y ∙ ap (λ l. atoms_of e.dels.now ++ l) dels_shadows) (settled_apart (task_in w) (atoms_of e.adds.now) (atoms_of e.dels.now) added deleted (apart e))

    pub apart_if_opening : (key : ℕ) (xs ys : List ℕ) → xs ≡ shadows_by w.shadow_of (atoms_of e.adds.now) ++ r.opened key ∷ [] → ys ≡ shadows_by w.shadow_of (atoms_of e.dels.now) → have_common xs ys ≡ false
    apart_if_opening key xs ys x y =
        apart_as xs ys _ _ (x ∙ ap (λ l. l ++ r.opened key ∷ []) adds_shadows) (y ∙ dels_shadows) (opening_apart (task_in w) (atoms_of e.adds.now) (atoms_of e.dels.now) added deleted (apart e) key)

    pub apart_if_closing : (key : ℕ) (xs ys : List ℕ) → xs ≡ atoms_of e.adds.now ++ shadows_by w.shadow_of (atoms_of e.adds.now) → ys ≡ (atoms_of e.dels.now ++ shadows_by w.shadow_of (atoms_of e.dels.now)) ++ r.opened key ∷ [] → have_common xs ys ≡ false
    apart_if_closing key xs ys x y =
        apart_as xs ys _ _ (x ∙ ap (λ l. atoms_of e.adds.now ++ l) adds_shadows) (y ∙ ap (λ l. (atoms_of e.dels.now ++ l) ++ r.opened key ∷ []) dels_shadows) (closing_apart (task_in w) (atoms_of e.adds.now) (atoms_of e.dels.now) added deleted (apart e) key)

pub same_happening : (cond cond' : Formula) (reads reads' adds adds' dels dels' : List ℕ) → cond ≡ cond' → reads ≡ reads' → adds ≡ adds' → dels ≡ dels' →
    let h : PlainHappening = record { cond = cond; reads = reads; adds = adds; dels = dels } in
    let h' : PlainHappening = record { cond = cond'; reads = reads'; adds = adds'; dels = dels' } in h ≡ h'
same_happening cond cond' reads reads' adds adds' dels dels' c r a d = cc

-- ---- the ends of all other actions

others_of_ends : (r : Rewriting) (key : ℕ) (os : List Ending) → map (λ o. o.footprint) (filter (is_other key) (map (end_by r) os)) ≡ map (footprint_of_end r) (filter (λ o. not (o.key == key)) os)
others_of_ends r key [] = refl
others_of_ends r key (o ∷ os) = by_test (not (o.key == key)) (others_of_ends r key os)
  where
    by_test : (b : Bool) → map (λ o. o.footprint) (filter (is_other key) (map (end_by r) os)) ≡ map (footprint_of_end r) (filter (λ o. not (o.key == key)) os) →
        map (λ o. o.footprint) (cond b (end_by r o ∷ filter (is_other key) (map (end_by r) os)) (filter (is_other key) (map (end_by r) os))) ≡ map (footprint_of_end r) (cond b (o ∷ filter (λ o. not (o.key == key)) os) (filter (λ o. not (o.key == key)) os))
    by_test true h = ap (λ l. footprint_of_end r o ∷ l) h
    by_test false h = h

pub others_are : (r : Rewriting) (key : ℕ) → map (λ o. o.footprint) (filter (is_other key) (map (end_by r) r.endings)) ≡ other_ends r key
others_are r key = others_of_ends r key r.endings
