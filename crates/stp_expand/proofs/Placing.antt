-- A footprint is put to the first that is the same, or at the end.
use Rattle.std.proofs.Common.{◌≡◌, ℕ, ◌<◌, ◌+◌, not, Some, None, zero, suc, Bool, true, false, cond, List, [], ◌∷◌, ◌++◌, map, length, get_or, slice_set, Bor, refl, sym, ap, ◌∙◌, arith}
use Rattle.std.proofs.lemmas.Bool.{cond-true, cond-false, lt-ltb}
use Rattle.std.specs.List.{position, position_or_len}
use Rattle.std.proofs.lemmas.List.{map-append}
use Rattle.stp_base.specs.declared.ids.AtomId.{AtomId}
use Rattle.stp_cond.specs.Views.{atoms_of}
use Rattle.std.proofs.lemmas.List.Elements.{filter_agree}
use Rattle.stp_cond.specs.Atoms.{has, set_of}
use Rattle.stp_cond.proofs.Rising.{has_set}
use Rattle.stp_expand.specs.declared.footprint.Footprint.{Footprint}
use Rattle.stp_expand.specs.Footprints.{PlainFootprint, is_same, part_of, with_footprint}
use Rattle.stp_expand.proofs.Members.{not_true}
use Rattle.stp_expand.specs.Views.{footprint_of, footprints_of}

abbrev pub joined_to : PlainFootprint → PlainFootprint → PlainFootprint
joined_to q p = record q { opened = q.opened ++ p.opened }

pub put_to_same : (p : PlainFootprint) (qs : List Footprint) (i : ℕ) (new d : Footprint) → i < length qs → is_same p (footprint_of (get_or qs i d)) ≡ true →
    ((k : ℕ) → k < i → is_same p (footprint_of (get_or qs k d)) ≡ false) → footprint_of new ≡ joined_to (footprint_of (get_or qs i d)) p → footprints_of (slice_set qs i new) ≡ with_footprint p (footprints_of qs)
put_to_same p [] i new d below same before e = absurd (omega arith)
put_to_same p (q ∷ qs) zero new d below same before e =
    ap (λ f. f ∷ footprints_of qs) e ∙ sym (cond-true (is_same p (footprint_of q)) (joined_to (footprint_of q) p ∷ footprints_of qs) (footprint_of q ∷ with_footprint p (footprints_of qs)) same)
put_to_same p (q ∷ qs) (suc i) new d below same before e =
    ap (λ l. footprint_of q ∷ l) (put_to_same p qs i new d (omega arith) same (λ k l. before (suc k) (omega arith)) e)
    ∙ sym (cond-false (is_same p (footprint_of q)) (joined_to (footprint_of q) p ∷ footprints_of qs) (footprint_of q ∷ with_footprint p (footprints_of qs)) (before 0 (omega arith)))

pub put_at_end : (one : Footprint) (qs : List Footprint) (d : Footprint) → ((k : ℕ) → k < length qs → is_same (footprint_of one) (footprint_of (get_or qs k d)) ≡ false) → footprints_of (qs ++ one ∷ []) ≡ with_footprint (footprint_of one) (footprints_of qs)
put_at_end one [] d none = refl
put_at_end one (q ∷ qs) d none =
    ap (λ l. footprint_of q ∷ l) (put_at_end one qs d (λ k l. none (suc k) (omega arith)))
    ∙ sym (cond-false (is_same (footprint_of one) (footprint_of q)) (joined_to (footprint_of q) (footprint_of one) ∷ footprints_of qs) (footprint_of q ∷ with_footprint (footprint_of one) (footprints_of qs)) (none 0 (omega arith)))

pub joined_view : (same p : Footprint) (opened : Bor (List AtomId)) → opened.now ≡ same.opened.now ++ p.opened.now →
    let new : Footprint = record { adds = same.adds; dels = same.dels; opened = opened } in footprint_of new ≡ joined_to (footprint_of same) (footprint_of p)
joined_view same p opened e =
    let o : atoms_of opened.now ≡ atoms_of same.opened.now ++ atoms_of p.opened.now = ap atoms_of e ∙ map-append (λ (a : AtomId). a.0) same.opened.now p.opened.now in
    cc

at_none : (p : Footprint → Bool) (xs : List Footprint) (k : ℕ) (d : Footprint) → k < length xs → p (get_or xs k d) ≡ true → position_or_len p xs < length xs
at_none p [] k d l h = absurd (omega arith)
at_none p (x ∷ xs) zero d l h = let e : position_or_len p (x ∷ xs) ≡ 0 = ap (λ b. cond (not b) (1 + position_or_len p xs) 0) h in omega arith
at_none p (x ∷ xs) (suc k) d l h = one_more (p x) (position_or_len p xs) (length xs) (at_none p xs k d (omega arith) h)
  where
    one_more : (b : Bool) (n m : ℕ) → n < m → cond (not b) (1 + n) 0 < suc m
    one_more true n m h = omega arith
    one_more false n m h = omega arith

pub none_same : (p : Footprint → Bool) (xs : List Footprint) → position p xs ≡ None → (k : ℕ) (d : Footprint) → k < length xs → p (get_or xs k d) ≡ false
none_same p xs is k d l = not_true (p (get_or xs k d)) (λ h.
    let found : position p xs ≡ Some (position_or_len p xs) = ap (λ t. cond t (Some (position_or_len p xs)) None) (lt-ltb (position_or_len p xs) (length xs) (at_none p xs k d l h)) in
    cc)

-- ---- the set of the atoms for the atoms

part_of_set : (atoms : List ℕ) (p : PlainFootprint) → part_of (set_of atoms) p ≡ part_of atoms p
part_of_set atoms p =
    let a = filter_agree (has (set_of atoms)) (has atoms) (has_set atoms) p.adds in
    let d = filter_agree (has (set_of atoms)) (has atoms) (has_set atoms) p.dels in
    cc

pub parts_of_set : (atoms : List ℕ) (ps : List PlainFootprint) → map (part_of (set_of atoms)) ps ≡ map (part_of atoms) ps
parts_of_set atoms [] = refl
parts_of_set atoms (p ∷ ps) = ap (λ f. f ∷ map (part_of (set_of atoms)) ps) (part_of_set atoms p) ∙ ap (λ l. part_of atoms p ∷ l) (parts_of_set atoms ps)
