-- One more owner of a box: its bounds, and what it adds to the run.
use Rattle.std.proofs.Common.{◌≡◌, ℕ, ◌+◌, ◌<◌, ◌≤◌, Bool, true, false, List, ◌∷◌, ◌++◌, drop, length, get_or, All, refl, ap, sym, ◌∙◌, subst, arith, append_assoc}
use Rattle.std.proofs.lemmas.List.{at_drop_more}
use Rattle.std.proofs.lemmas.List.Elements.{All-get_or}
use Rattle.stp_happen.specs.declared.owners.Owner.{Owner}
use Rattle.stp_happen.specs.Plain.{PlainEntry, PlainSpan}
use Rattle.stp_happen.specs.Sound.{last_moment}
use Rattle.stp_happen.specs.SoundOwned.{IsOwner}
use Rattle.stp_happen.specs.Boxes.{PlainOwner, end_of, rest_of, entries_of_owner, spans_of_owner, entries_under, spans_under, IsInInterval, IsVector}
use Rattle.stp_happen.specs.OwnerViews.{plain_owner, plain_owners}

-- ---- bounds

pub end_within : (o : PlainOwner) → o.low ≤ o.high → (o.uncertain ≡ false → o.low ≡ o.high) → (ds : List ℕ) → IsInInterval o ds → (u : Bool) → o.uncertain ≡ u → (o.low ≤ end_of o ds) × (end_of o ds ≤ o.high)
end_within o up certain ds w true e = rw e ((w e).1, (w e).2)
end_within o up certain ds w false e = rw e (up, omega arith)

-- where an owner of a box starts and ends under its durations
pub record Bounds (grid : ℕ) (o : Owner) (end : ℕ) : Type 0 where
  pub up : o.start ≤ end
  pub low : o.low ≤ end
  pub start : o.start ≤ last_moment grid
  pub within : end ≤ last_moment grid

pub bounds : (grid n : ℕ) (o : Owner) → IsOwner grid n o → (ds : List ℕ) → IsInInterval (plain_owner o) ds → (end : ℕ) → end ≡ end_of (plain_owner o) ds → Bounds grid o end
bounds grid n o h ds w end e =
    let b = end_within (plain_owner o) h.ordered h.certain ds w o.uncertain refl in
    let a : o.start ≤ o.low = h.up in
    let low : o.low ≤ end = rw e b.0 in
    let high : end ≤ o.high = rw e b.1 in
    let to : o.high ≤ last_moment grid = h.high in
    record { up = omega arith; low = low; start = omega arith; within = omega arith }

-- ---- one more owner

pub owner_here : (owners : List Owner) (i : ℕ) (o : Owner) → i < length owners → o ≡ get_or owners i o → plain_owners (drop i owners) ≡ plain_owner o ∷ plain_owners (drop (i + 1) owners)
owner_here owners i o l e = at_drop_more plain_owners owners i o l ∙ ap (λ t. plain_owner t ∷ plain_owners (drop (i + 1) owners)) (sym e)

pub entries_more : (owners : List Owner) (i : ℕ) (o : Owner) → i < length owners → o ≡ get_or owners i o → (ds : List ℕ) (es new whole : List PlainEntry) →
    new ≡ es ++ entries_of_owner (plain_owner o) (end_of (plain_owner o) ds) → es ++ entries_under (plain_owners (drop i owners)) ds ≡ whole →
    new ++ entries_under (plain_owners (drop (i + 1) owners)) (rest_of (plain_owner o) ds) ≡ whole
entries_more owners i o l e ds es new whole more all =
    ap (λ os. os ++ entries_under (plain_owners (drop (i + 1) owners)) (rest_of (plain_owner o) ds)) more
    ∙ (append_assoc es (entries_of_owner (plain_owner o) (end_of (plain_owner o) ds)) (entries_under (plain_owners (drop (i + 1) owners)) (rest_of (plain_owner o) ds))
    ∙ (ap (λ os. es ++ entries_under os ds) (sym (owner_here owners i o l e)) ∙ all))

pub spans_more : (owners : List Owner) (i : ℕ) (o : Owner) → i < length owners → o ≡ get_or owners i o → (ds : List ℕ) (es new whole : List PlainSpan) →
    new ≡ es ++ spans_of_owner (plain_owner o) (end_of (plain_owner o) ds) → es ++ spans_under (plain_owners (drop i owners)) ds ≡ whole →
    new ++ spans_under (plain_owners (drop (i + 1) owners)) (rest_of (plain_owner o) ds) ≡ whole
spans_more owners i o l e ds es new whole more all =
    ap (λ os. os ++ spans_under (plain_owners (drop (i + 1) owners)) (rest_of (plain_owner o) ds)) more
    ∙ (append_assoc es (spans_of_owner (plain_owner o) (end_of (plain_owner o) ds)) (spans_under (plain_owners (drop (i + 1) owners)) (rest_of (plain_owner o) ds))
    ∙ (ap (λ os. es ++ spans_under os ds) (sym (owner_here owners i o l e)) ∙ all))

pub vector_here : (owners : List Owner) (i : ℕ) (o : Owner) → i < length owners → o ≡ get_or owners i o → (ds : List ℕ) → IsVector (plain_owners (drop i owners)) ds →
    IsVector (plain_owner o ∷ plain_owners (drop (i + 1) owners)) ds
vector_here owners i o l e ds v = subst (λ os. IsVector os ds) (owner_here owners i o l e) v

-- a fact of all members of a list of the code is one of the member at a place
pub fact_at : {X : Type 0} (P : X → Type 0) (xs : List X) (i : ℕ) (x : X) → i < length xs → x ≡ get_or xs i x → All P xs → P x
fact_at P xs i x l e h = subst P (sym e) (All-get_or P xs i x l h)
