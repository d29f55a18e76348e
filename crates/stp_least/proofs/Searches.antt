-- One more owner of a search, and its end.
use Rattle.std.proofs.Common.{◌≡◌, ℕ, ◌+◌, ◌<◌, ◌≤◌, Bool, true, false, cond, List, [], ◌∷◌, ◌++◌, ◌⊎◌, get_or, length, filter, map, All, Contains, inl, inr, refl, ap, sym, ◌∙◌, subst, arith, true≢false, append_assoc, length-append}
use Rattle.std.proofs.Math.Seq.{get_or-append_seam}
use Rattle.std.proofs.lemmas.List.{append-nil, get_or-map, length-map}
use Rattle.std.proofs.lemmas.List.Elements.{Contains-append_right, All-nil, All-push, filter-append}
use Rattle.stp_happen.specs.declared.owners.Owner.{Owner}
use Rattle.stp_happen.specs.declared.owners.OwnedBox.{OwnedBox}
use Rattle.stp_happen.specs.Boxes.{PlainOwner, PlainBox}
use Rattle.stp_happen.specs.Bounds.{MayEndWithin, bounded_owner, bounded_box}
use Rattle.stp_happen.specs.LeastFailure.{IsFailure, IsLeastFailure}
use Rattle.stp_happen.specs.OwnedViews.{plain_owned}
use Rattle.stp_happen.specs.OwnerViews.{plain_owner, plain_owners}
use Rattle.stp_happen.specs.Owners.{AreNumbered, AreTimedApart}
use Rattle.stp_happen.specs.Sound.{last_moment}
use Rattle.stp_happen.specs.SoundOwned.{IsOwner}
use Rattle.stp_happen.proofs.Bounding.{bounded_split}
use Rattle.stp_happen.proofs.Members.{here, all_of, each_of, member_map}
use Rattle.stp_window.proofs.Proper.{one_number}
use Rattle.stp_window.proofs.WellMade.{boxes_are_well_made}
use Rattle.stp_strength.proofs.Checked.{owners_in_range}
use Rattle.stp_least.specs.declared.place.Place.{Place}
use Rattle.stp_least.specs.declared.place.Failing.{Failing}
use Rattle.stp_least.specs.declared.search.Search.{Search}
use Rattle.stp_least.specs.Searching.{AreFixed, KeepsLeastFailure, uncertain_among}
use Rattle.stp_least.specs.Places.{box_at, Fits, IsPlace, IsFailing, IsSearch}
use Rattle.stp_least.proofs.Narrowing.{ending, fixed_least}

-- ---- how many are uncertain

counted : (before : List PlainOwner) (o : PlainOwner) (u : Bool) → o.uncertain ≡ u → uncertain_among (before ++ o ∷ []) ≡ uncertain_among before + cond u 1 0
counted before o u e =
    ap length (filter-append (λ (x : PlainOwner). x.uncertain) before (o ∷ []))
    ∙ (length-append (filter (λ (x : PlainOwner). x.uncertain) before) (filter (λ (x : PlainOwner). x.uncertain) (o ∷ [])) ∙ ap (λ n. uncertain_among before + n) (alone o u e))
  where
    alone : (o : PlainOwner) (u : Bool) → o.uncertain ≡ u → uncertain_among (o ∷ []) ≡ cond u 1 0
    alone o true e = rw e refl
    alone o false e = rw e refl

few_uncertain : (owners : List PlainOwner) → uncertain_among owners ≤ length owners
few_uncertain [] = omega arith
few_uncertain (o ∷ os) = by_kind o os o.uncertain refl (few_uncertain os)
  where
    by_kind : (o : PlainOwner) (os : List PlainOwner) (u : Bool) → o.uncertain ≡ u → uncertain_among os ≤ length os → uncertain_among (o ∷ os) ≤ length (o ∷ os)
    by_kind o os true e l = rw e (omega arith)
    by_kind o os false e l = rw e (omega arith)

pub position_small : (index : ℕ) (search : Search) → IsSearch index search → search.position ≤ index
position_small index search h = let p : search.position ≡ uncertain_among h.before = h.position in let n : length h.before ≡ index = h.long in omega (arith, few_uncertain h.before)

-- ---- the owner at hand

-- the owners of a search, with the one at hand in the middle
pub record HasNext (search : Search) (o : Owner) : Type 0 where
  pub before : List PlainOwner
  pub rest : List PlainOwner
  pub owners : plain_owners search.boxed.owners ≡ before ++ plain_owner o ∷ rest
  pub fixed : AreFixed before
  pub position : search.position ≡ uncertain_among before

next_of : (index : ℕ) (search : Search) (read : List Owner) (o : Owner) → IsSearch index search → read ≡ search.boxed.owners → index < length search.boxed.owners → o ≡ get_or read index o → (n : HasNext search o) × (length n.before ≡ index)
next_of index search read o h same l e = by_rest index search read o h same l e h.rest h.owners
  where
    by_rest : (index : ℕ) (search : Search) (read : List Owner) (o : Owner) (h : IsSearch index search) → read ≡ search.boxed.owners → index < length search.boxed.owners → o ≡ get_or read index o →
        (rest : List PlainOwner) → plain_owners search.boxed.owners ≡ h.before ++ rest → (n : HasNext search o) × (length n.before ≡ index)
    by_rest index search read o h same l e [] all =
        let long : length (plain_owners search.boxed.owners) ≡ length (h.before ++ []) = ap length all in
        let n : length h.before ≡ index = h.long in
        let none : List PlainOwner = [] in
        absurd (omega (arith, length-map search.boxed.owners plain_owner, length-append h.before none))
    by_rest index search read o h same l e (x ∷ rest) all =
        let there : get_or (plain_owners search.boxed.owners) index (plain_owner o) ≡ plain_owner (get_or search.boxed.owners index o) = get_or-map plain_owner search.boxed.owners index o (plain_owner o) l in
        let seam : get_or (plain_owners search.boxed.owners) index (plain_owner o) ≡ x =
        ap (λ os. get_or os index (plain_owner o)) all ∙ (ap (λ n. get_or (h.before ++ x ∷ rest) n (plain_owner o)) (sym h.long) ∙ get_or-append_seam h.before x rest (plain_owner o)) in
        let is : x ≡ plain_owner o = sym seam ∙ (there ∙ ap plain_owner (ap (λ os. get_or os index o) (sym same) ∙ sym e)) in (
          record { before = h.before; rest = rest; owners = all ∙ ap (λ y. h.before ++ y ∷ rest) is; fixed = h.fixed; position = h.position },
          h.long,
        )

-- the search after an owner that has one end, in a box in which it may have got that end
pushed : (index : ℕ) (boxed : OwnedBox) (position : ℕ) (ds : List ℕ) (before : List PlainOwner) (o : PlainOwner) (rest : List PlainOwner) (u : Bool) → plain_owners boxed.owners ≡ before ++ o ∷ rest → length before ≡ index → AreFixed before →
    o.low ≡ o.high → o.uncertain ≡ u → position ≡ uncertain_among before + cond u 1 0 → IsFailure (plain_owned boxed) ds → let search : Search = record { boxed = boxed; position = position; durations = ds } in IsSearch (index + 1) search
pushed index boxed position ds before o rest u all long fixed one kind p f = record {
  before = before ++ o ∷ [];
  rest = rest;
  owners = all ∙ sym (append_assoc before (o ∷ []) rest);
  long = length-append before (o ∷ []) ∙ ap (λ n. n + 1) long;
  fixed = All-push (λ (x : PlainOwner). x.low ≡ x.high) before o fixed one;
  position = p ∙ sym (counted before o u kind);
  failure = f;
}

-- ---- an owner that is certain

certain_fixed : (search : Search) (o : Owner) → Contains search.boxed.owners o → o.uncertain ≡ false → o.low ≡ o.high
certain_fixed search o i u = let b = each_of (IsOwner search.boxed.grid (length search.boxed.initial)) search.boxed.owners (owners_in_range search.boxed) o i in b.certain u

-- ---- an owner that is uncertain

-- each owner with the number of the one at a place is that one
pub may_end : (place : Place) → IsPlace place → (from to : ℕ) → Fits place from to → All (λ o. o.number ≡ place.owner.number → MayEndWithin place.boxed.now.grid from to o) place.boxed.now.owners
may_end place p from to fits = all_of (λ o. o.number ≡ place.owner.number → MayEndWithin place.boxed.now.grid from to o) place.boxed.now.owners (λ o i e.
    let boxed = place.boxed.now in
    let b = each_of (IsOwner boxed.grid (length boxed.initial)) boxed.owners (owners_in_range boxed) o i in
    by_kind place p from to fits o b (one_number (plain_owners boxed.owners) (boxes_are_well_made boxed).numbered (plain_owner o) (plain_owner place.owner) (member_map plain_owner boxed.owners o i) (subst (λ os. Contains os (plain_owner place.owner)) (sym p.owners) (Contains-append_right p.before (plain_owner place.owner ∷ p.rest) (plain_owner place.owner) (here (plain_owner place.owner) p.rest))) e))
  where
    by_kind : (place : Place) → IsPlace place → (from to : ℕ) → Fits place from to → (o : Owner) → IsOwner place.boxed.now.grid (length place.boxed.now.initial) o → (plain_owner o ≡ plain_owner place.owner) ⊎ AreTimedApart (plain_owner o) (plain_owner place.owner) →
        MayEndWithin place.boxed.now.grid from to o
    by_kind place p from to fits o b (inr apart) = absurd (true≢false (sym p.uncertain ∙ apart.other.certain))
    by_kind place p from to fits o b (inl same) =
        let low : o.low ≡ place.owner.low = ap (λ (x : PlainOwner). x.low) same in
        let high : o.high ≡ place.owner.high = ap (λ (x : PlainOwner). x.high) same in
        let start : o.start ≤ o.low = b.up in
        let last : o.high ≤ last_moment place.boxed.now.grid = b.high in
        let from_low : place.owner.low ≤ from = fits.low in
        let to_high : to ≤ place.owner.high = fits.high in
        record {
          uncertain = ap (λ (x : PlainOwner). x.uncertain) same ∙ p.uncertain;
          up = omega arith;
          ordered = fits.up;
          within = omega arith;
          lasting = λ f l. let before : o.start < o.low = b.lasting f l in omega arith;
        }

place_is : (search : Search) (o : Owner) (place : Place) → HasNext search o → place.boxed.now ≡ search.boxed → place.owner ≡ o → place.position ≡ search.position → o.uncertain ≡ true → IsPlace place
place_is search o place n same is p u = record {
  before = n.before;
  rest = n.rest;
  owners = ap (λ (b : OwnedBox). plain_owners b.owners) same ∙ (n.owners ∙ ap (λ (x : Owner). n.before ++ plain_owner x ∷ n.rest) (sym is));
  fixed = n.fixed;
  position = p ∙ n.position;
  uncertain = ap (λ (x : Owner). x.uncertain) is ∙ u;
}

-- ---- the end of the search

pub search_ends : (search : Search) (index : ℕ) → IsSearch index search → length search.boxed.owners ≤ index → IsLeastFailure (plain_owned search.boxed) search.durations
search_ends search index h l = fixed_least (plain_owned search.boxed) (all_fixed search index h l h.rest h.owners) search.durations h.failure
  where
    all_fixed : (search : Search) (index : ℕ) (h : IsSearch index search) → length search.boxed.owners ≤ index → (rest : List PlainOwner) → plain_owners search.boxed.owners ≡ h.before ++ rest → AreFixed (plain_owners search.boxed.owners)
    all_fixed search index h l [] all = subst AreFixed (sym (all ∙ append-nil h.before)) h.fixed
    all_fixed search index h l (x ∷ rest) all =
        let long : length (plain_owners search.boxed.owners) ≡ length (h.before ++ x ∷ rest) = ap length all in
        let n : length h.before ≡ index = h.long in
        absurd (omega (arith, length-map search.boxed.owners plain_owner, length-append h.before (x ∷ rest)))

pub search_begins : (search : Search) → search.position ≡ 0 → IsFailure (plain_owned search.boxed) search.durations → IsSearch 0 search
search_begins search p f = record {
  before = [];
  rest = plain_owners search.boxed.owners;
  owners = refl;
  long = refl;
  fixed = All-nil (λ (x : PlainOwner). x.low ≡ x.high);
  position = p;
  failure = f;
}

-- ---- the search after the owner at hand

pub certain_next : (index : ℕ) (search : Search) (read : List Owner) (o : Owner) → IsSearch index search → read ≡ search.boxed.owners → index < length search.boxed.owners → o ≡ get_or read index o → o.uncertain ≡ false →
    let next : Search = record { boxed = search.boxed; position = search.position; durations = search.durations } in IsSearch (index + 1) next
certain_next index search read o h same l e u =
    let n = next_of index search read o h same l e in
    let p : search.position ≡ uncertain_among n.0.before = n.0.position in
    let member : Contains search.boxed.owners o = (index, l, ap (λ os. get_or os index o) (sym same) ∙ sym e) in
    pushed index search.boxed search.position search.durations n.0.before (plain_owner o) n.0.rest false n.0.owners n.1 n.0.fixed (certain_fixed search o member u) u (omega arith) h.failure

pub place_next : (index : ℕ) (search : Search) (read : List Owner) (o : Owner) → IsSearch index search → read ≡ search.boxed.owners → index < length search.boxed.owners → o ≡ get_or read index o → o.uncertain ≡ true →
    (place : Place) → place.boxed.now ≡ search.boxed → place.owner ≡ o → place.position ≡ search.position → IsPlace place
place_next index search read o h same l e u place b is p = place_is search o place (next_of index search read o h same l e).0 b is p u

-- the owner gets the one end that it has at the least failure
pub found_next : (index : ℕ) (search : Search) (read : List Owner) (o : Owner) → IsSearch index search → read ≡ search.boxed.owners → index < length search.boxed.owners → o ≡ get_or read index o → o.uncertain ≡ true →
    (found : Failing) (fixed : OwnedBox) → IsFailure (bounded_box o.number found.low found.high (plain_owned search.boxed)) found.durations → found.low ≡ found.high → plain_owned fixed ≡ bounded_box o.number found.low found.high (plain_owned search.boxed) →
    let next : Search = record { boxed = fixed; position = search.position + 1; durations = found.durations } in IsSearch (index + 1) next
found_next index search read o h same l e u found fixed failure one is =
    let n = next_of index search read o h same l e in
    let p : search.position ≡ uncertain_among n.0.before = n.0.position in
    let numbered : AreNumbered (n.0.before ++ plain_owner o ∷ n.0.rest) = subst AreNumbered n.0.owners (boxes_are_well_made search.boxed).numbered in
    let owners : plain_owners fixed.owners ≡ n.0.before ++ ending found.low found.high (plain_owner o) ∷ n.0.rest =
    ap (λ (b : PlainBox). b.owners) is ∙ (ap (map (bounded_owner o.number found.low found.high)) n.0.owners ∙ bounded_split found.low found.high n.0.before (plain_owner o) n.0.rest u numbered) in
    pushed index fixed (search.position + 1) found.durations n.0.before (ending found.low found.high (plain_owner o)) n.0.rest true owners n.1 n.0.fixed one u (omega arith) (subst (λ b. IsFailure b found.durations) (sym is) failure)

pub same_long : (boxed fixed : OwnedBox) (number low high : ℕ) → plain_owned fixed ≡ bounded_box number low high (plain_owned boxed) → length fixed.owners ≡ length boxed.owners
same_long boxed fixed number low high is =
    sym (length-map fixed.owners plain_owner)
    ∙ (ap (λ (b : PlainBox). length b.owners) is ∙ (length-map (plain_owners boxed.owners) (bounded_owner number low high) ∙ length-map boxed.owners plain_owner))
