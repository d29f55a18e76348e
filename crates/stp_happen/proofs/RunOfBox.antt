-- The run that is made of a box: what it is but for the order of its entries, and what it keeps.
use Rattle.std.proofs.Common.{◌≡◌, ℕ, ◌<◌, ◌≤◌, Bool, List, [], ◌∷◌, length, All, Contains, IsPermutation, IsSortedByKey, refl, ap, sym, subst, arith}
use Rattle.std.proofs.lemmas.List.Elements.{All-head, All-tail}
use Rattle.std.proofs.lemmas.List.Sorted.{IsPermutation-map, IsPermutation-sym, Contains-permutation, All-permutation}
use Rattle.stp_cond.specs.declared.cond.Cond.{Cond}
use Rattle.stp_cond.specs.Truth.{meaning_of, state_of_row}
use Rattle.stp_happen.specs.declared.owners.Owner.{Owner}
use Rattle.stp_happen.specs.declared.run.Entry.{Entry}
use Rattle.stp_happen.specs.declared.run.Span.{Span}
use Rattle.stp_happen.specs.Plain.{PlainEntry}
use Rattle.stp_happen.specs.Sound.{IsRun, IsEntryInRange, IsSpanInRange}
use Rattle.stp_happen.specs.SoundOwned.{IsOwnedBox, IsOwner}
use Rattle.stp_happen.specs.Views.{entry_of, entries_of, spans_of, run_of}
use Rattle.stp_happen.specs.Boxes.{end_of, rest_of, entries_under, spans_under, run_under, IsVector}
use Rattle.stp_happen.specs.OwnerViews.{plain_owner, plain_owners}
use Rattle.stp_happen.specs.StepViews.{some_event_of}
use Rattle.stp_happen.specs.Orders.{HaveSameMembers, IsInSomeOrder}
use Rattle.stp_happen.specs.Times.{time_and_step, by_time_and_step}
use Rattle.stp_happen.proofs.OwnerSteps.{end_within}
use Rattle.stp_happen.proofs.Distinct.{AreLasting, sorted_entries_ascend, spans_ascend}

-- ---- last events come after their starts

lasting : (grid n : ℕ) (owners : List Owner) (ds : List ℕ) → All (IsOwner grid n) owners → IsVector (plain_owners owners) ds → AreLasting (plain_owners owners) ds
lasting grid n [] ds h v = tt
lasting grid n (o ∷ os) ds h v =
    let b = All-head (IsOwner grid n) o os h in
    let within = end_within (plain_owner o) b.ordered b.certain ds v.0 o.uncertain refl in
    let up : o.low ≤ end_of (plain_owner o) ds = within.0 in
    (λ first last. let l : o.start < o.low = b.lasting (λ e. first (ap some_event_of e)) (λ e. last (ap some_event_of e)) in omega arith, lasting grid n os (rest_of (plain_owner o) ds) (All-tail (IsOwner grid n) o os h) v.1)

-- ---- the parts that the run is made of

-- entries and spans of a box under durations, the entries then put in order
pub record AreParts (owners : List Owner) (ds : List ℕ) (es os : List Entry) (ss : List Span) : Type 0 where
  pub entries : entries_of es ≡ entries_under (plain_owners owners) ds
  pub spans : spans_of ss ≡ spans_under (plain_owners owners) ds
  pub moves : IsPermutation es os
  pub sorted : IsSortedByKey time_and_step by_time_and_step os
  pub entries_in_range : (grid n : ℕ) → All (IsOwner grid n) owners → All (IsEntryInRange grid n) es
  pub spans_in_range : (grid n : ℕ) → All (IsOwner grid n) owners → All (IsSpanInRange grid n) ss

same_members : (es os : List Entry) (ps : List PlainEntry) → entries_of es ≡ ps → IsPermutation es os → HaveSameMembers (entries_of os) ps
same_members es os ps e moves x =
    let there = IsPermutation-map entry_of es os moves in
    let back = IsPermutation-sym (entries_of es) (entries_of os) there in
    (λ i. subst (λ l. Contains l x) e (Contains-permutation (entries_of os) (entries_of es) x back i), λ i. Contains-permutation (entries_of es) (entries_of os) x there (subst (λ l. Contains l x) (sym e) i))

pub in_some_order : (owners : List Owner) (ds : List ℕ) (es os : List Entry) (ss : List Span) → AreParts owners ds es os ss → (row initial : List Bool) → row ≡ initial → (goal : Cond) →
    IsInSomeOrder (run_of os ss row goal) (run_under (record { owners = plain_owners owners; initial = state_of_row initial; goal = meaning_of goal }) ds)
in_some_order owners ds es os ss p row initial e goal = record {
  entries = same_members es os (entries_under (plain_owners owners) ds) p.entries p.moves;
  spans = p.spans;
  initial = ap state_of_row e;
  goal = refl;
}

pub run_is_sound : (grid : ℕ) (owners : List Owner) (initial : List Bool) (goal : Cond) → IsOwnedBox grid owners initial goal → (ds : List ℕ) → IsVector (plain_owners owners) ds →
    (es os : List Entry) (ss : List Span) → AreParts owners ds es os ss → (row : List Bool) → row ≡ initial → IsRun grid os ss row goal
run_is_sound grid owners initial goal b ds v es os ss p row e = subst (λ r. IsRun grid os ss r goal) (sym e) (record {
  grid_low = b.grid_low;
  grid_high = b.grid_high;
  entries_ordered = sorted_entries_ascend es os (plain_owners owners) ds p.entries b.numbered (lasting grid (length initial) owners ds b.owners_in_range v) p.moves p.sorted;
  spans_ordered = spans_ascend ss (plain_owners owners) ds p.spans b.in_order;
  entries_in_range = All-permutation (IsEntryInRange grid (length initial)) es os p.moves (p.entries_in_range grid (length initial) b.owners_in_range);
  spans_in_range = p.spans_in_range grid (length initial) b.owners_in_range;
  goal_in_range = b.goal_in_range;
})

-- the parts by what was read of the box's list of owners
pub parts_read : (read owners : List Owner) → read ≡ owners → (ds : List ℕ) (es os : List Entry) (ss : List Span) → AreParts read ds es os ss → AreParts owners ds es os ss
parts_read read owners e ds es os ss p = subst (λ l. AreParts l ds es os ss) e p
