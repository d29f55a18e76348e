-- Steps and events as owners: one more of each, what owners keep, and the box that they make.
use Rattle.std.proofs.Common.{◌≡◌, ℕ, ◌+◌, ◌<◌, ◌≤◌, Bool, not, List, [], ◌∷◌, ◌++◌, drop, filter, length, get_or, All, Option, Some, None, IfSome, refl, ap, ap₂, sym, ◌∙◌, subst, arith, append_assoc}
use Rattle.std.proofs.Math.Logic.{∥∥₁_elim}
use Rattle.std.proofs.Props.{props}
use Rattle.std.proofs.lemmas.List.{length-map}
use Rattle.std.proofs.lemmas.List.Filters.{length-filter_both}
use Rattle.stp_base.specs.declared.limits.TheConstants.{MAX_EVENTS, MAX_TIMED}
use Rattle.stp_cond.specs.declared.cond.Cond.{Cond}
use Rattle.stp_cond.specs.declared.event.Event.{Event}
use Rattle.stp_happen.specs.declared.boxes.BoxRun.{BoxRun}
use Rattle.stp_happen.specs.declared.boxes.BoxStep.{BoxStep}
use Rattle.stp_happen.specs.declared.boxes.BoxTimed.{BoxTimed}
use Rattle.stp_happen.specs.declared.owners.Owner.{Owner}
use Rattle.stp_happen.specs.SoundBox.{IsBox, IsBoxStep, IsBoxTimed}
use Rattle.stp_happen.specs.SoundOwned.{IsOwner, IsOwnedBox}
use Rattle.stp_happen.specs.Boxes.{PlainOwner, PlainBox}
use Rattle.stp_happen.specs.Owners.{PlainBoxTimed, step_owner, step_owners, timed_owner, number_after, timed_owners, owners_of, AreNumbered, AreInOrder}
use Rattle.stp_happen.specs.StepViews.{step_of, steps_of, plain_timed, timed_of}
use Rattle.stp_happen.specs.OwnerViews.{plain_owners}
use Rattle.stp_happen.proofs.Refining.{item_here}
use Rattle.stp_happen.proofs.OwnerLists.{owners_are_numbered, owners_are_in_order}

-- ---- what owners keep

some_is_not_none : {X : Type 0} (x : X) → Some x ≡ None → ⊥
some_is_not_none x e = cc

start_up : (s : BoxStep) (last : Option Event) → s.last ≡ last → IfSome last (λ e. s.start < s.low) → (s.last ≡ None → s.start ≡ s.low) → s.start ≤ s.low
start_up s None e lasting instant = omega (arith, instant e)
start_up s (Some x) e lasting instant = omega arith

lasts : (start low : ℕ) (last : Option Event) → IfSome last (λ e. start < low) → (last ≡ None → ⊥) → start < low
lasts start low None h some = absurd (some refl)
lasts start low (Some e) h some = h

pub step_owner_in_range : (grid n number : ℕ) (s : BoxStep) → IsBoxStep grid n s →
    let o : Owner = record { number = number; start = s.start; low = s.low; high = s.high; uncertain = s.uncertain; first = Some s.first; last = s.last; inside = Some (record { key = s.key; over = s.over }) } in IsOwner grid n o
step_owner_in_range grid n number s b = record {
  up = start_up s s.last refl b.lasting (λ e. (b.instant e).0);
  ordered = b.up;
  high = b.high;
  certain = b.certain;
  lasting = λ first last. lasts s.start s.low s.last b.lasting last;
  opened = λ first. absurd (some_is_not_none s.first first);
  begun = λ e. some_is_not_none s.first e;
  ended = λ last inside. some_is_not_none _ inside;
  first_in_range = b.first_in_range;
  last_in_range = b.last_in_range;
  over_in_range = b.over_in_range;
}

pub timed_owner_in_range : (grid n number : ℕ) (e : BoxTimed) → IsBoxTimed grid n e →
    let o : Owner = record { number = number; start = 0; low = e.low; high = e.high; uncertain = e.uncertain; first = None; last = Some e.event; inside = None } in IsOwner grid n o
timed_owner_in_range grid n number e b = record {
  up = omega arith;
  ordered = b.up;
  high = omega (arith, b.high);
  certain = b.certain;
  lasting = λ first last. absurd (first refl);
  opened = λ first. refl;
  begun = tt;
  ended = λ last inside. some_is_not_none e.event last;
  first_in_range = tt;
  last_in_range = b.event_in_range;
  over_in_range = tt;
}

-- ---- one more

pub step_more : (steps : List BoxStep) (i : ℕ) (s : BoxStep) → i < length steps → s ≡ get_or steps i s → (number : ℕ) (done new whole : List PlainOwner) →
    new ≡ done ++ step_owner number (step_of s) ∷ [] → done ++ step_owners number (steps_of (drop i steps)) ≡ whole → new ++ step_owners (number + 1) (steps_of (drop (i + 1) steps)) ≡ whole
step_more steps i s l e number done new whole more all =
    ap (λ os. os ++ step_owners (number + 1) (steps_of (drop (i + 1) steps))) more
    ∙ (append_assoc done (step_owner number (step_of s) ∷ []) (step_owners (number + 1) (steps_of (drop (i + 1) steps)))
    ∙ (ap (λ ss. done ++ step_owners number ss) (sym (item_here step_of steps i s l e)) ∙ all))

pub timed_more : (timed : List BoxTimed) (i : ℕ) (e : BoxTimed) → i < length timed → e ≡ get_or timed i e → (number : ℕ) (done new whole : List PlainOwner) →
    new ≡ done ++ timed_owner number (plain_timed e) ∷ [] → done ++ timed_owners number (timed_of (drop i timed)) ≡ whole → new ++ timed_owners (number_after number (plain_timed e)) (timed_of (drop (i + 1) timed)) ≡ whole
timed_more timed i e l is number done new whole more all =
    ap (λ os. os ++ timed_owners (number_after number (plain_timed e)) (timed_of (drop (i + 1) timed))) more
    ∙ (append_assoc done (timed_owner number (plain_timed e) ∷ []) (timed_owners (number_after number (plain_timed e)) (timed_of (drop (i + 1) timed)))
    ∙ (ap (λ es. done ++ timed_owners number es) (sym (item_here plain_timed timed i e l is)) ∙ all))

-- ---- few events

-- the events of a box, at fixed and at chosen moments
pub few_of_box : (boxed : BoxRun) (read : List BoxTimed) → read ≡ boxed.timed → length read ≤ MAX_TIMED + MAX_EVENTS
few_of_box boxed read e = ∥∥₁_elim boxed.sound (Prim.hlevel props) (λ b.
    let fixed : length (filter (λ (t : PlainBoxTimed). not t.uncertain) (timed_of boxed.timed)) ≤ MAX_TIMED = b.few_fixed in
    let chosen : length (filter (λ (t : PlainBoxTimed). t.uncertain) (timed_of boxed.timed)) ≤ MAX_EVENTS = b.few_chosen in
    omega (arith, ap length e, length-map boxed.timed plain_timed, length-filter_both (λ (t : PlainBoxTimed). t.uncertain) (λ (t : PlainBoxTimed). not t.uncertain) (λ t. refl) (timed_of boxed.timed)))

-- ---- the box

pub owned_is_sound : (grid : ℕ) (steps : List BoxStep) (timed : List BoxTimed) (initial row : List Bool) (goal : Cond) (owners : List Owner) → IsBox grid steps timed initial goal →
    plain_owners owners ≡ owners_of (steps_of steps) (timed_of timed) → ((n : ℕ) → All (IsBoxStep grid n) steps → All (IsBoxTimed grid n) timed → All (IsOwner grid n) owners) → row ≡ initial → IsOwnedBox grid owners row goal
owned_is_sound grid steps timed initial row goal owners b same keeps e = subst (λ r. IsOwnedBox grid owners r goal) (sym e) (record {
  grid_low = b.grid_low;
  grid_high = b.grid_high;
  owners_in_range = keeps (length initial) b.steps_in_range b.timed_in_range;
  numbered = subst AreNumbered (sym same) (owners_are_numbered (steps_of steps) (timed_of timed) b.timed_ordered);
  in_order = subst AreInOrder (sym same) (owners_are_in_order (steps_of steps) (timed_of timed));
  goal_in_range = b.goal_in_range;
})

-- the owners of the steps and then of the events, by what was read of the box's lists
pub owned_same : (read steps : List BoxStep) (seen timed : List BoxTimed) (owners news : List Owner) → plain_owners news ≡ plain_owners owners ++ timed_owners (length read + 1) (timed_of seen) →
    plain_owners owners ≡ step_owners 1 (steps_of read) → read ≡ steps → seen ≡ timed → plain_owners news ≡ owners_of (steps_of steps) (timed_of timed)
owned_same read steps seen timed owners news all first e f =
    all
    ∙ (ap (λ os. os ++ timed_owners (length read + 1) (timed_of seen)) first
    ∙ (ap₂ (λ ss es. step_owners 1 (steps_of ss) ++ timed_owners (length ss + 1) (timed_of es)) e f
    ∙ ap (λ n. step_owners 1 (steps_of steps) ++ timed_owners (n + 1) (timed_of timed)) (sym (length-map steps step_of))))

abbrev pub box_by : List PlainOwner → (ℕ → Bool) → ((ℕ → Bool) → Bool) → PlainBox
box_by owners initial goal = record { owners = owners; initial = initial; goal = goal }

pub owned_is_box : (owners others : List PlainOwner) (initial row : ℕ → Bool) (goal : (ℕ → Bool) → Bool) → owners ≡ others → row ≡ initial → box_by owners row goal ≡ box_by others initial goal
owned_is_box owners others initial row goal o r = ap₂ (λ x y. box_by x y goal) o r
