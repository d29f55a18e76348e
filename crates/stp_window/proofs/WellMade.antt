-- Every box in an arena is well made.
use Rattle.std.proofs.Common.{◌≡◌, ℕ, ◌+◌, ◌==◌, eqb-true, ◌<◌, ◌≤◌, Bool, true, List, [], ◌∷◌, length, All, Contains, Option, Some, None, IfSome, inl, inr, refl, ap, sym, ◌∙◌, subst, arith}
use Rattle.std.proofs.Math.Logic.{∥∥₁_elim}
use Rattle.std.proofs.Props.{props}
use Rattle.std.proofs.lemmas.List.Elements.{Contains-append_cases}
use Rattle.stp_cond.specs.Atoms.{has, ReadsAlone}
use Rattle.stp_cond.specs.Views.{atoms_of}
use Rattle.stp_cond.specs.Events.{event_of}
use Rattle.stp_cond.specs.declared.event.Event.{Event}
use Rattle.stp_cond.proofs.Reading.{truth_reads_its_atoms}
use Rattle.stp_cond.proofs.ReadingAlone.{events_read_alone}
use Rattle.stp_happen.specs.declared.boxes.BoxStep.{BoxStep}
use Rattle.stp_happen.specs.declared.boxes.BoxTimed.{BoxTimed}
use Rattle.stp_happen.specs.declared.boxes.BoxRun.{BoxRun}
use Rattle.stp_happen.specs.declared.owners.Inside.{Inside}
use Rattle.stp_happen.specs.declared.owners.Owner.{Owner}
use Rattle.stp_happen.specs.declared.owners.OwnedBox.{OwnedBox}
use Rattle.stp_happen.specs.Boxes.{PlainOwner}
use Rattle.stp_happen.specs.Owners.{AreNumbered, step_owner, step_owners, timed_owner, timed_owners, owners_of}
use Rattle.stp_happen.specs.SoundBox.{IsBox, IsBoxStep, IsBoxTimed}
use Rattle.stp_happen.specs.SoundOwned.{IsOwner, IsOwnedBox}
use Rattle.stp_happen.specs.StepViews.{some_event_of, step_of, steps_of, plain_timed, timed_of}
use Rattle.stp_happen.specs.OwnerViews.{some_inside_of, plain_owner}
use Rattle.stp_happen.specs.OwnedViews.{plain_owned}
use Rattle.stp_happen.specs.BoxViews.{plain_box}
use Rattle.stp_happen.proofs.Members.{passing_member, each_of, all_of, all_mapped, mapped_member}
use Rattle.stp_happen.proofs.OwnerLists.{in_steps, in_timed, owners_are_numbered}
use Rattle.stp_window.specs.OwnerWindows.{IsWellMade, AreWellMade}
use Rattle.stp_window.specs.Boxed.{BoxesAreWellMade, BoxesHaveProperWindows, RunsAreWellMade}
use Rattle.stp_window.proofs.Proper.{windows_proper}

event_reads : (event : Option Event) → IfSome (some_event_of event) ReadsAlone
event_reads None = tt
event_reads (Some e) = events_read_alone e

no_event_left : (event : Option Event) → some_event_of event ≡ None → event ≡ None
no_event_left None h = refl
no_event_left (Some e) h = absurd (cc)

nothing_left : (inside : Option Inside) → some_inside_of inside ≡ None → inside ≡ None
nothing_left None h = refl
nothing_left (Some i) h = absurd (cc)

begun : (inside : Option Inside) (first : Option Event) → IfSome inside (λ i. first ≡ None → ⊥) → some_event_of first ≡ None → some_inside_of inside ≡ None
begun None first h e = refl
begun (Some i) first h e = absurd (h (no_event_left first e))

made : (grid n : ℕ) (o : Owner) → IsOwner grid n o → IsWellMade (plain_owner o)
made grid n o b = record {
  up = b.up;
  ordered = b.ordered;
  certain = b.certain;
  lasting = λ first last. b.lasting (λ e. first (ap some_event_of e)) (λ e. last (ap some_event_of e));
  begun = begun o.inside o.first b.begun;
  ended = λ last inside. b.ended (no_event_left o.last last) (nothing_left o.inside inside);
  first_reads = event_reads o.first;
  last_reads = event_reads o.last;
}

pub made_of_box : (boxed : OwnedBox) → IsOwnedBox boxed.grid boxed.owners boxed.initial boxed.goal.now → AreWellMade (plain_owned boxed).owners
made_of_box boxed b = record {
  each = all_mapped plain_owner IsWellMade boxed.owners (λ o i. made boxed.grid (length boxed.initial) o (each_of (IsOwner boxed.grid (length boxed.initial)) boxed.owners b.owners_in_range o i));
  numbered = b.numbered;
}

numbered_prop : (owners : List PlainOwner) → IsProp (AreNumbered owners)
numbered_prop [] = Prim.hlevel props
numbered_prop (x ∷ xs) = let rest : IsProp (AreNumbered xs) = numbered_prop xs in Prim.hlevel (props, rest)

made_prop : (owners : List PlainOwner) → IsProp (AreWellMade owners)
made_prop owners = let numbered : IsProp (AreNumbered owners) = numbered_prop owners in Prim.hlevel (props, numbered)

pub boxes_are_well_made : BoxesAreWellMade
boxes_are_well_made boxed = ∥∥₁_elim boxed.sound (made_prop (plain_owned boxed).owners) (made_of_box boxed)

pub boxes_have_proper_windows : BoxesHaveProperWindows
boxes_have_proper_windows boxed = windows_proper (plain_owned boxed) (boxes_are_well_made boxed)

-- ---- steps and events

some_is_not_none : {X : Type 0} (x : X) → Some x ≡ None → ⊥
some_is_not_none x e = cc

starts_by_low : (last : Option Event) (start low : ℕ) → IfSome last (λ e. start < low) → (last ≡ None → start ≡ low) → start ≤ low
starts_by_low None start low h k = let e : start ≡ low = k refl in omega arith
starts_by_low (Some e) start low h k = omega arith

starts_before : (last : Option Event) (start low : ℕ) → IfSome last (λ e. start < low) → (some_event_of last ≡ None → ⊥) → start < low
starts_before None start low h some = absurd (some refl)
starts_before (Some e) start low h some = h

made_step : (grid n number : ℕ) (s : BoxStep) → IsBoxStep grid n s → IsWellMade (step_owner number (step_of s))
made_step grid n number s b = record {
  up = starts_by_low s.last s.start s.low b.lasting (λ e. (b.instant e).0);
  ordered = b.up;
  certain = b.certain;
  lasting = λ first last. starts_before s.last s.start s.low b.lasting last;
  begun = λ e. absurd (some_is_not_none (event_of s.first) e);
  ended = λ last inside. some_is_not_none _ inside;
  first_reads = events_read_alone s.first;
  last_reads = event_reads s.last;
}

made_timed : (grid n number : ℕ) (e : BoxTimed) → IsBoxTimed grid n e → IsWellMade (timed_owner number (plain_timed e))
made_timed grid n number e b = record {
  up = omega arith;
  ordered = b.up;
  certain = b.certain;
  lasting = λ first last. absurd (first refl);
  begun = λ f. refl;
  ended = λ last inside. some_is_not_none (event_of e.event) last;
  first_reads = tt;
  last_reads = events_read_alone e.event;
}

made_owner : (boxed : BoxRun) → IsBox boxed.grid boxed.steps boxed.timed boxed.initial boxed.goal.now → (o : PlainOwner) → Contains (owners_of (steps_of boxed.steps) (timed_of boxed.timed)) o → IsWellMade o
made_owner boxed b o i = elim (Contains-append_cases (step_owners 1 (steps_of boxed.steps)) (timed_owners (length (steps_of boxed.steps) + 1) (timed_of boxed.timed)) o i) [
  | inl j ↦
      let r = in_steps 1 (steps_of boxed.steps) o j in
      let x = mapped_member step_of boxed.steps r.s r.member in
      subst IsWellMade (sym r.is) (subst (λ s. IsWellMade (step_owner r.m s)) x.2 (made_step boxed.grid (length boxed.initial) r.m x.0 (each_of (IsBoxStep boxed.grid (length boxed.initial)) boxed.steps b.steps_in_range x.0 x.1)))
  | inr j ↦
      let r = in_timed (length (steps_of boxed.steps) + 1) (timed_of boxed.timed) o j in
      let x = mapped_member plain_timed boxed.timed r.e r.member in
      subst IsWellMade (sym r.is) (subst (λ e. IsWellMade (timed_owner r.m e)) x.2 (made_timed boxed.grid (length boxed.initial) r.m x.0 (each_of (IsBoxTimed boxed.grid (length boxed.initial)) boxed.timed b.timed_in_range x.0 x.1)))
]

pub runs_are_well_made : RunsAreWellMade
runs_are_well_made boxed = ∥∥₁_elim boxed.sound (made_prop (plain_box boxed).owners) (λ b. record {
  each = all_of IsWellMade (plain_box boxed).owners (made_owner boxed b);
  numbered = owners_are_numbered (steps_of boxed.steps) (timed_of boxed.timed) b.timed_ordered;
})
