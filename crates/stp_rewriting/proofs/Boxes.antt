-- A box is strong exactly where its dated list is valid, and a box with an action that is left out is not strong.
use Rattle.std.proofs.Common.{◌≡◌, ℕ, Bool, false, [], Contains, Option, Some, None, inl, inr, sym, ◌∙◌, subst, ap, arith, true≢false, refl}
use Rattle.stp_cond.specs.Atoms.{PlainEvent}
use Rattle.stp_happen.specs.Plain.{Executes}
use Rattle.stp_happen.specs.Boxes.{PlainOwner, PlainBox}
use Rattle.stp_happen.proofs.Members.{each_of, here}
use Rattle.stp_window.specs.Windows.{Point, OpenSpan}
use Rattle.stp_window.specs.States.{certain_before, state_at}
use Rattle.stp_window.specs.OwnerWindows.{event_or_none, first_point, end_point, open_spans, windows_of, AreWellMade}
use Rattle.stp_window.proofs.Proper.{first_there, last_there, span_there, windows_proper}
use Rattle.stp_strength.specs.Facts.{IsFedAlways, IsSound}
use Rattle.stp_strength.proofs.Sound.{kept_at_every_moment}
use Rattle.stp_strength.proofs.Strong.{strong_exactly_where_sound}
use Rattle.stp_rewriting.specs.Dated.{key_among}
use Rattle.stp_rewriting.specs.Validity.{StrongExactlyWhereValid, HasNever, NeverLasts, IsNotKept, NotKeptIsNotStrong}
use Rattle.stp_rewriting.proofs.Owners.{runs_same, windows_fit}
use Rattle.stp_rewriting.proofs.Validity.{sound_exactly_where_valid}

pub strong_exactly_where_valid : StrongExactlyWhereValid
strong_exactly_where_valid r box numbers well fits =
    let strong = strong_exactly_where_sound box well in
    let valid = sound_exactly_where_valid r (key_among box.owners) (windows_of box) numbers (windows_proper box well) (windows_fit r box numbers well fits) in
    (λ h. subst Executes (runs_same r box numbers well fits) (valid.0 (strong.0 h)), λ h. strong.1 (valid.1 (subst Executes (sym (runs_same r box numbers well fits)) h)))

-- ---- actions that are left out

some_is_not_none : {X : Type 0} (o : Option X) (x : X) → o ≡ Some x → o ≡ None → ⊥
some_is_not_none o x e f = cc

module _ (box : PlainBox) (o : PlainOwner) (well : AreWellMade box.owners) (n : Contains box.owners o) (x : IsSound (windows_of box)) where
  never_fed : (p : Point) → Contains (windows_of box).points p → ((s : ℕ → Bool) → p.event.cond s ≡ false) → ⊥
  never_fed p i h = true≢false (sym (each_of (IsFedAlways (windows_of box)) (windows_of box).points x.fed p i) ∙ h (certain_before (windows_of box) p.low))

  never_event : (event : Option PlainEvent) → HasNever event → (s : ℕ → Bool) → (event_or_none event).cond s ≡ false
  never_event event (e, is, h) s = ap (λ y. (event_or_none y).cond s) is ∙ h s

  never_lasts : NeverLasts o → ⊥
  never_lasts (i, is, h, l) =
      let b = windows_of box in
      let s : OpenSpan = record { from = o.start; end = end_point o; key = i.key; over = i.over } in
      let there = span_there box.owners o s n (subst (λ y. Contains (open_spans o.start (end_point o) y) s) (sym is) (here s [])) in
      true≢false (sym (kept_at_every_moment (windows_of box) (windows_proper box well) x s there o.start (omega arith) l (λ p. false) refl) ∙ h (state_at (windows_of box) o.start (λ p. false)))

  by_place : IsNotKept o → ⊥
  by_place (inl h) = never_fed (first_point o) (first_there box.owners o n (some_is_not_none o.first h.0 h.1)) (never_event o.first h)
  by_place (inr (inl h)) = never_fed (end_point o) (last_there box.owners o n (some_is_not_none o.last h.0 h.1)) (never_event o.last h)
  by_place (inr (inr h)) = never_lasts h

pub not_kept_is_not_strong : NotKeptIsNotStrong
not_kept_is_not_strong box o well n h strong = by_place box o well n ((strong_exactly_where_sound box well).0 strong) h
