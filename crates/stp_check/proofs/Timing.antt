-- Durations, owner by owner, and that each choice gives a vector.
use Rattle.std.proofs.Common.{◌≡◌, ℕ, ◌+◌, ◌-◌, ◌<◌, ◌≤◌, ◌==◌, Bool, true, false, cond, List, [], ◌∷◌, ◌++◌, drop, length, get_or, All, refl, ap, sym, ◌∙◌, subst, arith, append_assoc}
use Rattle.std.specs.List.{list_any}
use Rattle.std.proofs.lemmas.List.Elements.{All-get_or}
use Rattle.stp_base.specs.declared.ids.StepId.{StepId}
use Rattle.stp_cond.specs.Atoms.{has}
use Rattle.stp_happen.specs.Boxes.{PlainOwner}
use Rattle.stp_happen.specs.OwnerViews.{plain_owner, plain_owners}
use Rattle.stp_happen.proofs.Members.{any_alike, all_of, of_mapped}
use Rattle.stp_happen.proofs.OwnerSteps.{fact_at}
use Rattle.stp_window.specs.OwnerWindows.{IsWellMade, end_point}
use Rattle.stp_window.specs.Windows.{Point, WindowBox, IsInWindow, IsChoice, IsProper}
use Rattle.stp_window.proofs.LastWay.{ordered, started}
use Rattle.stp_window.proofs.OwnerLoops.{owner_more}
use Rattle.stp_window.proofs.WellMade.{boxes_are_well_made}
use Rattle.stp_strength.specs.Choices.{nearest}
use Rattle.stp_strength.specs.Failures.{of_steps}
use Rattle.stp_strength.specs.Vectors.{vector_from}
use Rattle.stp_strength.proofs.Sound.{near_window}
use Rattle.stp_check.specs.Choices.{near_to, moment_of, GoesUp}
use Rattle.stp_check.specs.Late.{numbers_of}
use Rattle.stp_happen.specs.declared.owners.Owner.{Owner}
use Rattle.stp_happen.specs.declared.owners.OwnedBox.{OwnedBox}
use Rattle.stp_check.specs.declared.choices.Choice.{Choice}
use Rattle.stp_check.specs.declared.choices.Choice.TheVariants.{After, Near}

-- ---- whether a step is among these

among_is_has : (steps : List StepId) (n : ℕ) → list_any (λ s. s.0 == n) steps ≡ has (numbers_of steps) n
among_is_has steps n = sym (any_alike (λ (s : StepId). s.0) (λ m. m == n) (λ s. s.0 == n) steps (λ s i. refl))

pub at_near : (steps : List StepId) (t : ℕ) (p : Point) (b : Bool) → b ≡ list_any (λ s. s.0 == p.step) steps → cond b (nearest t p) p.low ≡ near_to (numbers_of steps) t p
at_near steps t p b e = ap (λ x. cond x (nearest t p) p.low) (e ∙ among_is_has steps p.step)

-- ---- owner by owner

-- the first owner, and the rest
first_owner : (moment : Point → ℕ) (o : PlainOwner) (os : List PlainOwner) → vector_from moment (o ∷ os) ≡ vector_from moment (o ∷ []) ++ vector_from moment os
first_owner moment o os = by_test (moment (end_point o) - o.start) (vector_from moment os) o.uncertain
  where
    by_test : (x : ℕ) (xs : List ℕ) (b : Bool) → cond b (x ∷ xs) xs ≡ cond b (x ∷ []) [] ++ xs
    by_test x xs true = refl
    by_test x xs false = refl

pub one_more : (owners : List Owner) (i : ℕ) (o : Owner) → i < length owners → o ≡ get_or owners i o → (moment : Point → ℕ) (ds new whole : List ℕ) →
    new ≡ ds ++ vector_from moment (plain_owner o ∷ []) → ds ++ vector_from moment (plain_owners (drop i owners)) ≡ whole → new ++ vector_from moment (plain_owners (drop (i + 1) owners)) ≡ whole
one_more owners i o l e moment = owner_more (λ p. vector_from moment (p ∷ [])) (vector_from moment) (first_owner moment) owners i o l e

pub owner_goes_up : (owners : List Owner) (i : ℕ) (o : Owner) → i < length owners → o ≡ get_or owners i o → All GoesUp owners → GoesUp o
owner_goes_up owners i o l e h = fact_at GoesUp owners i o l e h

pub box_goes_up : (boxed : OwnedBox) → All GoesUp boxed.owners
box_goes_up boxed = all_of GoesUp boxed.owners (λ o i. let m = of_mapped plain_owner IsWellMade boxed.owners (boxes_are_well_made boxed).each o i in (m.up, m.ordered))

-- ---- each choice is one of the windows

near_to_window : (steps : List ℕ) (t : ℕ) (p : Point) → p.low ≤ p.high → IsInWindow (near_to steps t) p
near_to_window steps t p l = by_test (of_steps steps p) p.low p.high (nearest t p) l (near_window t p l)
  where
    by_test : (b : Bool) (m n x : ℕ) → m ≤ n → (m ≤ x) × (x ≤ n) → (m ≤ cond b x m) × (cond b x m ≤ n)
    by_test true m n x l h = h
    by_test false m n x l h = (omega arith, l)

choice_of_windows : (b : WindowBox) → IsProper b → (moment : Point → ℕ) → ((p : Point) → p.low ≤ p.high → IsInWindow moment p) → IsChoice b moment
choice_of_windows b proper moment inside = (
  all_of (IsInWindow moment) b.points (λ p i. inside p (ordered b proper p i)),
  all_of (λ s. IsInWindow moment s.end) b.spans (λ s i. inside s.end (started b proper s i).1),
)

pub near_to_is_choice : (b : WindowBox) → IsProper b → (steps : List ℕ) (t : ℕ) → IsChoice b (near_to steps t)
near_to_is_choice b proper steps t = choice_of_windows b proper (near_to steps t) (near_to_window steps t)

pub moment_is_choice : (b : WindowBox) → IsProper b → (choice : Choice) → IsChoice b (moment_of choice)
moment_is_choice b proper (After steps t) = near_to_is_choice b proper (numbers_of steps.now) (t + 1)
moment_is_choice b proper (Near steps t) = near_to_is_choice b proper (numbers_of steps.now) t
