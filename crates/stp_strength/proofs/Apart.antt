-- In a box where points whose windows meet do not interfere, the windows of points that interfere are apart.
use Rattle.std.proofs.Common.{◌≡◌, ℕ, ◌<◌, Bool, true, false, ◌||◌, All, Contains, ◌⊎◌, inl, inr, refl, ap, sym, ◌∙◌, arith, true≢false}
use Rattle.stp_cond.specs.Atoms.{has, interfere}
use Rattle.stp_happen.proofs.Members.{each_pair}
use Rattle.stp_happen.proofs.Interfering.{interfere_turned, ways_interfere}
use Rattle.stp_window.specs.Windows.{Point, WindowBox, Meet, ArePartedIfOne, IsProper}
use Rattle.stp_window.specs.Certain.{sets}
use Rattle.stp_window.proofs.LatestPoints.{AgreeOrApart}
use Rattle.stp_window.proofs.LastWay.{AreWindowsApart, meet_or_apart}
use Rattle.stp_strength.specs.Facts.{StayCalm}

abbrev pub AreCalm : WindowBox → Type 0
AreCalm b = All (λ p. All (StayCalm p) b.points) b.points

pub three_ways : (m n : ℕ) → (m < n) ⊎ ((n < m) ⊎ (m ≡ n))
three_ways m n = grind arith

pub apart_if_interfering : (b : WindowBox) → IsProper b → AreCalm b → (p q : Point) → Contains b.points p → Contains b.points q → interfere p.event q.event ≡ true → (p ≡ q) ⊎ AreWindowsApart p q
apart_if_interfering b proper calm p q i j h = by_steps b proper calm p q i j h (meet_or_apart p q) (three_ways p.step q.step)
  where
    by_steps : (b : WindowBox) → IsProper b → AreCalm b → (p q : Point) → Contains b.points p → Contains b.points q → interfere p.event q.event ≡ true → Meet p q ⊎ AreWindowsApart p q →
        (p.step < q.step) ⊎ ((q.step < p.step) ⊎ (p.step ≡ q.step)) → (p ≡ q) ⊎ AreWindowsApart p q
    by_steps b proper calm p q i j h (inr apart) _ = inr apart
    by_steps b proper calm p q i j h (inl meet) (inl l) = absurd (true≢false (sym h ∙ each_pair StayCalm b.points b.points calm p q i j l meet))
    by_steps b proper calm p q i j h (inl meet) (inr (inl l)) =
        absurd (true≢false (sym h ∙ (interfere_turned p.event q.event ∙ each_pair StayCalm b.points b.points calm q p j i l (meet.1, meet.0))))
    by_steps b proper calm p q i j h (inl meet) (inr (inr e)) = inl (each_pair ArePartedIfOne b.points b.points proper.parted p q i j e meet)

-- of two that write an atom, and not the same way, the one adds and the other deletes it
pub agree_or_apart : (b : WindowBox) → IsProper b → AreCalm b → (a : ℕ) (p q : Point) → Contains b.points p → Contains b.points q → sets p a ≡ true → sets q a ≡ true → AgreeOrApart a p q
agree_or_apart b proper calm a p q i j s r = by_ways b proper calm a p q i j s r (has p.event.adds a) refl (has q.event.adds a) refl
  where
    told : (b : WindowBox) (a : ℕ) (p q : Point) → (p ≡ q) ⊎ AreWindowsApart p q → AgreeOrApart a p q
    told b a p q (inl e) = inl (ap (λ (x : Point). has x.event.adds a) e)
    told b a p q (inr h) = inr h

    deletes : (b c : Bool) → b ≡ false → (b || c) ≡ true → c ≡ true
    deletes b c e h = grind arith

    by_ways : (b : WindowBox) → IsProper b → AreCalm b → (a : ℕ) (p q : Point) → Contains b.points p → Contains b.points q → sets p a ≡ true → sets q a ≡ true →
        (x : Bool) → has p.event.adds a ≡ x → (y : Bool) → has q.event.adds a ≡ y → AgreeOrApart a p q
    by_ways b proper calm a p q i j s r true e true f = inl (e ∙ sym f)
    by_ways b proper calm a p q i j s r false e false f = inl (e ∙ sym f)
    by_ways b proper calm a p q i j s r true e false f =
        told b a p q (apart_if_interfering b proper calm p q i j (ways_interfere p.event q.event a e (deletes (has q.event.adds a) (has q.event.dels a) f r)).0)
    by_ways b proper calm a p q i j s r false e true f =
        told b a p q (apart_if_interfering b proper calm p q i j (ways_interfere q.event p.event a f (deletes (has p.event.adds a) (has p.event.dels a) e s)).1)
