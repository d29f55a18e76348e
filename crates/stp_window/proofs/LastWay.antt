-- What is certain of an atom is the way of the writer whose window ends last.
use Rattle.std.proofs.Common.{◌≡◌, ℕ, ◌<◌, ◌≤◌, nat_le, Bool, true, false, ◌||◌, Contains, ◌⊎◌, inl, inr, refl, sym, ◌∙◌, arith}
use Rattle.std.proofs.lemmas.Bool.{leb-true, le-leb, cases_lt}
use Rattle.stp_cond.specs.Atoms.{has}
use Rattle.stp_happen.proofs.Members.{each_of, each_pair, and_left, and_right}
use Rattle.stp_window.specs.Windows.{Point, OpenSpan, WindowBox, IsProper, IsStarted, Meet}
use Rattle.stp_window.specs.Certain.{sets, DoNotClash, NoneClash, CertainIsTheLastWay, CertainIsInitial}
use Rattle.stp_window.proofs.LatestPoints.{AgreeOrApart, AgreeOrFollow, last_placed, none_placed}

-- ---- windows

pub ordered : (b : WindowBox) → IsProper b → (p : Point) → Contains b.points p → p.low ≤ p.high
ordered b proper p i = each_of (λ q. q.low ≤ q.high) b.points proper.ordered p i

pub started : (b : WindowBox) → IsProper b → (s : OpenSpan) → Contains b.spans s → IsStarted b.points s
started b proper s i = each_of (IsStarted b.points) b.spans proper.started s i

abbrev pub AreWindowsApart : Point → Point → Type 0
AreWindowsApart p q = (p.high < q.low) ⊎ (q.high < p.low)

pub meet_or_apart : (p q : Point) → Meet p q ⊎ AreWindowsApart p q
meet_or_apart p q = by_order p q (cases_lt p.high q.low) (cases_lt q.high p.low)
  where
    by_order : (p q : Point) → (p.high < q.low) ⊎ (q.low ≤ p.high) → (q.high < p.low) ⊎ (p.low ≤ q.high) → Meet p q ⊎ AreWindowsApart p q
    by_order p q (inl l) _ = inr (inl l)
    by_order p q (inr l) (inl k) = inr (inr k)
    by_order p q (inr l) (inr k) = inl (k, l)

-- ---- clashes

adds_of : (b c : Bool) → b ≡ false → (b || c) ≡ true → c ≡ true
adds_of b c e h = grind arith

-- two writers of an atom of which no opposite writers meet
pub agree_by_clash : (b : WindowBox) (a : ℕ) → NoneClash b a → (p q : Point) → Contains b.points p → Contains b.points q → sets p a ≡ true → sets q a ≡ true → AgreeOrApart a p q
agree_by_clash b a none p q i j s r = by_ways b a none p q i j s r (meet_or_apart p q) (has p.event.adds a) refl (has q.event.adds a) refl
  where
    by_ways : (b : WindowBox) (a : ℕ) → NoneClash b a → (p q : Point) → Contains b.points p → Contains b.points q → sets p a ≡ true → sets q a ≡ true → Meet p q ⊎ AreWindowsApart p q →
        (x : Bool) → has p.event.adds a ≡ x → (y : Bool) → has q.event.adds a ≡ y → AgreeOrApart a p q
    by_ways b a none p q i j s r (inr apart) x e y f = inr apart
    by_ways b a none p q i j s r (inl meet) true e true f = inl (e ∙ sym f)
    by_ways b a none p q i j s r (inl meet) false e false f = inl (e ∙ sym f)
    by_ways b a none p q i j s r (inl meet) true e false f = absurd (each_pair (DoNotClash a) b.points b.points none p q i j e f (adds_of (has q.event.adds a) (has q.event.dels a) f r) meet)
    by_ways b a none p q i j s r (inl meet) false e true f = absurd (each_pair (DoNotClash a) b.points b.points none q p j i f e (adds_of (has p.event.adds a) (has p.event.dels a) e s) (meet.1, meet.0))

-- by the ends of their windows
pub in_order : (a : ℕ) (p q : Point) → p.low ≤ p.high → q.low ≤ q.high → AgreeOrApart a p q → AgreeOrFollow (λ x. x.high) (λ x. x.high) a p q
in_order a p q l k (inl e) = inl e
in_order a p q l k (inr (inl h)) = inr (inl (omega arith, omega arith))
in_order a p q l k (inr (inr h)) = inr (inr (omega arith, omega arith))

-- ---- what is certain

last_or_same : (a : ℕ) (p q : Point) → p.low ≤ p.high → q.low ≤ q.high → q.high ≤ p.high → AgreeOrApart a q p → (has q.event.adds a ≡ has p.event.adds a) ⊎ (q.high < p.high)
last_or_same a p q l k h (inl e) = inl e
last_or_same a p q l k h (inr (inl x)) = inr (omega arith)
last_or_same a p q l k h (inr (inr x)) = absurd (omega arith)

pub certain_is_the_last_way : CertainIsTheLastWay
certain_is_the_last_way b proper a t none p w =
    last_placed b.initial b.points (λ q. q.high) (λ q. nat_le q.high t) a p w.there (le-leb p.high t w.ended) w.writes (λ q i h s.
    last_or_same a p q (ordered b proper p w.there) (ordered b proper q i) (w.last q i s (leb-true q.high t h)) (agree_by_clash b a none q p i w.there s w.writes))

pub certain_is_initial : CertainIsInitial
certain_is_initial b a t none = none_placed b.initial b.points (λ q. q.high) (λ q. nat_le q.high t) a (λ p i h. none p i (and_right (nat_le p.high t) (sets p a) h) (leb-true p.high t (and_left (nat_le p.high t) (sets p a) h)))
