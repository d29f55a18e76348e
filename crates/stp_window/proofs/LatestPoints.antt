-- What points that are placed at moments leave at an atom.
use Rattle.std.proofs.Common.{◌≡◌, ℕ, ◌<◌, ◌≤◌, Bool, true, ◌&&◌, List, map, filter, Contains, ◌⊎◌, inl, inr, sym, ◌∙◌, subst, arith}
use Rattle.stp_cond.specs.Atoms.{has}
use Rattle.stp_happen.specs.Plain.{PlainEntry, writes, state_after}
use Rattle.stp_happen.proofs.Members.{and_left, and_right, and_both, member_map, mapped_member, kept_member, member_of_kept}
use Rattle.stp_happen.proofs.Tops.{IsTop, NonePasses, top}
use Rattle.stp_happen.proofs.LatestWay.{no_writer, latest_way}
use Rattle.stp_window.specs.Windows.{Point, entry_at, IsInWindow}
use Rattle.stp_window.specs.Certain.{sets}

abbrev pub InOrder : (Point → ℕ) → (Point → ℕ) → Point → Point → Type 0
InOrder v w p q = ((v p < v q) × (w p < w q)) ⊎ ((v q < v p) × (w q < w p))

-- two points write an atom the same way, or come in one order both times
abbrev pub AgreeOrFollow : (Point → ℕ) → (Point → ℕ) → ℕ → Point → Point → Type 0
AgreeOrFollow v w a p q = (has p.event.adds a ≡ has q.event.adds a) ⊎ InOrder v w p q

placed_point : (v : Point → ℕ) (ps : List Point) (c : Point → Bool) (e : PlainEntry) → Contains (map (entry_at v) (filter c ps)) e → (p : Point) × Contains ps p × (c p ≡ true) × (entry_at v p ≡ e)
placed_point v ps c e i =
    let r = mapped_member (entry_at v) (filter c ps) e i in
    let k = member_of_kept c ps r.0 r.1 in
    (r.0, k.0, k.1, r.2)

pub placed : (v : Point → ℕ) (ps : List Point) (c : Point → Bool) (p : Point) → Contains ps p → c p ≡ true → Contains (map (entry_at v) (filter c ps)) (entry_at v p)
placed v ps c p i h = member_map (entry_at v) (filter c ps) p (kept_member c ps p i h)

-- what points leave where none that has come writes the atom
pub none_placed : (initial : ℕ → Bool) (ps : List Point) (v : Point → ℕ) (c : Point → Bool) (a : ℕ) → NonePasses (λ p. c p && sets p a) ps → state_after initial (map (entry_at v) (filter c ps)) a ≡ initial a
none_placed initial ps v c a none = no_writer initial (map (entry_at v) (filter c ps)) a (λ e i w.
    let r = placed_point v ps c e i in
    none r.0 r.1 (and_both (c r.0) (sets r.0 a) r.2 (subst (λ o. writes o a ≡ true) (sym r.3) w)))

-- what points leave where each other writer of the atom that has come writes it the same way, or comes before
pub last_placed : (initial : ℕ → Bool) (ps : List Point) (v : Point → ℕ) (c : Point → Bool) (a : ℕ) (m : Point) → Contains ps m → c m ≡ true → sets m a ≡ true →
    ((p : Point) → Contains ps p → c p ≡ true → sets p a ≡ true → (has p.event.adds a ≡ has m.event.adds a) ⊎ (v p < v m)) →
    state_after initial (map (entry_at v) (filter c ps)) a ≡ has m.event.adds a
last_placed initial ps v c a m i h w last =
    latest_way initial (map (entry_at v) (filter c ps)) a (entry_at v m) (placed v ps c m i h) w (λ e j x.
    let r = placed_point v ps c e j in
    subst (λ o. (has o.event.adds a ≡ has m.event.adds a) ⊎ (o.time < v m)) r.3 (last r.0 r.1 r.2 (subst (λ o. writes o a ≡ true) (sym r.3) x)))

-- What points leave at an atom depends only on which of its writers have come, where writers of opposite
-- ways come in one order.
pub placed_alike : (initial : ℕ → Bool) (ps : List Point) (v w : Point → ℕ) (c d : Point → Bool) (a : ℕ) →
    ((p : Point) → Contains ps p → sets p a ≡ true → c p ≡ d p) →
    ((p q : Point) → Contains ps p → Contains ps q → sets p a ≡ true → sets q a ≡ true → AgreeOrFollow v w a p q) →
    state_after initial (map (entry_at v) (filter c ps)) a ≡ state_after initial (map (entry_at w) (filter d ps)) a
placed_alike initial ps v w c d a same order = by_top initial ps v w c d a same order (top v (λ p. c p && sets p a) ps)
  where
    earlier : (v w : Point → ℕ) (a : ℕ) (p m : Point) → v p ≤ v m → AgreeOrFollow v w a p m → (has p.event.adds a ≡ has m.event.adds a) ⊎ ((v p < v m) × (w p < w m))
    earlier v w a p m l (inl e) = inl e
    earlier v w a p m l (inr (inl h)) = inr h
    earlier v w a p m l (inr (inr h)) = absurd (omega arith)

    first_way : (v w : Point → ℕ) (a : ℕ) (p m : Point) → (has p.event.adds a ≡ has m.event.adds a) ⊎ ((v p < v m) × (w p < w m)) → (has p.event.adds a ≡ has m.event.adds a) ⊎ (v p < v m)
    first_way v w a p m (inl e) = inl e
    first_way v w a p m (inr h) = inr h.0

    second_way : (v w : Point → ℕ) (a : ℕ) (p m : Point) → (has p.event.adds a ≡ has m.event.adds a) ⊎ ((v p < v m) × (w p < w m)) → (has p.event.adds a ≡ has m.event.adds a) ⊎ (w p < w m)
    second_way v w a p m (inl e) = inl e
    second_way v w a p m (inr h) = inr h.1

    by_top : (initial : ℕ → Bool) (ps : List Point) (v w : Point → ℕ) (c d : Point → Bool) (a : ℕ) →
        ((p : Point) → Contains ps p → sets p a ≡ true → c p ≡ d p) →
        ((p q : Point) → Contains ps p → Contains ps q → sets p a ≡ true → sets q a ≡ true → AgreeOrFollow v w a p q) →
        NonePasses (λ p. c p && sets p a) ps ⊎ ((m : Point) × IsTop v (λ p. c p && sets p a) ps m) →
        state_after initial (map (entry_at v) (filter c ps)) a ≡ state_after initial (map (entry_at w) (filter d ps)) a
    by_top initial ps v w c d a same order (inl none) =
        none_placed initial ps v c a none
        ∙ sym (none_placed initial ps w d a (λ p i h.
        let s : sets p a ≡ true = and_right (d p) (sets p a) h in
        none p i (and_both (c p) (sets p a) (same p i s ∙ and_left (d p) (sets p a) h) s)))
    by_top initial ps v w c d a same order (inr (m, t)) =
        let cm : c m ≡ true = and_left (c m) (sets m a) t.passes in
        let sm : sets m a ≡ true = and_right (c m) (sets m a) t.passes in
        let near : (p : Point) → Contains ps p → c p ≡ true → sets p a ≡ true → (has p.event.adds a ≡ has m.event.adds a) ⊎ ((v p < v m) × (w p < w m)) =
        λ p i h s. earlier v w a p m (t.most p i (and_both (c p) (sets p a) h s)) (order p m i t.there s sm) in
        last_placed initial ps v c a m t.there cm sm (λ p i h s. first_way v w a p m (near p i h s))
        ∙ sym (last_placed initial ps w d a m t.there (sym (same m t.there sm) ∙ cm) sm (λ p i h s. second_way v w a p m (near p i (same p i s ∙ h) s)))

-- two points write an atom the same way, or have windows apart
abbrev pub AgreeOrApart : ℕ → Point → Point → Type 0
AgreeOrApart a p q = (has p.event.adds a ≡ has q.event.adds a) ⊎ ((p.high < q.low) ⊎ (q.high < p.low))

-- the same where all moments are of the windows, and windows of opposite writers are apart
pub same_left : (initial : ℕ → Bool) (ps : List Point) (v w : Point → ℕ) (c d : Point → Bool) (a : ℕ) →
    ((p : Point) → Contains ps p → IsInWindow v p) → ((p : Point) → Contains ps p → IsInWindow w p) →
    ((p : Point) → Contains ps p → sets p a ≡ true → c p ≡ d p) →
    ((p q : Point) → Contains ps p → Contains ps q → sets p a ≡ true → sets q a ≡ true → AgreeOrApart a p q) →
    state_after initial (map (entry_at v) (filter c ps)) a ≡ state_after initial (map (entry_at w) (filter d ps)) a
same_left initial ps v w c d a in_v in_w same apart = placed_alike initial ps v w c d a same (λ p q i j s r. by_windows v w a p q (in_v p i) (in_v q j) (in_w p i) (in_w q j) (apart p q i j s r))
  where
    by_windows : (v w : Point → ℕ) (a : ℕ) (p q : Point) → IsInWindow v p → IsInWindow v q → IsInWindow w p → IsInWindow w q → AgreeOrApart a p q → AgreeOrFollow v w a p q
    by_windows v w a p q vp vq wp wq (inl e) = inl e
    by_windows v w a p q vp vq wp wq (inr (inl l)) = inr (inl (omega arith, omega arith))
    by_windows v w a p q vp vq wp wq (inr (inr l)) = inr (inr (omega arith, omega arith))
