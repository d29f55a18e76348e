-- The state at a moment by parts.
use Rattle.std.proofs.Common.{◌≡◌, ℕ, ◌<◌, ◌≤◌, nat_lt, nat_le, Bool, true, false, ◌&&◌, ◌||◌, cond, Contains, ◌⊎◌, inl, inr, sym, ◌∙◌, arith, true≢false, refl}
use Rattle.std.specs.List.{list_any}
use Rattle.std.proofs.lemmas.Bool.{cases_Bool}
use Rattle.std.proofs.lemmas.Bool.Decides.{nat_tests}
use Rattle.stp_cond.specs.Atoms.{has}
use Rattle.stp_happen.proofs.Members.{all_pairs, same_tests, and_left, and_right, and_both, passing_member, any_passes}
use Rattle.stp_window.specs.Windows.{Point, WindowBox, IsProper, Meet, is_unsettled}
use Rattle.stp_window.specs.States.{certain, came_by, state_at}
use Rattle.stp_window.specs.Certain.{sets, DoNotClash, NoneClash}
use Rattle.stp_window.proofs.LatestPoints.{AgreeOrApart, last_placed, placed_alike}
use Rattle.stp_window.proofs.LastWay.{ordered, agree_by_clash, in_order}
use Rattle.stp_strength.specs.Parts.{CalmBoxesDoNotClash, StatesGoByParts}
use Rattle.stp_strength.proofs.Apart.{agree_or_apart}
use Rattle.stp_strength.proofs.Gaps.{calm_facts, unsettled_told}

-- ---- clashes

sets_by_adding : (p : Point) (a : ℕ) → has p.event.adds a ≡ true → sets p a ≡ true
sets_by_adding p a h = by (has p.event.adds a) (has p.event.dels a) h
  where
    by : (b c : Bool) → b ≡ true → (b || c) ≡ true
    by b c h = grind arith

sets_by_deleting : (p : Point) (a : ℕ) → has p.event.dels a ≡ true → sets p a ≡ true
sets_by_deleting p a h = by (has p.event.adds a) (has p.event.dels a) h
  where
    by : (b c : Bool) → c ≡ true → (b || c) ≡ true
    by b c h = grind arith

pub calm_boxes_do_not_clash : CalmBoxesDoNotClash
calm_boxes_do_not_clash b proper calm a = all_pairs (DoNotClash a) b.points b.points (λ p q i j adds keeps dels meet.
    clash a p q adds keeps meet (agree_or_apart b proper (calm_facts b calm) a p q i j (sets_by_adding p a adds) (sets_by_deleting q a dels)))
  where
    clash : (a : ℕ) (p q : Point) → has p.event.adds a ≡ true → has q.event.adds a ≡ false → Meet p q → AgreeOrApart a p q → ⊥
    clash a p q adds keeps meet (inl e) = true≢false (sym adds ∙ (e ∙ keeps))
    clash a p q adds keeps meet (inr (inl l)) = omega arith
    clash a p q adds keeps meet (inr (inr l)) = omega arith

-- ---- what is unsettled

came_told : (t : ℕ) (chosen : Point → Bool) (p : Point) → p.low ≤ p.high → came_by t chosen p ≡ true → p.low ≤ t
came_told t chosen p l h = by_numbers t p.low p.high (chosen p) l h
  where
    by_numbers : (t a b : ℕ) (x : Bool) → a ≤ b → (nat_le b t || (x && nat_le a t)) ≡ true → a ≤ t
    by_numbers t a b true l h = grind (arith, nat_tests)
    by_numbers t a b false l h = grind (arith, nat_tests)

came_if_chosen : (t : ℕ) (chosen : Point → Bool) (p : Point) → chosen p ≡ true → p.low ≤ t → came_by t chosen p ≡ true
came_if_chosen t chosen p h l = by_numbers t p.low p.high (chosen p) h l
  where
    by_numbers : (t a b : ℕ) (x : Bool) → x ≡ true → a ≤ t → (nat_le b t || (x && nat_le a t)) ≡ true
    by_numbers t a b true h l = grind (arith, nat_tests)
    by_numbers t a b false h l = absurd (true≢false (sym h))

came_if_not_chosen : (t : ℕ) (chosen : Point → Bool) (p : Point) → p.low ≤ p.high → (chosen p && is_unsettled t p) ≡ false → came_by t chosen p ≡ nat_le p.high t
came_if_not_chosen t chosen p l h = by_numbers t p.low p.high (chosen p) l h
  where
    by_numbers : (t a b : ℕ) (x : Bool) → a ≤ b → (x && (nat_le a t && nat_lt t b)) ≡ false → (nat_le b t || (x && nat_le a t)) ≡ nat_le b t
    by_numbers t a b true l h = grind (arith, nat_tests)
    by_numbers t a b false l h = grind (arith, nat_tests)

-- a chosen unsettled writer that has come is the last
after_others : (a t : ℕ) (chosen : Point → Bool) (p m : Point) → p.low ≤ p.high → (m.low ≤ t) × (t < m.high) → p.low ≤ t → AgreeOrApart a p m → (has p.event.adds a ≡ has m.event.adds a) ⊎ (p.high < m.high)
after_others a t chosen p m l u h (inl e) = inl e
after_others a t chosen p m l u h (inr (inl x)) = inr (omega arith)
after_others a t chosen p m l u h (inr (inr x)) = absurd (omega arith)

meeting_agree : (a t : ℕ) (p q : Point) → (p.low ≤ t) × (t < p.high) → (q.low ≤ t) × (t < q.high) → AgreeOrApart a p q → has p.event.adds a ≡ has q.event.adds a
meeting_agree a t p q u v (inl e) = e
meeting_agree a t p q u v (inr (inl x)) = absurd (omega arith)
meeting_agree a t p q u v (inr (inr x)) = absurd (omega arith)

-- unsettled writers of an atom write it the same way
pub unsettled_agree : (b : WindowBox) (a : ℕ) → NoneClash b a → (t : ℕ) (p q : Point) → Contains b.points p → Contains b.points q → is_unsettled t p ≡ true → is_unsettled t q ≡ true → sets p a ≡ true → sets q a ≡ true →
    has p.event.adds a ≡ has q.event.adds a
unsettled_agree b a none t p q i j u v s r = meeting_agree a t p q (unsettled_told t p u) (unsettled_told t q v) (agree_by_clash b a none p q i j s r)

abbrev pub is_chosen_writer : ℕ → (Point → Bool) → ℕ → Point → Bool
is_chosen_writer t chosen a p = (chosen p && is_unsettled t p) && sets p a

abbrev pub is_chosen_adder : ℕ → (Point → Bool) → ℕ → Point → Bool
is_chosen_adder t chosen a p = (chosen p && is_unsettled t p) && has p.event.adds a

-- whether some chosen unsettled point adds the atom, where one writes it
pub adder_of_writer : (b : WindowBox) (a : ℕ) → NoneClash b a → (t : ℕ) (chosen : Point → Bool) (m : Point) → Contains b.points m → is_chosen_writer t chosen a m ≡ true →
    list_any (is_chosen_adder t chosen a) b.points ≡ has m.event.adds a
adder_of_writer b a none t chosen m i h =
    let open_m = and_left (chosen m && is_unsettled t m) (sets m a) h in
    same_tests (list_any (is_chosen_adder t chosen a) b.points) (has m.event.adds a)
    (λ e.
    let r = passing_member (is_chosen_adder t chosen a) b.points e in
    let begun = and_left (chosen r.0 && is_unsettled t r.0) (has r.0.event.adds a) r.2 in
    let adds = and_right (chosen r.0 && is_unsettled t r.0) (has r.0.event.adds a) r.2 in
    sym (unsettled_agree b a none t r.0 m r.1 i (and_right (chosen r.0) (is_unsettled t r.0) begun) (and_right (chosen m) (is_unsettled t m) open_m) (sets_by_adding r.0 a adds) (and_right (chosen m && is_unsettled t m) (sets m a) h)) ∙ adds)
    (λ e. any_passes (is_chosen_adder t chosen a) b.points m i (and_both (chosen m && is_unsettled t m) (has m.event.adds a) open_m e))

pub states_go_by_parts : StatesGoByParts
states_go_by_parts b proper a none t chosen = by_writer b proper a none t chosen (list_any (is_chosen_writer t chosen a) b.points) refl
  where
    none_writes : (b : WindowBox) (t : ℕ) (chosen : Point → Bool) (a : ℕ) → list_any (is_chosen_writer t chosen a) b.points ≡ false → (p : Point) → Contains b.points p → sets p a ≡ true → (chosen p && is_unsettled t p) ≡ false
    none_writes b t chosen a e p i s = elim (cases_Bool (chosen p && is_unsettled t p)) [
      | inl h ↦ absurd (true≢false (sym (any_passes (is_chosen_writer t chosen a) b.points p i (and_both (chosen p && is_unsettled t p) (sets p a) h s)) ∙ e))
      | inr h ↦ h
    ]

    by_writer : (b : WindowBox) → IsProper b → (a : ℕ) → NoneClash b a → (t : ℕ) (chosen : Point → Bool) → (x : Bool) → list_any (is_chosen_writer t chosen a) b.points ≡ x →
        state_at b t chosen a ≡ cond (list_any (is_chosen_writer t chosen a) b.points) (list_any (is_chosen_adder t chosen a) b.points) (certain b t a)
    by_writer b proper a none t chosen false e = rw e (
        placed_alike b.initial b.points (λ p. p.high) (λ p. p.high) (came_by t chosen) (λ p. nat_le p.high t) a
        (λ p i s. came_if_not_chosen t chosen p (ordered b proper p i) (none_writes b t chosen a e p i s))
        (λ p q i j s r. in_order a p q (ordered b proper p i) (ordered b proper q j) (agree_by_clash b a none p q i j s r)))
    by_writer b proper a none t chosen true e =
        let r = passing_member (is_chosen_writer t chosen a) b.points e in
        let both = and_left (chosen r.0 && is_unsettled t r.0) (sets r.0 a) r.2 in
        let writes = and_right (chosen r.0 && is_unsettled t r.0) (sets r.0 a) r.2 in
        let begun = unsettled_told t r.0 (and_right (chosen r.0) (is_unsettled t r.0) both) in
        rw e (
        last_placed b.initial b.points (λ p. p.high) (came_by t chosen) a r.0 r.1 (came_if_chosen t chosen r.0 (and_left (chosen r.0) (is_unsettled t r.0) both) begun.0) writes
        (λ p i h s. after_others a t chosen p r.0 (ordered b proper p i) begun (came_told t chosen p (ordered b proper p i) h) (agree_by_clash b a none p r.0 i r.1 s writes))
        ∙ sym (adder_of_writer b a none t chosen r.0 r.1 r.2))
