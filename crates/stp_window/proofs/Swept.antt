-- A sweep that finds nothing has passed all points that interfere.
use Rattle.std.proofs.Common.{◌≡◌, ℕ, zero, suc, ◌+◌, ◌*◌, ◌<◌, ◌≤◌, ◌==◌, nat_le, Bool, true, false, not, ◌&&◌, ◌||◌, List, [], ◌∷◌, ◌++◌, map, drop, length, get_or, Contains, IsPermutation, Option, Some, None, MatchOption, ◌⊎◌, inl, inr, refl, ap, sym, ◌∙◌, subst, arith, true≢false, append_assoc, is_some}
use Rattle.std.specs.List.Sorted.{IsNonDecreasingBy}
use Rattle.std.proofs.lemmas.Bool.{cases_lt, leb-true, le-leb}
use Rattle.std.proofs.lemmas.Bool.Decides.{nat_tests}
use Rattle.std.proofs.lemmas.List.{at_drop_more, get_or_default}
use Rattle.std.proofs.lemmas.List.Elements.{Contains-append_left, Contains-append_right, Contains-append_cases}
use Rattle.std.proofs.lemmas.List.Sorted.{Contains-permutation, IsPermutation-sym}
use Rattle.stp_base.specs.declared.ids.AtomId.{AtomId}
use Rattle.stp_cond.specs.declared.event.Event.{Event}
use Rattle.stp_cond.specs.Atoms.{PlainEvent, has, interfere}
use Rattle.stp_cond.specs.Events.{event_of}
use Rattle.stp_cond.specs.Interferences.{Disturbs}
use Rattle.stp_cond.specs.Views.{atoms_of}
use Rattle.stp_cond.proofs.Interferes.{atoms_show_interference}
use Rattle.stp_cond.proofs.Rising.{Contains_from_has}
use Rattle.stp_happen.proofs.Interfering.{interfere_turned}
use Rattle.stp_happen.proofs.Members.{member_nil, member_map, mapped_member, and_left, and_right, and_both}
use Rattle.stp_window.specs.declared.windows.Window.{Window}
use Rattle.stp_window.specs.declared.sweeping.Mention.{Mention}
use Rattle.stp_window.specs.declared.sweeping.MetWindows.{MetWindows}
use Rattle.stp_window.specs.Windows.{Point, Meet, may_meet}
use Rattle.stp_window.specs.Views.{point_of, points_of}
use Rattle.stp_window.specs.Sweep.{Clash, ClashesWithNone, NoneMeet, HaveMet, mention_at, mentions_by, mentions_from, key, IsAt, IsSwept, PassesFrom}

-- ---- items at places

pub one_at : {X : Type 0} (xs : List X) (i : ℕ) (x y : X) → IsAt xs i x → IsAt xs i y → x ≡ y
one_at xs i x y h k = sym h.1 ∙ (get_or_default xs i x y h.0 ∙ k.1)

pub at_member : {X : Type 0} (xs : List X) (x : X) → Contains xs x → (i : ℕ) × IsAt xs i x
at_member xs x i = (i.0, (i.1, i.2))

pub at_place : {X : Type 0} (xs : List X) (i : ℕ) (d : X) → i < length xs → IsAt xs i (get_or xs i d)
at_place xs i d l = (l, get_or_default xs i (get_or xs i d) d l)

pub member_at : {X : Type 0} (xs : List X) (i : ℕ) (x : X) → IsAt xs i x → Contains xs x
member_at xs i x h = (i, h.0, h.1)

-- ---- the test of two windows

other_told : (m n : ℕ) → not (m == n) ≡ true → m ≡ n → ⊥
other_told m n h e = grind (arith, nat_tests)

other_test : (m n : ℕ) → (m ≡ n → ⊥) → not (m == n) ≡ true
other_test m n h = grind (arith, nat_tests)

meet_told : (p q : Point) → may_meet p q ≡ true → Meet p q
meet_told p q h = (leb-true p.low q.high (and_left (nat_le p.low q.high) (nat_le q.low p.high) h), leb-true q.low p.high (and_right (nat_le p.low q.high) (nat_le q.low p.high) h))

meet_test : (p q : Point) → Meet p q → may_meet p q ≡ true
meet_test p q h = and_both (nat_le p.low q.high) (nat_le q.low p.high) (le-leb p.low q.high h.0) (le-leb q.low p.high h.1)

abbrev pub clash_test : Window → Window → Bool
clash_test v w = not (v.step == w.step) && (may_meet (point_of v) (point_of w) && interfere (event_of v.event) (event_of w.event))

pub clash_told : (v w : Window) → clash_test v w ≡ true → Clash (point_of v) (point_of w)
clash_told v w h =
    let both = and_right (not (v.step == w.step)) (may_meet (point_of v) (point_of w) && interfere (event_of v.event) (event_of w.event)) h in
    record {
      other = other_told v.step w.step (and_left (not (v.step == w.step)) (may_meet (point_of v) (point_of w) && interfere (event_of v.event) (event_of w.event)) h);
      meet = meet_told (point_of v) (point_of w) (and_left (may_meet (point_of v) (point_of w)) (interfere (event_of v.event) (event_of w.event)) both);
      interfere = and_right (may_meet (point_of v) (point_of w)) (interfere (event_of v.event) (event_of w.event)) both;
    }

pub no_clash : (v w : Window) → clash_test v w ≡ false → Clash (point_of v) (point_of w) → ⊥
no_clash v w h c =
    true≢false (sym (and_both (not (v.step == w.step)) (may_meet (point_of v) (point_of w) && interfere (event_of v.event) (event_of w.event)) (other_test v.step w.step c.other)
    (and_both (may_meet (point_of v) (point_of w)) (interfere (event_of v.event) (event_of w.event)) (meet_test (point_of v) (point_of w) c.meet) c.interfere)) ∙ h)

clash_turned : (p q : Point) → Clash p q → Clash q p
clash_turned p q c = record { other = λ e. c.other (sym e); meet = (c.meet.1, c.meet.0); interfere = interfere_turned q.event p.event ∙ c.interfere }

-- ---- from one mention on

-- the windows of the mentions before a place do not clash with the window of the first one
abbrev pub HasPassed : List Window → List Mention → ℕ → Window → ℕ → Type 0
HasPassed ordered mentions start one place = (y : ℕ) (n : Mention) (w : Window) → start < y → y < place → IsAt mentions y n → IsAt ordered n.place w → Clash (point_of one) (point_of w) → ⊥

-- the windows of the mentions from a place on begin too late, or mention another atom
abbrev NoneCanMeet : List Window → List Mention → ℕ → Mention → Window → Type 0
NoneCanMeet ordered mentions place first one = (y : ℕ) (n : Mention) (w : Window) → place ≤ y → IsAt mentions y n → IsAt ordered n.place w → n.atom ≡ first.atom → w.low ≤ one.high → ⊥

passes : (ordered : List Window) (mentions : List Mention) (start place : ℕ) (first : Mention) (one : Window) → IsAt mentions start first → IsAt ordered first.place one →
    HasPassed ordered mentions start one place → NoneCanMeet ordered mentions place first one → PassesFrom ordered mentions start
passes ordered mentions start place first one i j passed later = λ y m n v w after is_m is_n is_v is_w same clash.
    let e : first ≡ m = one_at mentions start first m i is_m in
    let f : one ≡ v = one_at ordered m.place one v (subst (λ (x : Mention). IsAt ordered x.place one) e j) is_v in
    let meets : Clash (point_of one) (point_of w) = subst (λ (x : Window). Clash (point_of x) (point_of w)) (sym f) clash in
    elim (cases_lt y place) [
      | inl l ↦ passed y n w after l is_n is_w meets
      | inr l ↦ later y n w l is_n is_w (same ∙ ap (λ (x : Mention). x.atom) (sym e)) meets.meet.1
    ]

pub passed_first : (ordered : List Window) (mentions : List Mention) (start : ℕ) (one : Window) → HasPassed ordered mentions start one (start + 1)
passed_first ordered mentions start one y n w l k i j c = absurd (omega arith)

pub passed_more : (ordered : List Window) (mentions : List Mention) (start place : ℕ) (one other : Window) (second : Mention) → IsAt mentions place second → IsAt ordered second.place other → (Clash (point_of one) (point_of other) → ⊥) →
    HasPassed ordered mentions start one place → HasPassed ordered mentions start one (place + 1)
passed_more ordered mentions start place one other second i j none passed = λ y n w l k is_n is_w clash.
    elim (cases_lt y place) [
      | inl m ↦ passed y n w l m is_n is_w clash
      | inr m ↦
          let e : y ≡ place = omega arith in
          let f : n ≡ second = one_at mentions place n second (subst (λ k. IsAt mentions k n) e is_n) i in
          let g : w ≡ other = one_at ordered second.place w other (subst (λ (x : Mention). IsAt ordered x.place w) f is_w) j in
          none (subst (λ (x : Window). Clash (point_of one) (point_of x)) g clash)
    ]

-- keys by atoms and places
atoms_rise : (a p b q : ℕ) → a * 18446744073709551616 + p ≤ b * 18446744073709551616 + q → q < 18446744073709551616 → a ≤ b
atoms_rise a p b q l k = omega arith

places_rise : (a p b q : ℕ) → a * 18446744073709551616 + p ≤ b * 18446744073709551616 + q → a ≡ b → p ≤ q
places_rise a p b q l e = let f : a * 18446744073709551616 ≡ b * 18446744073709551616 = ap (λ n. n * 18446744073709551616) e in omega (arith, l, f)

keys_rise : (ordered : List Window) (mentions : List Mention) → IsSwept ordered mentions → (x y : ℕ) (m n : Mention) → x ≤ y → IsAt mentions x m → IsAt mentions y n → key m ≤ key n
keys_rise ordered mentions swept x y m n l i j =
    let h : key (get_or mentions x n) ≤ key (get_or mentions y n) = swept.by_atoms x y n l j.0 in
    let e : key (get_or mentions x n) ≡ key m = ap key (get_or_default mentions x n m i.0 ∙ i.1) in
    let f : key (get_or mentions y n) ≡ key n = ap key j.1 in
    omega (arith, h, e, f)

small : (ordered : List Window) (mentions : List Mention) → IsSwept ordered mentions → (y : ℕ) (n : Mention) → IsAt mentions y n → n.place < 18446744073709551616
small ordered mentions swept y n j = let h : n.place < length ordered = swept.within y n j in let k : length ordered < 18446744073709551616 = swept.few in omega (arith, h, k)

atom_order : (ordered : List Window) (mentions : List Mention) → IsSwept ordered mentions → (x y : ℕ) (m n : Mention) → x ≤ y → IsAt mentions x m → IsAt mentions y n → m.atom ≤ n.atom
atom_order ordered mentions swept x y m n l i j = atoms_rise m.atom m.place n.atom n.place (keys_rise ordered mentions swept x y m n l i j) (small ordered mentions swept y n j)

low_order : (ordered : List Window) (mentions : List Mention) → IsSwept ordered mentions → (x y : ℕ) (m n : Mention) → x ≤ y → IsAt mentions x m → IsAt mentions y n → m.atom ≡ n.atom → (v w : Window) → IsAt ordered m.place v → IsAt ordered n.place w → v.low ≤ w.low
low_order ordered mentions swept x y m n l i j same v w is_v is_w =
    let k : m.place ≤ n.place = places_rise m.atom m.place n.atom n.place (keys_rise ordered mentions swept x y m n l i j) same in
    let h : (get_or ordered m.place w).low ≤ (get_or ordered n.place w).low = swept.rises m.place n.place w k is_w.0 in
    let e : (get_or ordered m.place w).low ≡ v.low = ap (λ (x : Window). x.low) (get_or_default ordered m.place w v is_v.0 ∙ is_v.1) in
    let f : (get_or ordered n.place w).low ≡ w.low = ap (λ (x : Window). x.low) is_w.1 in
    omega (arith, h, e, f)

-- where another atom comes
pub passes_at_atom : (ordered : List Window) (mentions : List Mention) → IsSwept ordered mentions → (start place : ℕ) (first second : Mention) (one : Window) → start < place → IsAt mentions start first → IsAt ordered first.place one → IsAt mentions place second →
    (second.atom ≡ first.atom → ⊥) → HasPassed ordered mentions start one place → PassesFrom ordered mentions start
passes_at_atom ordered mentions swept start place first second one l i j k other passed =
    passes ordered mentions start place first one i j passed (λ y n w after is_n is_w same begins.
    let g : first.atom ≤ second.atom = atom_order ordered mentions swept start place first second (omega arith) i k in
    let h : second.atom ≤ n.atom = atom_order ordered mentions swept place y second n after k is_n in
    let e : second.atom ≡ first.atom = omega (arith, g, h, same) in other e)

-- where a window begins too late
pub passes_at_low : (ordered : List Window) (mentions : List Mention) → IsSwept ordered mentions → (start place : ℕ) (first second : Mention) (one other : Window) → IsAt mentions start first → IsAt ordered first.place one → IsAt mentions place second → IsAt ordered second.place other →
    second.atom ≡ first.atom → one.high < other.low → HasPassed ordered mentions start one place → PassesFrom ordered mentions start
passes_at_low ordered mentions swept start place first second one other i j k is_other atom late passed =
    passes ordered mentions start place first one i j passed (λ y n w after is_n is_w same begins.
    let h : other.low ≤ w.low = low_order ordered mentions swept place y second n after k is_n (atom ∙ sym same) other w is_other is_w in
    omega (arith, h, late, begins))

-- where no mention is left
pub passes_at_end : (ordered : List Window) (mentions : List Mention) (start place : ℕ) (first : Mention) (one : Window) → IsAt mentions start first → IsAt ordered first.place one → length mentions ≤ place → HasPassed ordered mentions start one place → PassesFrom ordered mentions start
passes_at_end ordered mentions start place first one i j l passed =
    passes ordered mentions start place first one i j passed (λ y n w after is_n is_w same begins. let h : y < length mentions = is_n.0 in omega (arith, h, after, l))

-- ---- mentions

mention_of_atom : (place a : ℕ) (atoms : List AtomId) → has (atoms_of atoms) a ≡ true → Contains (map (mention_at place) atoms) (record { atom = a; place = place })
mention_of_atom place a atoms h =
    let r = mapped_member (λ (x : AtomId). x.0) atoms a (Contains_from_has (atoms_of atoms) a h) in
    subst (λ n. Contains (map (mention_at place) atoms) (record { atom = n; place = place })) r.2 (member_map (mention_at place) atoms r.0 r.1)

-- an event reads or writes an atom
abbrev Mentions : PlainEvent → ℕ → Type 0
Mentions e a = (has e.reads a ≡ true) ⊎ ((has e.adds a ≡ true) ⊎ (has e.dels a ≡ true))

mentioned : (place a : ℕ) (e : Event) → Mentions (event_of e) a → Contains (mentions_by place e) (record { atom = a; place = place })
mentioned place a e (inl h) =
    Contains-append_left (map (mention_at place) e.reads.now ++ map (mention_at place) e.adds.now) (map (mention_at place) e.dels.now) (record { atom = a; place = place })
    (Contains-append_left (map (mention_at place) e.reads.now) (map (mention_at place) e.adds.now) (record { atom = a; place = place }) (mention_of_atom place a e.reads.now h))
mentioned place a e (inr (inl h)) =
    Contains-append_left (map (mention_at place) e.reads.now ++ map (mention_at place) e.adds.now) (map (mention_at place) e.dels.now) (record { atom = a; place = place })
    (Contains-append_right (map (mention_at place) e.reads.now) (map (mention_at place) e.adds.now) (record { atom = a; place = place }) (mention_of_atom place a e.adds.now h))
mentioned place a e (inr (inr h)) =
    Contains-append_right (map (mention_at place) e.reads.now ++ map (mention_at place) e.adds.now) (map (mention_at place) e.dels.now) (record { atom = a; place = place }) (mention_of_atom place a e.dels.now h)

all_mentioned : (ws : List Window) (start i : ℕ) (w : Window) (a : ℕ) → IsAt ws i w → Mentions (event_of w.event) a → Contains (mentions_from start ws) (record { atom = a; place = start + i })
all_mentioned [] start i w a at h = absurd (let l : i < 0 = at.0 in omega (arith, l))
all_mentioned (v ∷ ws) start zero w a at h =
    Contains-append_left (mentions_by start v.event) (mentions_from (start + 1) ws) (record { atom = a; place = start + 0 })
    (subst (λ n. Contains (mentions_by start v.event) (record { atom = a; place = n })) (let e : start ≡ start + 0 = omega arith in e)
    (mentioned start a v.event (subst (λ (x : Window). Mentions (event_of x.event) a) (sym at.1) h)))
all_mentioned (v ∷ ws) start (suc i) w a at h =
    Contains-append_right (mentions_by start v.event) (mentions_from (start + 1) ws) (record { atom = a; place = start + suc i })
    (subst (λ n. Contains (mentions_from (start + 1) ws) (record { atom = a; place = n })) (let e : (start + 1) + i ≡ start + suc i = omega arith in e)
    (all_mentioned ws (start + 1) i w a (let l : suc i < length (v ∷ ws) = at.0 in (omega (arith, l), at.1)) h))

place_told : (place : ℕ) (atoms : List AtomId) (m : Mention) → Contains (map (mention_at place) atoms) m → m.place ≡ place
place_told place atoms m i = let r = mapped_member (mention_at place) atoms m i in sym (ap (λ (x : Mention). x.place) r.2)

place_of_event : (place : ℕ) (e : Event) (m : Mention) → Contains (mentions_by place e) m → m.place ≡ place
place_of_event place e m i = elim (Contains-append_cases (map (mention_at place) e.reads.now ++ map (mention_at place) e.adds.now) (map (mention_at place) e.dels.now) m i) [
  | inl j ↦ elim (Contains-append_cases (map (mention_at place) e.reads.now) (map (mention_at place) e.adds.now) m j) [ inl k ↦ place_told place e.reads.now m k | inr k ↦ place_told place e.adds.now m k ]
  | inr j ↦ place_told place e.dels.now m j
]

place_below : (ws : List Window) (start : ℕ) (m : Mention) → Contains (mentions_from start ws) m → m.place < start + length ws
place_below [] start m i = absurd (member_nil m i)
place_below (w ∷ ws) start m i = elim (Contains-append_cases (mentions_by start w.event) (mentions_from (start + 1) ws) m i) [
  | inl j ↦ let e : m.place ≡ start = place_of_event start w.event m j in omega (arith, e)
  | inr j ↦ let l : m.place < (start + 1) + length ws = place_below ws (start + 1) m j in omega (arith, l)
]

-- the mentions so far, and those of the windows that are left
pub mentions_more : (ws : List Window) (i : ℕ) (d : Window) (so_far new all : List Mention) → i < length ws → new ≡ so_far ++ mentions_by i (get_or ws i d).event → so_far ++ mentions_from i (drop i ws) ≡ all → new ++ mentions_from (i + 1) (drop (i + 1) ws) ≡ all
mentions_more ws i d so_far new all l is h =
    ap (λ ms. ms ++ mentions_from (i + 1) (drop (i + 1) ws)) is
    ∙ (append_assoc so_far (mentions_by i (get_or ws i d).event) (mentions_from (i + 1) (drop (i + 1) ws)) ∙ (sym (ap (λ ms. so_far ++ ms) (at_drop_more (mentions_from i) ws i d l)) ∙ h))

-- ---- all together

pub swept_from : (windows ordered : List Window) (before mentions : List Mention) → length ordered < 18446744073709551616 → IsPermutation windows ordered → IsNonDecreasingBy (λ w. w.low) ordered → before ≡ mentions_from 0 ordered → IsPermutation before mentions → IsNonDecreasingBy key mentions → IsSwept ordered mentions
swept_from windows ordered before mentions few moved up is shuffled by_atoms = record {
  few = few;
  rises = up;
  by_atoms = by_atoms;
  within = λ i m at.
      let there : Contains before m = Contains-permutation mentions before m (IsPermutation-sym before mentions shuffled) (member_at mentions i m at) in
      let l : m.place < 0 + length ordered = place_below ordered 0 m (subst (λ ms. Contains ms m) is there) in omega (arith, l);
}

-- a common atom of events that interfere
common : (e o : PlainEvent) → interfere e o ≡ true → (a : ℕ) × Mentions e a × Mentions o a
common e o h = elim ((atoms_show_interference e o).0 h) [ inl d ↦ by_way e o d | inr d ↦ let r = by_way o e d in (r.0, r.2, r.1) ]
  where
    writes : (o : PlainEvent) (a : ℕ) → (has o.adds a || has o.dels a) ≡ true → Mentions o a
    writes o a h = by (has o.adds a) (has o.dels a) (has o.reads a) h
      where
        by : (x y z : Bool) → (x || y) ≡ true → (z ≡ true) ⊎ ((x ≡ true) ⊎ (y ≡ true))
        by true y z h = inr (inl refl)
        by false y z h = inr (inr h)

    by_way : (e o : PlainEvent) → Disturbs e o → (a : ℕ) × Mentions e a × Mentions o a
    by_way e o (a, inl (r, w)) = (a, inl r, writes o a w)
    by_way e o (a, inr (x, d)) = (a, inr (inl x), inr (inr d))

pub none_meet : (windows ordered : List Window) (before mentions : List Mention) → IsPermutation windows ordered → before ≡ mentions_from 0 ordered → IsPermutation before mentions →
    ((x : ℕ) → x < length mentions → PassesFrom ordered mentions x) → NoneMeet (points_of windows)
none_meet windows ordered before mentions moved is shuffled passed p q i j clash =
    let v = mapped_member point_of windows p i in
    let w = mapped_member point_of windows q j in
    let k = at_member ordered v.0 (Contains-permutation windows ordered v.0 moved v.1) in
    let l = at_member ordered w.0 (Contains-permutation windows ordered w.0 moved w.1) in
    let clash_v : Clash (point_of v.0) q = subst (λ (x : Point). Clash x q) (sym v.2) clash in
    let meets : Clash (point_of v.0) (point_of w.0) = subst (Clash (point_of v.0)) (sym w.2) clash_v in
    let a = common (event_of v.0.event) (event_of w.0.event) meets.interfere in
    let x = mention_there ordered before mentions is shuffled k.0 v.0 a.0 k.1 a.1 in
    let y = mention_there ordered before mentions is shuffled l.0 w.0 a.0 l.1 a.2 in
    by_order ordered mentions passed v.0 w.0 a.0 k.0 l.0 k.1 l.1 x.0 y.0 x.1 y.1 meets (trichotomy x.0 y.0)
  where
    mention_there : (ordered : List Window) (before mentions : List Mention) → before ≡ mentions_from 0 ordered → IsPermutation before mentions → (i : ℕ) (w : Window) (a : ℕ) → IsAt ordered i w → Mentions (event_of w.event) a →
        (x : ℕ) × IsAt mentions x (record { atom = a; place = i })
    mention_there ordered before mentions is shuffled i w a at h =
        at_member mentions (record { atom = a; place = i })
        (Contains-permutation before mentions (record { atom = a; place = i }) shuffled
        (subst (λ ms. Contains ms (record { atom = a; place = i })) (sym is) (subst (λ n. Contains (mentions_from 0 ordered) (record { atom = a; place = n })) (let e : 0 + i ≡ i = omega arith in e) (all_mentioned ordered 0 i w a at h))))

    trichotomy : (x y : ℕ) → (x < y) ⊎ ((y < x) ⊎ (x ≡ y))
    trichotomy x y = elim (cases_lt x y) [ inl l ↦ inl l | inr l ↦ elim (cases_lt y x) [ inl k ↦ inr (inl k) | inr k ↦ inr (inr (omega arith)) ] ]

    by_order : (ordered : List Window) (mentions : List Mention) → ((x : ℕ) → x < length mentions → PassesFrom ordered mentions x) → (v w : Window) (a i j : ℕ) → IsAt ordered i v → IsAt ordered j w → (x y : ℕ) →
        IsAt mentions x (record { atom = a; place = i }) → IsAt mentions y (record { atom = a; place = j }) → Clash (point_of v) (point_of w) → (x < y) ⊎ ((y < x) ⊎ (x ≡ y)) → ⊥
    by_order ordered mentions passed v w a i j is_v is_w x y is_x is_y clash (inl l) = passed x is_x.0 y (record { atom = a; place = i }) (record { atom = a; place = j }) v w l is_x is_y is_v is_w refl clash
    by_order ordered mentions passed v w a i j is_v is_w x y is_x is_y clash (inr (inl l)) =
        passed y is_y.0 x (record { atom = a; place = j }) (record { atom = a; place = i }) w v l is_y is_x is_w is_v refl (clash_turned (point_of v) (point_of w) clash)
    by_order ordered mentions passed v w a i j is_v is_w x y is_x is_y clash (inr (inr e)) =
        let f : i ≡ j = ap (λ (m : Mention). m.place) (one_at mentions y (record { atom = a; place = i }) (record { atom = a; place = j }) (subst (λ n. IsAt mentions n (record { atom = a; place = i })) e is_x) is_y) in
        clash.other (ap (λ (u : Window). u.step) (one_at ordered j v w (subst (λ n. IsAt ordered n v) f is_v) is_w))

pub have_met : (windows ordered : List Window) (v w : Window) → IsPermutation windows ordered → HaveMet ordered v w → HaveMet windows v w
have_met windows ordered v w moved h = (Contains-permutation ordered windows v (IsPermutation-sym windows ordered moved) h.0, Contains-permutation ordered windows w (IsPermutation-sym windows ordered moved) h.1, h.2)

-- ---- in the lists of the code

pub swept_given : (windows ordered first second : List Window) (before mentions given : List Mention) → length first < 18446744073709551616 → IsPermutation windows ordered → IsNonDecreasingBy (λ w. w.low) ordered → first ≡ ordered → before ≡ mentions_from 0 first →
    IsPermutation before mentions → IsNonDecreasingBy key mentions → second ≡ ordered → given ≡ mentions → IsSwept second given
swept_given windows ordered first second before mentions given few moved up e is shuffled by_atoms f g =
    subst (λ ws. IsSwept ws given) (sym f) (subst (IsSwept ordered) (sym g) (swept_from windows ordered before mentions (subst (λ ws. length ws < 18446744073709551616) e few) moved up (is ∙ ap (mentions_from 0) e) shuffled by_atoms))

pub met_answered : (windows ordered first second : List Window) (before mentions given : List Mention) → IsPermutation windows ordered → first ≡ ordered → before ≡ mentions_from 0 first → IsPermutation before mentions → second ≡ ordered → given ≡ mentions →
    (r : Option MetWindows) → MatchOption r ((x : ℕ) → x < length given → PassesFrom second given x) (λ m. HaveMet second m.one m.other) → MatchOption r (NoneMeet (points_of windows)) (λ m. HaveMet windows m.one m.other)
met_answered windows ordered first second before mentions given moved e is shuffled f g None h =
    none_meet windows ordered before mentions moved (is ∙ ap (mentions_from 0) e) shuffled
    (subst (λ ms. (x : ℕ) → x < length ms → PassesFrom ordered ms x) g (subst (λ ws. (x : ℕ) → x < length given → PassesFrom ws given x) f h))
met_answered windows ordered first second before mentions given moved e is shuffled f g (Some m) h = have_met windows ordered m.one m.other moved (subst (λ ws. HaveMet ws m.one m.other) f h)

-- ---- places

pub none_meet_by_windows : (windows : List Window) → ((v : Window) → Contains windows v → ClashesWithNone windows v) → NoneMeet (points_of windows)
none_meet_by_windows windows none p q i j clash =
    let v = mapped_member point_of windows p i in
    let w = mapped_member point_of windows q j in
    none v.0 v.1 w.0 w.1 (subst (Clash (point_of v.0)) (sym w.2) (subst (λ (x : Point). Clash x q) (sym v.2) clash))

pub none_found : (P : Type 0) (Q : MetWindows → Type 0) (r : Option MetWindows) → is_some r ≡ false → MatchOption r P Q → P
none_found P Q None e h = h
none_found P Q (Some m) e h = absurd (true≢false e)
