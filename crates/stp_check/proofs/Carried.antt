-- A row that is carried along the ends of windows in order has what is certain.
use Rattle.std.proofs.Common.{◌≡◌, ℕ, suc, ◌+◌, ◌<◌, ◌≤◌, Bool, true, false, not, ◌&&◌, ◌||◌, List, [], ◌∷◌, ◌++◌, take, drop, length, get_or, Contains, IsPermutation, ◌⊎◌, inl, inr, refl, ap, sym, ◌∙◌, subst, arith, true≢false}
use Rattle.std.specs.List.Sorted.{IsNonDecreasingBy}
use Rattle.std.proofs.lemmas.Bool.{cases_Bool, cases_lt}
use Rattle.std.proofs.lemmas.List.{take_more, map-append, take-append-drop, get_or-take, get_or-drop, length-take, length-drop, get_or_default}
use Rattle.std.proofs.lemmas.List.Elements.{Contains-append_left, Contains-append_cases}
use Rattle.std.proofs.lemmas.List.Sorted.{Contains-permutation, IsPermutation-sym, IsNonDecreasingBy-take}
use Rattle.stp_strength.proofs.Splits.{unwritten, written}
use Rattle.stp_strength.specs.Splitting.{applied}
use Rattle.stp_cond.specs.Atoms.{has, changed_by}
use Rattle.stp_cond.specs.Events.{event_of}
use Rattle.stp_cond.specs.Truth.{state_of_row}
use Rattle.stp_happen.proofs.Members.{here, there, member_cases, member_nil, member_map, mapped_member}
use Rattle.stp_window.specs.Certain.{sets}
use Rattle.stp_window.specs.States.{certain}
use Rattle.stp_window.specs.Views.{point_of, points_of}
use Rattle.stp_window.specs.Windows.{Point, WindowBox, IsProper}
use Rattle.stp_window.proofs.LastWay.{certain_is_the_last_way, certain_is_initial}
use Rattle.stp_strength.specs.Failures.{all_calm}
use Rattle.stp_strength.proofs.Parts.{calm_boxes_do_not_clash}
use Rattle.stp_window.specs.declared.windows.Window.{Window}

-- ---- one more window

applied-append : (ps : List Point) (p : Point) (state : ℕ → Bool) → applied (ps ++ p ∷ []) state ≡ changed_by p.event (applied ps state)
applied-append [] p state = refl
applied-append (q ∷ ps) p state = applied-append ps p (changed_by q.event state)

pub carried_more : (ws : List Window) (place : ℕ) (w : Window) → place < length ws → w ≡ get_or ws place w → (old new first : ℕ → Bool) (a : ℕ) →
    new a ≡ changed_by (event_of w.event) old a → old a ≡ applied (points_of (take place ws)) first a → new a ≡ applied (points_of (take (place + 1) ws)) first a
carried_more ws place w l is old new first a step so_far =
    step
    ∙ (ap (λ b. has (point_of w).event.adds a || (not (has (point_of w).event.dels a) && b)) so_far
    ∙ (sym (ap (λ s. s a) (applied-append (points_of (take place ws)) (point_of w) first))
    ∙ ap (λ ps. applied ps first a) (sym (ap points_of (take_more ws place w l) ∙ (map-append point_of (take place ws) (get_or ws place w ∷ []) ∙ ap (λ v. points_of (take place ws) ++ point_of v ∷ []) (sym is))))))

pub ended_more : (ws : List Window) (start place time : ℕ) (w : Window) → w ≡ get_or ws place w → place < length ws × w.high ≤ time → ((k : ℕ) (d : Window) → start ≤ k → k < place → (get_or ws k d).high ≤ time) →
    (k : ℕ) (d : Window) → start ≤ k → k < place + 1 → (get_or ws k d).high ≤ time
ended_more ws start place time w is ends before k d from to = elim (cases_lt k place) [
  | inl l ↦ before k d from l
  | inr l ↦ here_ends ws place time w is ends k d (omega arith)
]
  where
    here_ends : (ws : List Window) (place time : ℕ) (w : Window) → w ≡ get_or ws place w → place < length ws × w.high ≤ time → (k : ℕ) (d : Window) → k ≡ place → (get_or ws k d).high ≤ time
    here_ends ws place time w is ends k d e =
        let same : (get_or ws k d).high ≡ w.high = ap (λ n. (get_or ws n d).high) e ∙ (ap (λ v. v.high) (get_or_default ws place d w ends.0) ∙ ap (λ v. v.high) (sym is)) in
        let h : w.high ≤ time = ends.1 in
        omega arith

-- ---- what events leave, one after another

-- no point ends before one that stands before it
abbrev pub DoNotFall : List Point → Type 0
DoNotFall [] = Unit {0}
DoNotFall (p ∷ ps) = ((q : Point) → Contains ps q → p.high ≤ q.high) × DoNotFall ps

-- the last of these points that writes an atom, or none
data LastOf (ps : List Point) (state : ℕ → Bool) (a : ℕ) : Type 0 where
  Unwritten : ((p : Point) → Contains ps p → sets p a ≡ true → ⊥) → applied ps state a ≡ state a → LastOf ps state a
  Written : (m : Point) → Contains ps m → sets m a ≡ true → applied ps state a ≡ has m.event.adds a → ((q : Point) → Contains ps q → sets q a ≡ true → q.high ≤ m.high) → LastOf ps state a

last_of : (ps : List Point) (state : ℕ → Bool) (a : ℕ) → DoNotFall ps → LastOf ps state a
last_of [] state a up = Unwritten (λ p i s. member_nil p i) refl
last_of (p ∷ ps) state a up = by_rest p ps state a up.0 (cases_Bool (sets p a)) (last_of ps (changed_by p.event state) a up.1)
  where
    by_rest : (p : Point) (ps : List Point) (state : ℕ → Bool) (a : ℕ) → ((q : Point) → Contains ps q → p.high ≤ q.high) → (sets p a ≡ true) ⊎ (sets p a ≡ false) → LastOf ps (changed_by p.event state) a → LastOf (p ∷ ps) state a
    by_rest p ps state a up first (Written m i s e most) =
        Written m (there p ps m i) s e (λ q j r. elim (member_cases p ps q j) [ inl h ↦ subst (λ (x : Point). x.high ≤ m.high) h (up m i) | inr k ↦ most q k r ])
    by_rest p ps state a up (inl s) (Unwritten none e) =
        Written p (here p ps) s (e ∙ written p state a s) (λ q j r. elim (member_cases p ps q j) [ inl h ↦ subst (λ (x : Point). x.high ≤ p.high) h (omega arith) | inr k ↦ absurd (none q k r) ])
    by_rest p ps state a up (inr s) (Unwritten none e) =
        Unwritten (λ q j r. elim (member_cases p ps q j) [ inl h ↦ true≢false (sym r ∙ (ap (λ (x : Point). sets x a) (sym h) ∙ s)) | inr k ↦ none q k r ]) (e ∙ unwritten p state a s)

-- the points whose windows have ended, in the order of their ends, leave what is certain
left_is_certain : (b : WindowBox) → IsProper b → all_calm b ≡ true → (ps : List Point) (t : ℕ) → DoNotFall ps → ((p : Point) → Contains ps p → Contains b.points p × (p.high ≤ t)) → ((p : Point) → Contains b.points p → p.high ≤ t → Contains ps p) →
    (a : ℕ) → applied ps (b.initial) a ≡ certain b t a
left_is_certain b proper calm ps t up within all a = by_last b proper calm ps t within all a (last_of ps (b.initial) a up)
  where
    by_last : (b : WindowBox) → IsProper b → all_calm b ≡ true → (ps : List Point) (t : ℕ) → ((p : Point) → Contains ps p → Contains b.points p × (p.high ≤ t)) → ((p : Point) → Contains b.points p → p.high ≤ t → Contains ps p) →
        (a : ℕ) → LastOf ps (b.initial) a → applied ps (b.initial) a ≡ certain b t a
    by_last b proper calm ps t within all a (Unwritten none e) = e ∙ sym (certain_is_initial b a t (λ p i s h. none p (all p i h) s))
    by_last b proper calm ps t within all a (Written m i s e most) =
        e ∙ sym (certain_is_the_last_way b proper a t (calm_boxes_do_not_clash b proper calm a) m (record { there = (within m i).0; writes = s; ended = (within m i).1; last = λ q j r h. most q (all q j h) r }))

-- ---- the same in the lists of the code

falls_nowhere : (ws : List Window) → IsNonDecreasingBy (λ w. w.high) ws → DoNotFall (points_of ws)
falls_nowhere [] up = tt
falls_nowhere (w ∷ ws) up = (
  λ q i. let r = mapped_member point_of ws q i in subst (λ (x : Point). w.high ≤ x.high) r.2 (later w ws up r.0 r.1),
  falls_nowhere ws (λ i j d l h. up (suc i) (suc j) d (omega arith) (omega arith)),
)
  where
    later : (w : Window) (ws : List Window) → IsNonDecreasingBy (λ w. w.high) (w ∷ ws) → (v : Window) → Contains ws v → w.high ≤ v.high
    later w ws up v i = let h : w.high ≤ (get_or ws i.0 v).high = up 0 (suc i.0) v (omega arith) (omega (arith, i.1)) in subst (λ (x : Window). w.high ≤ x.high) i.2 h

-- the windows before a place, where these are all that end by a moment
pub row_is_certain : (b : WindowBox) → IsProper b → all_calm b ≡ true → (windows ordered : List Window) → b.points ≡ points_of windows → IsPermutation windows ordered → IsNonDecreasingBy (λ w. w.high) ordered →
    (place t : ℕ) → place ≤ length ordered → ((k : ℕ) (d : Window) → k < place → (get_or ordered k d).high ≤ t) → ((d : Window) → place < length ordered → t < (get_or ordered place d).high) →
    (a : ℕ) → applied (points_of (take place ordered)) (b.initial) a ≡ certain b t a
row_is_certain b proper calm windows ordered are moved up place t fits ended later =
    left_is_certain b proper calm (points_of (take place ordered)) t (falls_nowhere (take place ordered) (IsNonDecreasingBy-take (λ w. w.high) place ordered up))
    (λ p i. let r = mapped_member point_of (take place ordered) p i in before_place b windows ordered are moved place t ended p r.0 r.1 r.2)
    (λ p i h. let r = mapped_member point_of windows p (subst (λ ps. Contains ps p) are i) in at_place windows ordered moved up place t later p r.0 r.1 r.2 h)
  where
    before_place : (b : WindowBox) (windows ordered : List Window) → b.points ≡ points_of windows → IsPermutation windows ordered → (place t : ℕ) → ((k : ℕ) (d : Window) → k < place → (get_or ordered k d).high ≤ t) →
        (p : Point) (w : Window) → Contains (take place ordered) w → point_of w ≡ p → Contains b.points p × (p.high ≤ t)
    before_place b windows ordered are moved place t ended p w i e =
        let whole : Contains ordered w = subst (λ ws. Contains ws w) (take-append-drop place ordered) (Contains-append_left (take place ordered) (drop place ordered) w i) in
        let long : i.0 < place = omega (arith, i.1, length-take place ordered) in
        let high : (get_or (take place ordered) i.0 w).high ≤ t = subst (λ (x : Window). x.high ≤ t) (sym (get_or-take place ordered i.0 w long)) (ended i.0 w long) in
        let own : w.high ≤ t = subst (λ (x : Window). x.high ≤ t) i.2 high in (
          subst (λ ps. Contains ps p) (sym are) (subst (Contains (points_of windows)) e (member_map point_of windows w (Contains-permutation ordered windows w (IsPermutation-sym windows ordered moved) whole))),
          subst (λ (x : Point). x.high ≤ t) e own,
        )

    at_place : (windows ordered : List Window) → IsPermutation windows ordered → IsNonDecreasingBy (λ w. w.high) ordered → (place t : ℕ) → ((d : Window) → place < length ordered → t < (get_or ordered place d).high) →
        (p : Point) (w : Window) → Contains windows w → point_of w ≡ p → p.high ≤ t → Contains (points_of (take place ordered)) p
    at_place windows ordered moved up place t later p w i e h =
        let whole : Contains (take place ordered ++ drop place ordered) w = subst (λ ws. Contains ws w) (sym (take-append-drop place ordered)) (Contains-permutation windows ordered w moved i) in
        let own : w.high ≤ t = subst (λ (x : Point). x.high ≤ t) (sym e) h in
        elim (Contains-append_cases (take place ordered) (drop place ordered) w whole) [
          | inl j ↦ subst (Contains (points_of (take place ordered))) e (member_map point_of (take place ordered) w j)
          | inr j ↦
              let long : place + j.0 < length ordered = omega (arith, j.1, length-drop place ordered) in
              let first : t < (get_or ordered place w).high = later w (omega arith) in
              let rest : (get_or ordered place w).high ≤ (get_or ordered (place + j.0) w).high = up place (place + j.0) w (omega arith) long in
              let read : (get_or ordered (place + j.0) w).high ≡ w.high = ap (λ v. v.high) (sym (get_or-drop place ordered j.0 w) ∙ j.2) in
              absurd (omega arith)
        ]
