-- Each entry of a dated list is of a kind and a point, and what it writes.
use Rattle.std.proofs.Common.{◌≡◌, ℕ, ◌<◌, ◌≤◌, ◌==◌, nat_lt, Bool, true, false, ◌&&◌, ◌||◌, cond, List, [], ◌∷◌, Contains, inl, inr, refl, sym, ◌∙◌, subst, ap₂, arith, true≢false}
use Rattle.std.specs.List.{flat_map}
use Rattle.std.proofs.lemmas.Bool.Decides.{nat_tests}
use Rattle.stp_cond.specs.Atoms.{has}
use Rattle.stp_happen.specs.Plain.{PlainEntry, writes}
use Rattle.stp_happen.proofs.Members.{here, there, member_cases, member_nil}
use Rattle.stp_window.specs.Windows.{Point, WindowBox, IsProper}
use Rattle.stp_window.specs.Certain.{sets}
use Rattle.stp_window.proofs.LastWay.{ordered}
use Rattle.stp_rewriting.specs.Rewritten.{Ending, Rewriting, Kind, Settled, Opening, Closing, is_shadowed, adds_of, dels_of}
use Rattle.stp_rewriting.specs.Fitting.{IsBelow, IsRewriting, AreRewritten, IsEndOf}
use Rattle.stp_rewriting.specs.Dated.{time_of, dated_point, dated_points}
use Rattle.stp_rewriting.proofs.Atoms.{is_late, is_opening, is_closing, adds_parts, dels_parts, at_plain, at_shadow, at_opened}
use Rattle.stp_rewriting.proofs.Flat.{in_flat, of_flat}

-- windows that a rewriting fits
pub record Fits (r : Rewriting) (key : ℕ → ℕ) (b : WindowBox) : Type 0 where
  pub numbers : IsRewriting r
  pub proper : IsProper b
  pub windows : AreRewritten r key b

-- a point whose window is a moment is settled, and any other opens and closes
abbrev pub Suits : Kind → Point → Type 0
Suits Settled p = p.low ≡ p.high
Suits Opening p = p.low < p.high
Suits Closing p = p.low < p.high

both_parts : (x y z : Bool) → ((x && y) || (x && z)) ≡ (x && (y || z))
both_parts true y z = refl
both_parts false y z = refl

either_mark : (x y z : Bool) → ((x && z) || (y && z)) ≡ ((x || y) && z)
either_mark true true true = refl
either_mark true true false = refl
either_mark true false true = refl
either_mark true false false = refl
either_mark false true true = refl
either_mark false true false = refl
either_mark false false true = refl
either_mark false false false = refl

module _ (r : Rewriting) (key : ℕ → ℕ) (b : WindowBox) (g : Fits r key b) where
  abbrev pub entries : List PlainEntry
  entries = flat_map (dated_points r key) b.points

  -- the kind and the point of an entry
  pub record IsDated (e : PlainEntry) : Type 0 where
    pub kind : Kind
    pub p : Point
    pub there : Contains b.points p
    pub suits : Suits kind p
    pub is : dated_point r key kind p ≡ e

  pub found : (e : PlainEntry) → Contains entries e → IsDated e
  found e i = let m = of_flat (dated_points r key) b.points e i in by_test m.0 m.1 (nat_lt m.0.low m.0.high) refl m.2
    where
      by_test : (p : Point) → Contains b.points p → (x : Bool) → nat_lt p.low p.high ≡ x →
          Contains (cond x (dated_point r key Opening p ∷ dated_point r key Closing p ∷ []) (dated_point r key Settled p ∷ [])) e → IsDated e
      by_test p i true t j = elim (member_cases (dated_point r key Opening p) (dated_point r key Closing p ∷ []) e j) [
        | inl k ↦ record { kind = Opening; p = p; there = i; suits = grind (arith, nat_tests); is = k }
        | inr k ↦ elim (member_cases (dated_point r key Closing p) [] e k) [
          | inl l ↦ record { kind = Closing; p = p; there = i; suits = grind (arith, nat_tests); is = l }
          | inr l ↦ absurd (member_nil e l)
        ]
      ]
      by_test p i false t j = elim (member_cases (dated_point r key Settled p) [] e j) [
        | inl k ↦ let o = ordered b g.proper p i in record { kind = Settled; p = p; there = i; suits = grind (arith, nat_tests); is = k }
        | inr k ↦ absurd (member_nil e k)
      ]

  pub dated_there : (kind : Kind) (p : Point) → Contains b.points p → Suits kind p → Contains entries (dated_point r key kind p)
  dated_there kind p i s = in_flat (dated_points r key) b.points p (dated_point r key kind p) i (by_kind kind s)
    where
      is_more : (l h : ℕ) → l < h → nat_lt l h ≡ true
      is_more l h m = grind (arith, nat_tests)

      is_moment : (l h : ℕ) → l ≡ h → nat_lt l h ≡ false
      is_moment l h m = grind (arith, nat_tests)

      of_test : (x : Bool) → nat_lt p.low p.high ≡ x → (e : PlainEntry) → Contains (cond x (dated_point r key Opening p ∷ dated_point r key Closing p ∷ []) (dated_point r key Settled p ∷ [])) e → Contains (dated_points r key p) e
      of_test x t e i = subst (λ y. Contains (cond y (dated_point r key Opening p ∷ dated_point r key Closing p ∷ []) (dated_point r key Settled p ∷ [])) e) (sym t) i

      by_kind : (kind : Kind) → Suits kind p → Contains (dated_points r key p) (dated_point r key kind p)
      by_kind Settled s = of_test false (is_moment p.low p.high s) (dated_point r key Settled p) (here (dated_point r key Settled p) [])
      by_kind Opening s = of_test true (is_more p.low p.high s) (dated_point r key Opening p) (here (dated_point r key Opening p) (dated_point r key Closing p ∷ []))
      by_kind Closing s = of_test true (is_more p.low p.high s) (dated_point r key Closing p) (there (dated_point r key Opening p) (dated_point r key Closing p ∷ []) (dated_point r key Closing p) (here (dated_point r key Closing p) []))

  -- an entry comes within its window
  pub within : (kind : Kind) (p : Point) → Contains b.points p → (p.low ≤ time_of kind p) × (time_of kind p ≤ p.high)
  within kind p i = by_kind kind (ordered b g.proper p i)
    where
      by_kind : (kind : Kind) → p.low ≤ p.high → (p.low ≤ time_of kind p) × (time_of kind p ≤ p.high)
      by_kind Settled o = (o, omega arith)
      by_kind Opening o = (omega arith, o)
      by_kind Closing o = (o, omega arith)

  pub late_time : (kind : Kind) (p : Point) → is_late kind ≡ true → time_of kind p ≡ p.high
  late_time Settled p h = refl
  late_time Opening p h = absurd (true≢false (sym h))
  late_time Closing p h = refl

  -- ---- the end of an uncertain action that a point with a window is

  pub end_of : (p : Point) → Contains b.points p → p.low < p.high → (o : Ending) × IsEndOf r (key p.step) p o
  end_of p i l = g.windows.ends p i l

  opening_end : (kind : Kind) (p : Point) → Contains b.points p → Suits kind p → is_opening kind ≡ true → (o : Ending) × Contains r.endings o × (o.key ≡ key p.step)
  opening_end Settled p i s h = absurd (true≢false (sym h))
  opening_end Closing p i s h = absurd (true≢false (sym h))
  opening_end Opening p i s h = let o = end_of p i s in (o.0, o.1.there, o.1.keyed)

  closing_end : (kind : Kind) (p : Point) → Contains b.points p → Suits kind p → is_closing kind ≡ true → (o : Ending) × Contains r.endings o × (o.key ≡ key p.step)
  closing_end Settled p i s h = absurd (true≢false (sym h))
  closing_end Opening p i s h = absurd (true≢false (sym h))
  closing_end Closing p i s h = let o = end_of p i s in (o.0, o.1.there, o.1.keyed)

  -- ---- what an entry writes

  module _ (kind : Kind) (p : Point) (i : Contains b.points p) (s : Suits kind p) where
    below : IsBelow r.plain p.event
    below = g.windows.below p i

    pub adds_plain : (a : ℕ) → a < r.plain → has (dated_point r key kind p).event.adds a ≡ (is_late kind && has p.event.adds a)
    adds_plain = at_plain r g.numbers p.event.adds (is_late kind) (is_opening kind) (key p.step) (adds_of r kind (key p.step) p.event) (adds_parts r kind (key p.step) p.event) below.adds (opening_end kind p i s)

    pub dels_plain : (a : ℕ) → a < r.plain → has (dated_point r key kind p).event.dels a ≡ (is_late kind && has p.event.dels a)
    dels_plain = at_plain r g.numbers p.event.dels (is_late kind) (is_closing kind) (key p.step) (dels_of r kind (key p.step) p.event) (dels_parts r kind (key p.step) p.event) below.dels (closing_end kind p i s)

    pub adds_shadow : (a : ℕ) → is_shadowed r a ≡ true → has (dated_point r key kind p).event.adds (r.shadow a) ≡ has p.event.adds a
    adds_shadow = at_shadow r g.numbers p.event.adds (is_late kind) (is_opening kind) (key p.step) (adds_of r kind (key p.step) p.event) (adds_parts r kind (key p.step) p.event) below.adds (opening_end kind p i s)

    pub dels_shadow : (a : ℕ) → is_shadowed r a ≡ true → has (dated_point r key kind p).event.dels (r.shadow a) ≡ has p.event.dels a
    dels_shadow = at_shadow r g.numbers p.event.dels (is_late kind) (is_closing kind) (key p.step) (dels_of r kind (key p.step) p.event) (dels_parts r kind (key p.step) p.event) below.dels (closing_end kind p i s)

    pub adds_opened : (o : Ending) → Contains r.endings o → has (dated_point r key kind p).event.adds (r.opened o.key) ≡ (is_opening kind && (o.key == key p.step))
    adds_opened = at_opened r g.numbers p.event.adds (is_late kind) (is_opening kind) (key p.step) (adds_of r kind (key p.step) p.event) (adds_parts r kind (key p.step) p.event) below.adds (opening_end kind p i s)

    pub dels_opened : (o : Ending) → Contains r.endings o → has (dated_point r key kind p).event.dels (r.opened o.key) ≡ (is_closing kind && (o.key == key p.step))
    dels_opened = at_opened r g.numbers p.event.dels (is_late kind) (is_closing kind) (key p.step) (dels_of r kind (key p.step) p.event) (dels_parts r kind (key p.step) p.event) below.dels (closing_end kind p i s)

    pub writes_plain : (a : ℕ) → a < r.plain → writes (dated_point r key kind p) a ≡ (is_late kind && sets p a)
    writes_plain a l = ap₂ (λ x y. x || y) (adds_plain a l) (dels_plain a l) ∙ both_parts (is_late kind) (has p.event.adds a) (has p.event.dels a)

    pub writes_shadow : (a : ℕ) → is_shadowed r a ≡ true → writes (dated_point r key kind p) (r.shadow a) ≡ sets p a
    writes_shadow a h = ap₂ (λ x y. x || y) (adds_shadow a h) (dels_shadow a h)

    pub writes_opened : (o : Ending) → Contains r.endings o → writes (dated_point r key kind p) (r.opened o.key) ≡ ((is_opening kind || is_closing kind) && (o.key == key p.step))
    writes_opened o j = ap₂ (λ x y. x || y) (adds_opened o j) (dels_opened o j) ∙ either_mark (is_opening kind) (is_closing kind) (o.key == key p.step)
