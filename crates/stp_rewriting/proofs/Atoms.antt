-- What rewritten events read and write: of plain atoms, of shadows and of opened atoms.
use Rattle.std.proofs.Common.{◌≡◌, ℕ, ◌<◌, ◌==◌, Bool, true, false, not, ◌&&◌, ◌||◌, List, [], ◌∷◌, ◌++◌, map, filter, Contains, ◌⊎◌, inl, inr, refl, sym, ◌∙◌, subst, ap, arith, true≢false, eqb-true, eq-eqb}
use Rattle.std.proofs.lemmas.List.Folds.{list_any-append}
use Rattle.stp_cond.specs.Atoms.{PlainEvent, has, interfere, set_of}
use Rattle.stp_cond.proofs.Interferes.{either}
use Rattle.stp_cond.proofs.Rising.{has_set, has_from_Contains, Contains_from_has}
use Rattle.stp_happen.proofs.Members.{member_map, mapped_member, kept_member, member_of_kept, same_tests, and_left, and_right, and_both}
use Rattle.stp_rewriting.specs.Rewritten.{Ending, Rewriting, Kind, Settled, Opening, Closing, is_shadowed, shadows, locks, reads_of, adds_of, dels_of}
use Rattle.stp_rewriting.specs.Fitting.{IsRewriting}

-- ---- tests

pub not_true : (b : Bool) → (b ≡ true → ⊥) → b ≡ false
not_true true h = absurd (h refl)
not_true false h = refl

pub first_holds : (b c : Bool) → b ≡ true → (b || c) ≡ true
first_holds b c h = grind arith

pub second_holds : (b c : Bool) → c ≡ true → (b || c) ≡ true
second_holds b c h = grind arith

pub not_same : (m n : ℕ) → (m ≡ n → ⊥) → not (m == n) ≡ true
not_same m n h = ap not (not_true (m == n) (λ e. h (eqb-true m n e)))

pub of_not_same : (m n : ℕ) → not (m == n) ≡ true → m ≡ n → ⊥
of_not_same m n h e = true≢false (sym h ∙ ap not (eq-eqb m n e))

-- ---- sets

pub set_cases : (xs ys : List ℕ) (x : ℕ) → has (set_of (xs ++ ys)) x ≡ true → (has xs x ≡ true) ⊎ (has ys x ≡ true)
set_cases xs ys x h = either (has xs x) (has ys x) (sym (list_any-append (λ a. a == x) xs ys) ∙ (sym (has_set (xs ++ ys) x) ∙ h))

pub set_left : (xs ys : List ℕ) (x : ℕ) → has xs x ≡ true → has (set_of (xs ++ ys)) x ≡ true
set_left xs ys x h = has_set (xs ++ ys) x ∙ (list_any-append (λ a. a == x) xs ys ∙ first_holds (has xs x) (has ys x) h)

pub set_right : (xs ys : List ℕ) (x : ℕ) → has ys x ≡ true → has (set_of (xs ++ ys)) x ≡ true
set_right xs ys x h = has_set (xs ++ ys) x ∙ (list_any-append (λ a. a == x) xs ys ∙ second_holds (has xs x) (has ys x) h)

only : (o x : ℕ) → has (o ∷ []) x ≡ true → x ≡ o
only o x h = elim (either (o == x) false h) [ inl e ↦ sym (eqb-true o x e) | inr e ↦ absurd (true≢false (sym e)) ]

alone : (o : ℕ) → has (o ∷ []) o ≡ true
alone o = first_holds (o == o) false (eq-eqb o o refl)

-- ---- which kinds write what

-- a settled event and a closing write plain atoms
abbrev pub is_late : Kind → Bool
is_late Settled = true
is_late Opening = false
is_late Closing = true

abbrev pub is_opening : Kind → Bool
is_opening Settled = false
is_opening Opening = true
is_opening Closing = false

abbrev pub is_closing : Kind → Bool
is_closing Settled = false
is_closing Opening = false
is_closing Closing = true

-- a settled event and an opening ask for what they need
abbrev pub asks : Kind → Bool
asks Settled = true
asks Opening = true
asks Closing = false

module _ (r : Rewriting) where
  in_shadows : (xs : List ℕ) (a : ℕ) → has xs a ≡ true → is_shadowed r a ≡ true → has (shadows r xs) (r.shadow a) ≡ true
  in_shadows xs a h s = has_from_Contains (shadows r xs) (r.shadow a) (member_map r.shadow (filter (is_shadowed r) xs) a (kept_member (is_shadowed r) xs a (Contains_from_has xs a h) s))

  of_shadows : (xs : List ℕ) (x : ℕ) → has (shadows r xs) x ≡ true → (a : ℕ) × (has xs a ≡ true) × (is_shadowed r a ≡ true) × (r.shadow a ≡ x)
  of_shadows xs x h =
      let m = mapped_member r.shadow (filter (is_shadowed r) xs) x (Contains_from_has (shadows r xs) x h) in
      let k = member_of_kept (is_shadowed r) xs m.0 m.1 in
      (m.0, has_from_Contains xs m.0 k.0, k.1, m.2)

  -- what a rewritten event writes one way, of what the event writes that way
  pub record Parts (xs : List ℕ) (late marks : Bool) (key : ℕ) (ys : List ℕ) : Type 0 where
    pub cases : (x : ℕ) → has ys x ≡ true → ((late ≡ true) × (has xs x ≡ true)) ⊎ ((has (shadows r xs) x ≡ true) ⊎ ((marks ≡ true) × (x ≡ r.opened key)))
    pub plain : (x : ℕ) → late ≡ true → has xs x ≡ true → has ys x ≡ true
    pub shadow : (x : ℕ) → has (shadows r xs) x ≡ true → has ys x ≡ true
    pub mark : marks ≡ true → has ys (r.opened key) ≡ true

  both_ways : (xs : List ℕ) (key : ℕ) → Parts xs true false key (set_of (xs ++ shadows r xs))
  both_ways xs key = record {
    cases = λ x h. elim (set_cases xs (shadows r xs) x h) [ inl k ↦ inl (refl, k) | inr k ↦ inr (inl k) ];
    plain = λ x l h. set_left xs (shadows r xs) x h;
    shadow = λ x h. set_right xs (shadows r xs) x h;
    mark = λ e. absurd (true≢false (sym e));
  }

  pub adds_parts : (kind : Kind) (key : ℕ) (e : PlainEvent) → Parts e.adds (is_late kind) (is_opening kind) key (adds_of r kind key e)
  adds_parts Settled key e = both_ways e.adds key
  adds_parts Closing key e = both_ways e.adds key
  adds_parts Opening key e = record {
    cases = λ x h. elim (set_cases (shadows r e.adds) (r.opened key ∷ []) x h) [ inl k ↦ inr (inl k) | inr k ↦ inr (inr (refl, only (r.opened key) x k)) ];
    plain = λ x l h. absurd (true≢false (sym l));
    shadow = λ x h. set_left (shadows r e.adds) (r.opened key ∷ []) x h;
    mark = λ e'. set_right (shadows r e.adds) (r.opened key ∷ []) (r.opened key) (alone (r.opened key));
  }

  pub dels_parts : (kind : Kind) (key : ℕ) (e : PlainEvent) → Parts e.dels (is_late kind) (is_closing kind) key (dels_of r kind key e)
  dels_parts Settled key e = both_ways e.dels key
  dels_parts Opening key e = record {
    cases = λ x h. inr (inl (sym (has_set (shadows r e.dels) x) ∙ h));
    plain = λ x l h. absurd (true≢false (sym l));
    shadow = λ x h. has_set (shadows r e.dels) x ∙ h;
    mark = λ e'. absurd (true≢false (sym e'));
  }
  dels_parts Closing key e = record {
    cases = λ x h. elim (set_cases (e.dels ++ shadows r e.dels) (r.opened key ∷ []) x h) [
      | inl k ↦ elim (either (has e.dels x) (has (shadows r e.dels) x) (sym (list_any-append (λ a. a == x) e.dels (shadows r e.dels)) ∙ k)) [ inl m ↦ inl (refl, m) | inr m ↦ inr (inl m) ]
      | inr k ↦ inr (inr (refl, only (r.opened key) x k))
    ];
    plain = λ x l h. set_left (e.dels ++ shadows r e.dels) (r.opened key ∷ []) x (list_any-append (λ a. a == x) e.dels (shadows r e.dels) ∙ first_holds (has e.dels x) (has (shadows r e.dels) x) h);
    shadow = λ x h. set_left (e.dels ++ shadows r e.dels) (r.opened key ∷ []) x (list_any-append (λ a. a == x) e.dels (shadows r e.dels) ∙ second_holds (has e.dels x) (has (shadows r e.dels) x) h);
    mark = λ e'. set_right (e.dels ++ shadows r e.dels) (r.opened key ∷ []) (r.opened key) (alone (r.opened key));
  }

  -- the end of another uncertain action that interferes with an event of an action
  pub record IsLock (key : ℕ) (e : PlainEvent) (o : Ending) : Type 0 where
    pub there : Contains r.endings o
    pub other : o.key ≡ key → ⊥
    pub interfere : interfere e o.event ≡ true

  abbrev locks_event : ℕ → PlainEvent → Ending → Bool
  locks_event key e o = not (o.key == key) && interfere e o.event

  pub lock_of : (key : ℕ) (e : PlainEvent) (o : Ending) → Contains (locks r key e) o → IsLock key e o
  lock_of key e o i =
      let m = member_of_kept (locks_event key e) r.endings o i in
      record { there = m.0; other = of_not_same o.key key (and_left (not (o.key == key)) (interfere e o.event) m.1); interfere = and_right (not (o.key == key)) (interfere e o.event) m.1 }

  pub lock_there : (key : ℕ) (e : PlainEvent) (o : Ending) → IsLock key e o → Contains (locks r key e) o
  lock_there key e o l = kept_member (locks_event key e) r.endings o l.there (and_both (not (o.key == key)) (interfere e o.event) (not_same o.key key l.other) l.interfere)

  locked_cases : (key : ℕ) (e : PlainEvent) (x : ℕ) → has (reads_of r Settled key e) x ≡ true → (has e.reads x ≡ true) ⊎ ((o : Ending) × IsLock key e o × (r.opened o.key ≡ x))
  locked_cases key e x h = elim (set_cases e.reads (map (λ o. r.opened o.key) (locks r key e)) x h) [
    | inl k ↦ inl k
    | inr k ↦
        let m = mapped_member (λ (o : Ending). r.opened o.key) (locks r key e) x (Contains_from_has (map (λ o. r.opened o.key) (locks r key e)) x k) in
        inr (m.0, lock_of key e m.0 m.1, m.2)
  ]

  pub reads_cases : (kind : Kind) (key : ℕ) (e : PlainEvent) (x : ℕ) → has (reads_of r kind key e) x ≡ true → (has e.reads x ≡ true) ⊎ ((o : Ending) × IsLock key e o × (r.opened o.key ≡ x))
  reads_cases Settled key e x h = locked_cases key e x h
  reads_cases Opening key e x h = locked_cases key e x h
  reads_cases Closing key e x h = absurd (true≢false (sym h))

  locked_plain : (key : ℕ) (e : PlainEvent) (x : ℕ) → has e.reads x ≡ true → has (reads_of r Settled key e) x ≡ true
  locked_plain key e x h = set_left e.reads (map (λ o. r.opened o.key) (locks r key e)) x h

  pub reads_plain : (kind : Kind) (key : ℕ) (e : PlainEvent) (x : ℕ) → asks kind ≡ true → has e.reads x ≡ true → has (reads_of r kind key e) x ≡ true
  reads_plain Settled key e x k h = locked_plain key e x h
  reads_plain Opening key e x k h = locked_plain key e x h
  reads_plain Closing key e x k h = absurd (true≢false (sym k))

  locked_opened : (key : ℕ) (e : PlainEvent) (o : Ending) → IsLock key e o → has (reads_of r Settled key e) (r.opened o.key) ≡ true
  locked_opened key e o l =
      let os = map (λ o. r.opened o.key) (locks r key e) in
      set_right e.reads os (r.opened o.key) (has_from_Contains os (r.opened o.key) (member_map (λ (o : Ending). r.opened o.key) (locks r key e) o (lock_there key e o l)))

  pub reads_opened : (kind : Kind) (key : ℕ) (e : PlainEvent) (o : Ending) → asks kind ≡ true → IsLock key e o → has (reads_of r kind key e) (r.opened o.key) ≡ true
  reads_opened Settled key e o k l = locked_opened key e o l
  reads_opened Opening key e o k l = locked_opened key e o l
  reads_opened Closing key e o k l = absurd (true≢false (sym k))

  -- ---- by classes of atoms

  module _ (fits : IsRewriting r) (xs : List ℕ) (late marks : Bool) (key : ℕ) (ys : List ℕ) (parts : Parts xs late marks key ys)
      (below : (a : ℕ) → has xs a ≡ true → a < r.plain) (marked : marks ≡ true → (o : Ending) × Contains r.endings o × (o.key ≡ key)) where
    pub at_plain : (a : ℕ) → a < r.plain → has ys a ≡ (late && has xs a)
    at_plain a l = same_tests (has ys a) (late && has xs a)
        (λ h. elim (parts.cases a h) [
          | inl k ↦ and_both late (has xs a) k.0 k.1
          | inr k ↦ elim k [
            | inl m ↦ let s = of_shadows xs a m in absurd (omega (arith, fits.shadow_above s.0 s.2, s.3, l))
            | inr m ↦ let o = marked m.0 in absurd (omega (arith, fits.opened_above o.0 o.1, ap r.opened o.2, m.1, l))
          ]
        ])
        (λ h. parts.plain a (and_left late (has xs a) h) (and_right late (has xs a) h))

    pub at_shadow : (a : ℕ) → is_shadowed r a ≡ true → has ys (r.shadow a) ≡ has xs a
    at_shadow a s = same_tests (has ys (r.shadow a)) (has xs a)
        (λ h. elim (parts.cases (r.shadow a) h) [
          | inl k ↦ absurd (omega (arith, below (r.shadow a) k.1, fits.shadow_above a s))
          | inr k ↦ elim k [
            | inl m ↦ let c = of_shadows xs (r.shadow a) m in subst (λ x. has xs x ≡ true) (fits.shadow_once c.0 a c.2 s c.3) c.1
            | inr m ↦ let o = marked m.0 in absurd (fits.opened_apart o.0 a o.1 s (ap r.opened o.2 ∙ sym m.1))
          ]
        ])
        (λ h. parts.shadow (r.shadow a) (in_shadows xs a h s))

    pub at_opened : (o : Ending) → Contains r.endings o → has ys (r.opened o.key) ≡ (marks && (o.key == key))
    at_opened o i = same_tests (has ys (r.opened o.key)) (marks && (o.key == key))
        (λ h. elim (parts.cases (r.opened o.key) h) [
          | inl k ↦ absurd (omega (arith, below (r.opened o.key) k.1, fits.opened_above o i))
          | inr k ↦ elim k [
            | inl m ↦ let c = of_shadows xs (r.opened o.key) m in absurd (fits.opened_apart o c.0 i c.2 (sym c.3))
            | inr m ↦
                let p = marked m.0 in
                let same : o ≡ p.0 = fits.opened_once o p.0 i p.1 (m.1 ∙ sym (ap r.opened p.2)) in
                and_both marks (o.key == key) m.0 (eq-eqb o.key key (ap (λ (x : Ending). x.key) same ∙ p.2))
          ]
        ])
        (λ h. subst (λ k. has ys (r.opened k) ≡ true) (sym (eqb-true o.key key (and_right marks (o.key == key) h))) (parts.mark (and_left marks (o.key == key) h)))

    -- what is written is a plain atom, the shadow of one, or the action's opened atom
    pub written_cases : (x : ℕ) → has ys x ≡ true → ((has xs x ≡ true) × (late ≡ true)) ⊎ (((a : ℕ) × (has xs a ≡ true) × (is_shadowed r a ≡ true) × (r.shadow a ≡ x)) ⊎ ((marks ≡ true) × (x ≡ r.opened key)))
    written_cases x h = elim (parts.cases x h) [
      | inl k ↦ inl (k.1, k.0)
      | inr k ↦ elim k [ inl m ↦ inr (inl (of_shadows xs x m)) | inr m ↦ inr (inr m) ]
    ]
