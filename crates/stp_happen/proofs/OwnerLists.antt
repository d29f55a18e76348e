-- The owners of steps and events: their numbers, their order, and finer ones.
use Rattle.std.proofs.Common.{◌≡◌, ℕ, ◌+◌, ◌*◌, ◌<◌, ◌≤◌, nat_lt, Bool, true, false, not, ◌&&◌, ◌||◌, cond, List, [], ◌∷◌, ◌++◌, map, length, Contains, Some, None, ◌⊎◌, inl, inr, refl, ap, ap₂, sym, ◌∙◌, subst, arith, true≢false}
use Rattle.std.specs.List.{list_all}
use Rattle.std.proofs.lemmas.Bool.Decides.{nat_tests}
use Rattle.std.proofs.lemmas.List.{map-append, length-map}
use Rattle.std.proofs.lemmas.List.Elements.{Contains-append_cases}
use Rattle.stp_happen.specs.Sound.{is_ascending}
use Rattle.stp_happen.specs.Boxes.{PlainOwner, finer_owner}
use Rattle.stp_happen.specs.Owners.{PlainBoxStep, PlainBoxTimed, step_owner, step_owners, timed_owner, number_after, timed_owners, owners_of, timed_before, IsTimed, AreTimedApart, AreNumbered, AreInOrder, finer_step, finer_timed, OwnersAreFiner}
use Rattle.stp_happen.proofs.Members.{here, there, member_cases, member_nil, all_of, each_passes, and_left, and_right}

-- ---- which step or event an owner is of

pub record OfStep (number : ℕ) (steps : List PlainBoxStep) (o : PlainOwner) : Type 0 where
  pub s : PlainBoxStep
  pub m : ℕ
  pub low : number ≤ m
  pub high : m < number + length steps
  pub member : Contains steps s
  pub is : o ≡ step_owner m s

pub in_steps : (number : ℕ) (steps : List PlainBoxStep) (o : PlainOwner) → Contains (step_owners number steps) o → OfStep number steps o
in_steps number [] o i = absurd (member_nil o i)
in_steps number (s ∷ ss) o i = elim (member_cases (step_owner number s) (step_owners (number + 1) ss) o i) [
  | inl e ↦ record { s = s; m = number; low = omega arith; high = omega arith; member = here s ss; is = sym e }
  | inr j ↦
      let r = in_steps (number + 1) ss o j in
      let low : number + 1 ≤ r.m = r.low in
      let high : r.m < (number + 1) + length ss = r.high in
      record { s = r.s; m = r.m; low = omega arith; high = omega arith; member = there s ss r.s r.member; is = r.is }
]

pub record OfTimed (number : ℕ) (timed : List PlainBoxTimed) (o : PlainOwner) : Type 0 where
  pub e : PlainBoxTimed
  pub m : ℕ
  pub low : number ≤ m
  pub member : Contains timed e
  pub is : o ≡ timed_owner m e

after_up : (number : ℕ) (e : PlainBoxTimed) → number ≤ number_after number e
after_up number e = by_kind number e.uncertain
  where
    by_kind : (number : ℕ) (b : Bool) → number ≤ cond b (number + 1) number
    by_kind number true = omega arith
    by_kind number false = omega arith

pub in_timed : (number : ℕ) (timed : List PlainBoxTimed) (o : PlainOwner) → Contains (timed_owners number timed) o → OfTimed number timed o
in_timed number [] o i = absurd (member_nil o i)
in_timed number (e ∷ es) o i = elim (member_cases (timed_owner number e) (timed_owners (number_after number e) es) o i) [
  | inl h ↦ record { e = e; m = number; low = omega arith; member = here e es; is = sym h }
  | inr j ↦
      let r = in_timed (number_after number e) es o j in
      let low : number_after number e ≤ r.m = r.low in
      let up : number ≤ number_after number e = after_up number e in
      record { e = r.e; m = r.m; low = omega arith; member = there e es r.e r.member; is = r.is }
]

-- ---- numbers

-- an owner of an event has the number 0, or one from here on
timed_number : (number : ℕ) (timed : List PlainBoxTimed) (o : PlainOwner) → Contains (timed_owners number timed) o → (o.number ≡ 0) ⊎ (number ≤ o.number)
timed_number number timed o i = let r = in_timed number timed o i in subst (λ (x : PlainOwner). (x.number ≡ 0) ⊎ (number ≤ x.number)) (sym r.is) (by_kind number r.m r.e.uncertain r.low)
  where
    by_kind : (number m : ℕ) (b : Bool) → number ≤ m → (cond b m 0 ≡ 0) ⊎ (number ≤ cond b m 0)
    by_kind number m true l = inr l
    by_kind number m false l = inl refl

numbered_steps : (number : ℕ) (steps : List PlainBoxStep) (rest : List PlainOwner) → 1 ≤ number → ((y : PlainOwner) → Contains rest y → (y.number ≡ 0) ⊎ (number + length steps ≤ y.number)) → AreNumbered rest →
    AreNumbered (step_owners number steps ++ rest)
numbered_steps number [] rest l above h = h
numbered_steps number (s ∷ ss) rest l above h = (
  all_of (λ y. number ≡ y.number → AreTimedApart (step_owner number s) y) (step_owners (number + 1) ss ++ rest) (λ y i e. absurd (elim (Contains-append_cases (step_owners (number + 1) ss) rest y i) [
    | inl j ↦ let r = in_steps (number + 1) ss y j in let low : number + 1 ≤ r.m = r.low in let n : y.number ≡ r.m = ap (λ (x : PlainOwner). x.number) r.is in omega arith
    | inr j ↦ elim (above y j) [ inl z ↦ omega arith | inr k ↦ omega arith ]
  ])),
  numbered_steps (number + 1) ss rest (omega arith) (λ y i. elim (above y i) [ inl z ↦ inl z | inr k ↦ inr (omega arith) ]) h,
)

both_fixed : (b c : Bool) (number m : ℕ) → 1 ≤ number → cond b (number + 1) number ≤ m → cond b number 0 ≡ cond c m 0 → (b ≡ false) × (c ≡ false)
both_fixed true true number m h l e = absurd (omega arith)
both_fixed true false number m h l e = absurd (omega arith)
both_fixed false true number m h l e = absurd (omega arith)
both_fixed false false number m h l e = (refl, refl)

later_fixed : (b c : Bool) (m n : ℕ) → b ≡ false → c ≡ false → (c || (not b && nat_lt m n)) ≡ true → m < n
later_fixed true c m n e f h = absurd (true≢false e)
later_fixed false true m n e f h = absurd (true≢false f)
later_fixed false false m n e f h = grind (arith, nat_tests)

-- two events of one number are at fixed moments, the second at a later one
numbered_timed : (number : ℕ) (timed : List PlainBoxTimed) → 1 ≤ number → is_ascending timed_before timed ≡ true → AreNumbered (timed_owners number timed)
numbered_timed number [] l up = tt
numbered_timed number (e ∷ es) l up = (
  all_of (λ y. (timed_owner number e).number ≡ y.number → AreTimedApart (timed_owner number e) y) (timed_owners (number_after number e) es) (λ y i same.
      let r = in_timed (number_after number e) es y i in
      let fixed = both_fixed e.uncertain r.e.uncertain number r.m l r.low (same ∙ ap (λ (x : PlainOwner). x.number) r.is) in
      let before : timed_before e r.e ≡ true = each_passes (timed_before e) es (and_left (list_all (timed_before e) es) (is_ascending timed_before es) up) r.e r.member in
      let late : e.high < r.e.high = later_fixed e.uncertain r.e.uncertain e.high r.e.high fixed.0 fixed.1 before in
      record {
        one = record { first = refl; inside = refl; certain = fixed.0 };
        other = subst IsTimed (sym r.is) (record { first = refl; inside = refl; certain = fixed.1 });
        apart = λ h. let high : y.high ≡ r.e.high = ap (λ (x : PlainOwner). x.high) r.is in omega arith;
      }),
  numbered_timed (number_after number e) es (let a : number ≤ number_after number e = after_up number e in omega arith) (and_right (list_all (timed_before e) es) (is_ascending timed_before es) up),
)

pub owners_are_numbered : (steps : List PlainBoxStep) (timed : List PlainBoxTimed) → is_ascending timed_before timed ≡ true → AreNumbered (owners_of steps timed)
owners_are_numbered steps timed up =
    numbered_steps 1 steps (timed_owners (length steps + 1) timed) (omega arith)
    (λ y i. elim (timed_number (length steps + 1) timed y i) [ inl z ↦ inl z | inr k ↦ inr (omega arith) ])
    (numbered_timed (length steps + 1) timed (omega arith) up)

-- ---- order

-- all but the events at fixed moments have numbers from here on
own_number : (number : ℕ) (timed : List PlainBoxTimed) (y : PlainOwner) → Contains (timed_owners number timed) y → (IsTimed y → ⊥) → number ≤ y.number
own_number number timed y i other = let r = in_timed number timed y i in subst (λ (x : PlainOwner). number ≤ x.number) (sym r.is) (by_kind number r.m r.e r.low r.e.uncertain refl (λ t. other (subst IsTimed (sym r.is) t)))
  where
    by_kind : (number m : ℕ) (e : PlainBoxTimed) → number ≤ m → (b : Bool) → e.uncertain ≡ b → (IsTimed (timed_owner m e) → ⊥) → number ≤ cond e.uncertain m 0
    by_kind number m e l true h other = rw h l
    by_kind number m e l false h other = absurd (other (record { first = refl; inside = refl; certain = h }))

timed_in_order : (number : ℕ) (timed : List PlainBoxTimed) → 1 ≤ number → AreInOrder (timed_owners number timed)
timed_in_order number [] l = tt
timed_in_order number (e ∷ es) l = (
  all_of (λ y. (IsTimed y → ⊥) → (timed_owner number e).number < y.number) (timed_owners (number_after number e) es) (λ y i other. by_kind number y.number e.uncertain l (own_number (number_after number e) es y i other)),
  timed_in_order (number_after number e) es (let a : number ≤ number_after number e = after_up number e in omega arith),
)
  where
    by_kind : (number n : ℕ) (b : Bool) → 1 ≤ number → cond b (number + 1) number ≤ n → cond b number 0 < n
    by_kind number n true l k = omega arith
    by_kind number n false l k = omega arith

steps_in_order : (number : ℕ) (steps : List PlainBoxStep) (rest : List PlainOwner) → ((y : PlainOwner) → Contains rest y → (IsTimed y → ⊥) → number + length steps ≤ y.number) → AreInOrder rest →
    AreInOrder (step_owners number steps ++ rest)
steps_in_order number [] rest above h = h
steps_in_order number (s ∷ ss) rest above h = (
  all_of (λ y. (IsTimed y → ⊥) → number < y.number) (step_owners (number + 1) ss ++ rest) (λ y i other. elim (Contains-append_cases (step_owners (number + 1) ss) rest y i) [
    | inl j ↦ let r = in_steps (number + 1) ss y j in let low : number + 1 ≤ r.m = r.low in let n : y.number ≡ r.m = ap (λ (x : PlainOwner). x.number) r.is in omega arith
    | inr j ↦ let k : number + length (s ∷ ss) ≤ y.number = above y j other in omega arith
  ]),
  steps_in_order (number + 1) ss rest (λ y i other. let k : number + length (s ∷ ss) ≤ y.number = above y i other in omega arith) h,
)

pub owners_are_in_order : (steps : List PlainBoxStep) (timed : List PlainBoxTimed) → AreInOrder (owners_of steps timed)
owners_are_in_order steps timed =
    steps_in_order 1 steps (timed_owners (length steps + 1) timed)
    (λ y i other. let k : length steps + 1 ≤ y.number = own_number (length steps + 1) timed y i other in omega arith)
    (timed_in_order (length steps + 1) timed (omega arith))

-- ---- finer grids

finer_steps : (k number : ℕ) (steps : List PlainBoxStep) → step_owners number (map (finer_step k) steps) ≡ map (finer_owner k) (step_owners number steps)
finer_steps k number [] = refl
finer_steps k number (s ∷ ss) = ap (λ os. step_owner number (finer_step k s) ∷ os) (finer_steps k (number + 1) ss)

-- 0 stays 0
finer_event : (k number : ℕ) (e : PlainBoxTimed) → timed_owner number (finer_timed k e) ≡ finer_owner k (timed_owner number e)
finer_event k number e = ap (λ (t : ℕ). let o : PlainOwner = record { number = cond e.uncertain number 0; start = t; low = k * e.low; high = k * e.high; uncertain = e.uncertain; first = None; last = Some e.event; inside = None } in o) (nothing k)
  where
    nothing : (k : ℕ) → 0 ≡ k * 0
    nothing k = omega arith

finer_events : (k number : ℕ) (timed : List PlainBoxTimed) → timed_owners number (map (finer_timed k) timed) ≡ map (finer_owner k) (timed_owners number timed)
finer_events k number [] = refl
finer_events k number (e ∷ es) = ap₂ (λ o os. o ∷ os) (finer_event k number e) (finer_events k (number_after number e) es)

pub owners_are_finer : OwnersAreFiner
owners_are_finer k steps timed =
    ap (λ n. step_owners 1 (map (finer_step k) steps) ++ timed_owners (n + 1) (map (finer_timed k) timed)) (length-map steps (finer_step k))
    ∙ (ap₂ (λ os ps. os ++ ps) (finer_steps k 1 steps) (finer_events k (length steps + 1) timed)
    ∙ sym (map-append (finer_owner k) (step_owners 1 steps) (timed_owners (length steps + 1) timed)))
