-- Members of lists, and tests of all or some of them.
use Rattle.std.proofs.Common.{◌≡◌, ℕ, zero, suc, ◌<◌, Bool, true, false, ◌&&◌, ◌||◌, cond, List, [], ◌∷◌, length, filter, get_or, Contains, ◌⊎◌, inl, inr, refl, ap, sym, ◌∙◌, subst, arith, true≢false}
use Rattle.std.specs.List.{list_any, list_all}

pub here : {X : Type 0} (x : X) (xs : List X) → Contains (x ∷ xs) x
here x xs = (0, omega arith, refl)

pub there : {X : Type 0} (y : X) (xs : List X) (x : X) → Contains xs x → Contains (y ∷ xs) x
there y xs x i = (suc i.0, omega (arith, i.1), i.2)

at_cases : {X : Type 0} (y : X) (xs : List X) (x : X) (k : ℕ) → k < length (y ∷ xs) → get_or (y ∷ xs) k x ≡ x → (y ≡ x) ⊎ Contains xs x
at_cases y xs x zero l e = inl e
at_cases y xs x (suc k) l e = inr (k, omega (arith, l), e)

pub member_cases : {X : Type 0} (y : X) (xs : List X) (x : X) → Contains (y ∷ xs) x → (y ≡ x) ⊎ Contains xs x
member_cases y xs x i = at_cases y xs x i.0 i.1 i.2

pub member_nil : {X : Type 0} (x : X) → Contains [] x → ⊥
member_nil x i = omega (arith, i.1)

-- ---- tests

pub not_true : (b : Bool) → (b ≡ true → ⊥) → b ≡ false
not_true true h = absurd (h refl)
not_true false h = refl

pub or_left : (b c : Bool) → b ≡ true → (b || c) ≡ true
or_left b c e = grind arith

pub or_right : (b c : Bool) → c ≡ true → (b || c) ≡ true
or_right b c e = grind arith

pub or_cases : (b c : Bool) → (b || c) ≡ true → (b ≡ true) ⊎ (c ≡ true)
or_cases true c e = inl refl
or_cases false c e = inr e

pub and_left : (b c : Bool) → (b && c) ≡ true → b ≡ true
and_left b c e = grind arith

pub and_right : (b c : Bool) → (b && c) ≡ true → c ≡ true
and_right b c e = grind arith

pub and_both : (b c : Bool) → b ≡ true → c ≡ true → (b && c) ≡ true
and_both b c d e = grind arith

pub passing_member : {X : Type 0} (p : X → Bool) (xs : List X) → list_any p xs ≡ true → (x : X) × Contains xs x × (p x ≡ true)
passing_member p [] e = absurd (true≢false (sym e))
passing_member p (x ∷ xs) e =
    elim (or_cases (p x) (list_any p xs) e) [ inl h ↦ (x, here x xs, h) | inr h ↦ let r = passing_member p xs h in (r.0, there x xs r.0 r.1, r.2) ]

pub any_passes : {X : Type 0} (p : X → Bool) (xs : List X) (x : X) → Contains xs x → p x ≡ true → list_any p xs ≡ true
any_passes p [] x i e = absurd (member_nil x i)
any_passes p (y ∷ ys) x i e =
    elim (member_cases y ys x i) [ inl h ↦ or_left (p y) (list_any p ys) (ap p h ∙ e) | inr j ↦ or_right (p y) (list_any p ys) (any_passes p ys x j e) ]

pub all_pass : {X : Type 0} (p : X → Bool) (xs : List X) → ((x : X) → Contains xs x → p x ≡ true) → list_all p xs ≡ true
all_pass p [] h = refl
all_pass p (x ∷ xs) h = and_both (p x) (list_all p xs) (h x (here x xs)) (all_pass p xs (λ y i. h y (there x xs y i)))

pub each_passes : {X : Type 0} (p : X → Bool) (xs : List X) → list_all p xs ≡ true → (x : X) → Contains xs x → p x ≡ true
each_passes p [] e x i = absurd (member_nil x i)
each_passes p (y ∷ ys) e x i =
    elim (member_cases y ys x i) [ inl h ↦ ap p (sym h) ∙ and_left (p y) (list_all p ys) e | inr j ↦ each_passes p ys (and_right (p y) (list_all p ys) e) x j ]

-- ---- what passes a test

pub any_filter : {X : Type 0} (p q : X → Bool) (xs : List X) → list_any q (filter p xs) ≡ list_any (λ x. p x && q x) xs
any_filter p q [] = refl
any_filter p q (x ∷ xs) = by_test (p x) ∙ ap (λ b. (p x && q x) || b) (any_filter p q xs)
  where
    by_test : (b : Bool) → list_any q (cond b (x ∷ filter p xs) (filter p xs)) ≡ ((b && q x) || list_any q (filter p xs))
    by_test true = refl
    by_test false = refl

pub passed : {X : Type 0} (p : X → Bool) (xs : List X) (x : X) → Contains (filter p xs) x → Contains xs x × (p x ≡ true)
passed p [] x i = absurd (member_nil x i)
passed p (y ∷ ys) x i = by_test p y ys x (p y) refl i (passed p ys x)
  where
    by_test : {X : Type 0} (p : X → Bool) (y : X) (ys : List X) (x : X) (b : Bool) → p y ≡ b → Contains (filter p (y ∷ ys)) x → (Contains (filter p ys) x → Contains ys x × (p x ≡ true)) → Contains (y ∷ ys) x × (p x ≡ true)
    by_test p y ys x true e i more =
        elim (member_cases y (filter p ys) x (rw e at i)) [ inl h ↦ (subst (λ z. Contains (y ∷ ys) z) h (here y ys), ap p (sym h) ∙ e) | inr j ↦ (there y ys x (more j).0, (more j).1) ]
    by_test p y ys x false e i more = let r = more (rw e at i) in (there y ys x r.0, r.1)
