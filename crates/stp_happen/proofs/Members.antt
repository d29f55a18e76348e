-- Members of lists, and tests of all or some of them.
use Rattle.std.proofs.Common.{◌≡◌, ℕ, zero, suc, ◌<◌, Bool, true, false, ◌&&◌, ◌||◌, cond, List, [], ◌∷◌, map, length, filter, get_or, All, Contains, ◌⊎◌, inl, inr, refl, ap, sym, ◌∙◌, subst, arith, true≢false}
use Rattle.std.specs.List.{list_any, list_all}
use Rattle.std.proofs.lemmas.List.Elements.{All-weaker, All-contains_itself, All-contains}

-- ---- members

pub here : {X : Type 0} (x : X) (xs : List X) → Contains (x ∷ xs) x
here x xs = (0, omega arith, refl)

pub there : {X : Type 0} (y : X) (xs : List X) (x : X) → Contains xs x → Contains (y ∷ xs) x
there y xs x i = (suc i.0, omega (arith, i.1), i.2)

at_cases : {X : Type 0} (y : X) (xs : List X) (x : X) (k : ℕ) → k < length (y ∷ xs) → get_or (y ∷ xs) k x ≡ x → (y ≡ x) ⊎ Contains xs x
at_cases y xs x zero l e = inl e
at_cases y xs x (suc k) l e = inr (k, omega (arith, l), e)

pub member_cases : {X : Type 0} (y : X) (xs : List X) (x : X) → Contains (y ∷ xs) x → (y ≡ x) ⊎ Contains xs x
member_cases y xs x i = at_cases y xs x i.0 i.1 i.2

pub member_nil : {X : Type 0} (x : X) → Contains [] x → ⊥
member_nil x i = omega (arith, i.1)

pub member_map : {X Y : Type 0} (f : X → Y) (xs : List X) (x : X) → Contains xs x → Contains (map f xs) (f x)
member_map f [] x i = absurd (member_nil x i)
member_map f (y ∷ ys) x i =
    elim (member_cases y ys x i) [ inl e ↦ subst (λ z. Contains (f y ∷ map f ys) (f z)) e (here (f y) (map f ys)) | inr j ↦ there (f y) (map f ys) (f x) (member_map f ys x j) ]

pub mapped_member : {X Y : Type 0} (f : X → Y) (xs : List X) (y : Y) → Contains (map f xs) y → (x : X) × Contains xs x × (f x ≡ y)
mapped_member f [] y i = absurd (member_nil y i)
mapped_member f (x ∷ xs) y i =
    elim (member_cases (f x) (map f xs) y i) [ inl e ↦ (x, here x xs, e) | inr j ↦ let r = mapped_member f xs y j in (r.0, there x xs r.0 r.1, r.2) ]

-- ---- facts of all members

pub all_of : {X : Type 0} (P : X → Type 0) (xs : List X) → ((x : X) → Contains xs x → P x) → All P xs
all_of P xs h = All-weaker (Contains xs) P h xs (All-contains_itself xs)

pub each_of : {X : Type 0} (P : X → Type 0) (xs : List X) → All P xs → (x : X) → Contains xs x → P x
each_of P xs h x i = All-contains P xs x h i

pub all_pairs : {X Y : Type 0} (P : X → Y → Type 0) (xs : List X) (ys : List Y) → ((x : X) (y : Y) → Contains xs x → Contains ys y → P x y) → All (λ x. All (P x) ys) xs
all_pairs P xs ys h = all_of (λ x. All (P x) ys) xs (λ x i. all_of (P x) ys (λ y j. h x y i j))

pub each_pair : {X Y : Type 0} (P : X → Y → Type 0) (xs : List X) (ys : List Y) → All (λ x. All (P x) ys) xs → (x : X) (y : Y) → Contains xs x → Contains ys y → P x y
each_pair P xs ys h x y i j = each_of (P x) ys (each_of (λ x. All (P x) ys) xs h x i) y j

pub each_mapped : {X Y : Type 0} (f : X → Y) (P : Y → Type 0) (xs : List X) → ((x : X) → Contains xs x → P (f x)) → (y : Y) → Contains (map f xs) y → P y
each_mapped f P xs h y i = let r = mapped_member f xs y i in subst P r.2 (h r.0 r.1)

-- ---- tests

pub same_tests : (b c : Bool) → (b ≡ true → c ≡ true) → (c ≡ true → b ≡ true) → b ≡ c
same_tests true true f g = refl
same_tests true false f g = sym (f refl)
same_tests false true f g = g refl
same_tests false false f g = refl

or_cases : (b c : Bool) → (b || c) ≡ true → (b ≡ true) ⊎ (c ≡ true)
or_cases true c e = inl refl
or_cases false c e = inr e

or_left : (b c : Bool) → b ≡ true → (b || c) ≡ true
or_left b c e = grind arith

or_right : (b c : Bool) → c ≡ true → (b || c) ≡ true
or_right b c e = grind arith

pub and_left : (b c : Bool) → (b && c) ≡ true → b ≡ true
and_left b c e = grind arith

pub and_right : (b c : Bool) → (b && c) ≡ true → c ≡ true
and_right b c e = grind arith

pub and_both : (b c : Bool) → b ≡ true → c ≡ true → (b && c) ≡ true
and_both b c d e = grind arith

pub passing_member : {X : Type 0} (p : X → Bool) (xs : List X) → list_any p xs ≡ true → (x : X) × Contains xs x × (p x ≡ true)
passing_member p [] e = absurd (true≢false (sym e))
passing_member p (x ∷ xs) e =
    elim (or_cases (p x) (list_any p xs) e) [ inl h ↦ (x, here x xs, h) | inr h ↦ let r = passing_member p xs h in (r.0, there x xs r.0 r.1, r.2) ]

pub any_passes : {X : Type 0} (p : X → Bool) (xs : List X) (x : X) → Contains xs x → p x ≡ true → list_any p xs ≡ true
any_passes p [] x i e = absurd (member_nil x i)
any_passes p (y ∷ ys) x i e =
    elim (member_cases y ys x i) [ inl h ↦ or_left (p y) (list_any p ys) (ap p h ∙ e) | inr j ↦ or_right (p y) (list_any p ys) (any_passes p ys x j e) ]

pub each_passes : {X : Type 0} (p : X → Bool) (xs : List X) → list_all p xs ≡ true → (x : X) → Contains xs x → p x ≡ true
each_passes p [] e x i = absurd (member_nil x i)
each_passes p (y ∷ ys) e x i =
    elim (member_cases y ys x i) [ inl h ↦ ap p (sym h) ∙ and_left (p y) (list_all p ys) e | inr j ↦ each_passes p ys (and_right (p y) (list_all p ys) e) x j ]

pub all_pass : {X : Type 0} (p : X → Bool) (xs : List X) → ((x : X) → Contains xs x → p x ≡ true) → list_all p xs ≡ true
all_pass p [] h = refl
all_pass p (x ∷ xs) h = and_both (p x) (list_all p xs) (h x (here x xs)) (all_pass p xs (λ y i. h y (there x xs y i)))

-- ---- a filter keeps the members that pass

pub kept_member : {X : Type 0} (p : X → Bool) (xs : List X) (x : X) → Contains xs x → p x ≡ true → Contains (filter p xs) x
kept_member p [] x i e = absurd (member_nil x i)
kept_member p (y ∷ ys) x i e = elim (member_cases y ys x i) [ inl h ↦ kept_here p y ys x h e | inr j ↦ kept_there p y ys x (p y) refl (kept_member p ys x j e) ]
  where
    kept_here : {X : Type 0} (p : X → Bool) (y : X) (ys : List X) (x : X) → y ≡ x → p x ≡ true → Contains (filter p (y ∷ ys)) x
    kept_here p y ys x h e = subst (λ l. Contains l x) (sym (ap (λ b. cond b (y ∷ filter p ys) (filter p ys)) (ap p h ∙ e))) (subst (λ z. Contains (y ∷ filter p ys) z) h (here y (filter p ys)))

    kept_there : {X : Type 0} (p : X → Bool) (y : X) (ys : List X) (x : X) (b : Bool) → p y ≡ b → Contains (filter p ys) x → Contains (filter p (y ∷ ys)) x
    kept_there p y ys x true e i = rw e (there y (filter p ys) x i)
    kept_there p y ys x false e i = rw e i

pub member_of_kept : {X : Type 0} (p : X → Bool) (xs : List X) (x : X) → Contains (filter p xs) x → Contains xs x × (p x ≡ true)
member_of_kept p [] x i = absurd (member_nil x i)
member_of_kept p (y ∷ ys) x i = by_test p y ys x (p y) refl i (member_of_kept p ys x)
  where
    by_test : {X : Type 0} (p : X → Bool) (y : X) (ys : List X) (x : X) (b : Bool) → p y ≡ b → Contains (filter p (y ∷ ys)) x → (Contains (filter p ys) x → Contains ys x × (p x ≡ true)) → Contains (y ∷ ys) x × (p x ≡ true)
    by_test p y ys x true e i more =
        elim (member_cases y (filter p ys) x (rw e at i)) [ inl h ↦ (subst (λ z. Contains (y ∷ ys) z) h (here y ys), ap p (sym h) ∙ e) | inr j ↦ (there y ys x (more j).0, (more j).1) ]
    by_test p y ys x false e i more = let r = more (rw e at i) in (there y ys x r.0, r.1)

-- ---- tests of a mapped list

pub any_alike : {X Y : Type 0} (f : X → Y) (p : Y → Bool) (q : X → Bool) (xs : List X) → ((x : X) → Contains xs x → p (f x) ≡ q x) → list_any p (map f xs) ≡ list_any q xs
any_alike f p q [] h = refl
any_alike f p q (x ∷ xs) h = rw (h x (here x xs), any_alike f p q xs (λ y i. h y (there x xs y i)))

pub all_alike : {X Y : Type 0} (f : X → Y) (p : Y → Bool) (q : X → Bool) (xs : List X) → ((x : X) → Contains xs x → p (f x) ≡ q x) → list_all p (map f xs) ≡ list_all q xs
all_alike f p q [] h = refl
all_alike f p q (x ∷ xs) h = rw (h x (here x xs), all_alike f p q xs (λ y i. h y (there x xs y i)))

pub kept_alike : {X Y : Type 0} (f : X → Y) (p : Y → Bool) (q : X → Bool) (xs : List X) → ((x : X) → Contains xs x → p (f x) ≡ q x) → filter p (map f xs) ≡ map f (filter q xs)
kept_alike f p q [] h = refl
kept_alike f p q (x ∷ xs) h =
    let e = kept_alike f p q xs (λ y i. h y (there x xs y i)) in
    rw (h x (here x xs), e) (map_cond f x (filter q xs) (q x))
  where
    map_cond : {X Y : Type 0} (f : X → Y) (x : X) (xs : List X) (b : Bool) → cond b (f x ∷ map f xs) (map f xs) ≡ map f (cond b (x ∷ xs) xs)
    map_cond f x xs true = refl
    map_cond f x xs false = refl

-- ---- facts of all members of mapped lists

pub all_mapped : {X Y : Type 0} (f : X → Y) (P : Y → Type 0) (xs : List X) → ((x : X) → Contains xs x → P (f x)) → All P (map f xs)
all_mapped f P xs h = all_of P (map f xs) (each_mapped f P xs h)

pub of_mapped : {X Y : Type 0} (f : X → Y) (P : Y → Type 0) (xs : List X) → All P (map f xs) → (x : X) → Contains xs x → P (f x)
of_mapped f P xs h x i = each_of P (map f xs) h (f x) (member_map f xs x i)

pub all_mapped_pairs : {X Y U V : Type 0} (f : X → Y) (g : U → V) (P : Y → V → Type 0) (xs : List X) (us : List U) →
    ((x : X) (u : U) → Contains xs x → Contains us u → P (f x) (g u)) → All (λ y. All (P y) (map g us)) (map f xs)
all_mapped_pairs f g P xs us h = all_mapped f (λ y. All (P y) (map g us)) xs (λ x i. all_mapped g (P (f x)) us (λ u j. h x u i j))

pub of_mapped_pairs : {X Y U V : Type 0} (f : X → Y) (g : U → V) (P : Y → V → Type 0) (xs : List X) (us : List U) →
    All (λ y. All (P y) (map g us)) (map f xs) → (x : X) (u : U) → Contains xs x → Contains us u → P (f x) (g u)
of_mapped_pairs f g P xs us h x u i j = of_mapped g (P (f x)) us (of_mapped f (λ y. All (P y) (map g us)) xs h x i) u j
