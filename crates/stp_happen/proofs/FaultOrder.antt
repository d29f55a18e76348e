-- The order of faults, and the first of a list.
use Rattle.std.proofs.Common.{◌≡◌, Bool, true, false, cond, List, [], ◌∷◌, ◌++◌, Option, Some, None, All, Contains, Ordering, refl, sym, ap, subst, ◌∙◌, arith}
use Rattle.std.specs.Cmp.Lexicographic.{slice_cmp}
use Rattle.std.specs.Ordering.{nat_cmp, is_lt, is_gt, ordering_reverse}
use Rattle.std.specs.declared.cmp.Ordering.TheVariants.{Less, Equal, Greater}
use Rattle.std.proofs.lemmas.Bool.{both_ways}
use Rattle.std.proofs.lemmas.Cmp.{nat_list_cmp_total, upto}
use Rattle.std.proofs.lemmas.List.{append-nil, append_assoc}
use Rattle.std.proofs.lemmas.List.Elements.{All-append, All-cons, All-nil, All-weaker, Contains-append_left, Contains-append_right}
use Rattle.stp_happen.specs.declared.fault.Fault.{Fault}
use Rattle.stp_happen.specs.Faults.{key_of, is_before}
use Rattle.stp_happen.specs.Firsts.{sooner_of, first_from, first_of}

reversed : (o : Ordering) → is_lt (ordering_reverse o) ≡ is_gt o
reversed Less = refl
reversed Equal = refl
reversed Greater = refl

-- g comes before f exactly where f comes after g
turned : (f g : Fault) → is_before g f ≡ is_gt (slice_cmp nat_cmp (key_of f) (key_of g))
turned f g = ap is_lt (nat_list_cmp_total.antisymm (key_of g) (key_of f)) ∙ reversed (slice_cmp nat_cmp (key_of f) (key_of g))

not_both : (o : Ordering) → is_gt o ≡ true → is_lt o ≡ false
not_both Less h = absurd (both_ways false refl h)
not_both Equal h = refl
not_both Greater h = refl

pub not_back : (f g : Fault) → is_before g f ≡ true → is_before f g ≡ false
not_back f g h = not_both (slice_cmp nat_cmp (key_of f) (key_of g)) (sym (turned f g) ∙ h)

-- where g is not before f, and h not before g, h is not before f
pub not_before : (f g h : Fault) → is_before g f ≡ false → is_before h g ≡ false → is_before h f ≡ false
not_before f g h p q = turned f h ∙ upto nat_list_cmp_total (key_of f) (key_of g) (key_of h) (sym (turned f g) ∙ p) (sym (turned g h) ∙ q)

not_itself : (f : Fault) → is_before f f ≡ false
not_itself f = by (is_before f f) refl
  where
    by : (b : Bool) → is_before f f ≡ b → is_before f f ≡ false
    by true e = not_back f f e
    by false e = e

-- ---- the first of a list

abbrev pub IsFirstOf : Option Fault → List Fault → Type 0
IsFirstOf None xs = xs ≡ []
IsFirstOf (Some f) xs = Contains xs f × All (λ g. is_before g f ≡ false) xs

chosen_is : (f g : Fault) (b : Bool) (xs ys : List Fault) → is_before g f ≡ b → IsFirstOf (Some f) xs → IsFirstOf (Some g) ys → IsFirstOf (cond b (Some g) (Some f)) (xs ++ ys)
chosen_is f g true xs ys e p q =
    (Contains-append_right xs ys g q.0, All-append (λ h. is_before h g ≡ false) xs ys (All-weaker (λ h. is_before h f ≡ false) (λ h. is_before h g ≡ false) (λ h r. not_before g f h (not_back f g e) r) xs p.1) q.1)
chosen_is f g false xs ys e p q =
    (Contains-append_left xs ys f p.0, All-append (λ h. is_before h f ≡ false) xs ys p.1 (All-weaker (λ h. is_before h g ≡ false) (λ h. is_before h f ≡ false) (λ h r. not_before f g h e r) ys q.1))

pub sooner_is : (b c : Option Fault) (xs ys : List Fault) → IsFirstOf b xs → IsFirstOf c ys → IsFirstOf (sooner_of b c) (xs ++ ys)
sooner_is None None xs ys p q = ap (λ l. l ++ ys) p ∙ q
sooner_is None (Some g) xs ys p q = subst (λ l. IsFirstOf (Some g) (l ++ ys)) (sym p) q
sooner_is (Some f) None xs ys p q = subst (λ l. IsFirstOf (Some f) (xs ++ l)) (sym q) (subst (IsFirstOf (Some f)) (sym (append-nil xs)) p)
sooner_is (Some f) (Some g) xs ys p q = chosen_is f g (is_before g f) xs ys refl p q

pub only : (f : Fault) → IsFirstOf (Some f) (f ∷ [])
only f = ((0, omega arith, refl), All-cons (λ g. is_before g f ≡ false) f [] (not_itself f) (All-nil (λ g. is_before g f ≡ false)))

first_from_is : (best : Option Fault) (ys xs : List Fault) → IsFirstOf best ys → IsFirstOf (first_from best xs) (ys ++ xs)
first_from_is best ys [] p = subst (IsFirstOf best) (sym (append-nil ys)) p
first_from_is best ys (x ∷ xs) p =
    subst (IsFirstOf (first_from (sooner_of best (Some x)) xs)) (append_assoc ys (x ∷ []) xs)
    (first_from_is (sooner_of best (Some x)) (ys ++ x ∷ []) xs (sooner_is best (Some x) ys (x ∷ []) p (only x)))

pub first_is : (xs : List Fault) → IsFirstOf (first_of xs) xs
first_is xs = first_from_is None [] xs refl

-- ---- a list twice

-- a fault at hand that a fault is not before
abbrev Leads : Option Fault → Fault → Type 0
Leads None g = ⊥
Leads (Some f) g = is_before g f ≡ false

chosen_leads : (f x g : Fault) (b : Bool) → is_before x f ≡ b → is_before g f ≡ false → Leads (cond b (Some x) (Some f)) g
chosen_leads f x g true e p = not_before x f g (not_back f x e) p
chosen_leads f x g false e p = p

sooner_leads : (best : Option Fault) (x g : Fault) → Leads best g → Leads (sooner_of best (Some x)) g
sooner_leads None x g p = absurd p
sooner_leads (Some f) x g p = chosen_leads f x g (is_before x f) refl p

still_leads : (best : Option Fault) (xs : List Fault) (g : Fault) → Leads best g → Leads (first_from best xs) g
still_leads best [] g p = p
still_leads best (x ∷ xs) g p = still_leads (sooner_of best (Some x)) xs g (sooner_leads best x g p)

newest_chosen : (f x : Fault) (b : Bool) → is_before x f ≡ b → Leads (cond b (Some x) (Some f)) x
newest_chosen f x true e = not_itself x
newest_chosen f x false e = e

newest_leads : (best : Option Fault) (x : Fault) → Leads (sooner_of best (Some x)) x
newest_leads None x = not_itself x
newest_leads (Some f) x = newest_chosen f x (is_before x f) refl

stays : (best : Option Fault) (x : Fault) → Leads best x → sooner_of best (Some x) ≡ best
stays None x p = absurd p
stays (Some f) x p = ap (λ b. cond b (Some x) (Some f)) p

abbrev LeadsAll : Option Fault → List Fault → Type 0
LeadsAll best [] = Unit {0}
LeadsAll best (x ∷ xs) = Leads best x × LeadsAll best xs

all_led : (best : Option Fault) (xs : List Fault) → LeadsAll (first_from best xs) xs
all_led best [] = tt
all_led best (x ∷ xs) = (still_leads (sooner_of best (Some x)) xs x (newest_leads best x), all_led (sooner_of best (Some x)) xs)

led_stays : (best : Option Fault) (xs : List Fault) → LeadsAll best xs → first_from best xs ≡ best
led_stays best [] p = refl
led_stays best (x ∷ xs) p = ap (λ b. first_from b xs) (stays best x p.0) ∙ led_stays best xs p.1

pub first_again : (best : Option Fault) (xs : List Fault) → first_from (first_from best xs) xs ≡ first_from best xs
first_again best xs = led_stays (first_from best xs) xs (all_led best xs)
