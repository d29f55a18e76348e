-- The first of several offences is the least of them.
use Rattle.std.proofs.Common.{◌≡◌, ◌≢◌, ℕ, zero, suc, ◌<◌, List, [], ◌∷◌, length, get_or, Bool, true, false, Option, Some, None, All, Contains, refl, arith, if◌then◌else◌}
use Rattle.std.proofs.lemmas.Bool.Decides.{nat_tests}
use Rattle.std.proofs.lemmas.List.Elements.{All-nil, All-cons}
use Rattle.stp_refusal.specs.declared.offence.Offence.{Offence}
use Rattle.stp_refusal.specs.First.{first_of, first_from, earlier, is_before}
use Rattle.stp_refusal.specs.Laws.{IsLeast, FirstIsLeast, OneIsChosen}

before_self : (o : Offence) → is_before o o ≡ true
before_self o = grind (arith, nat_tests)

before_trans : (o p q : Offence) → is_before o p ≡ true → is_before p q ≡ true → is_before o q ≡ true
before_trans o p q h k = grind (arith, nat_tests)

before_total : (o p : Offence) → is_before o p ≡ false → is_before p o ≡ true
before_total o p h = grind (arith, nat_tests)

some_one : {o p : Offence} → Some p ≡ Some o → p ≡ o
some_one e = cc

here : (o : Offence) (os : List Offence) → Contains (o ∷ os) o
here o os = (0, omega arith, refl)

there : (p : Offence) (os : List Offence) (o : Offence) → Contains os o → Contains (p ∷ os) o
there p os o i = (suc i.0, omega (arith, i.1), i.2)

-- a member of a list behind the first, or the first itself
under_at : (f p : Offence) (os : List Offence) (o : Offence) (k : ℕ) → k < length (f ∷ os) → get_or (f ∷ os) k o ≡ o → Contains (f ∷ p ∷ os) o
under_at f p os o zero l e = (0, omega arith, e)
under_at f p os o (suc k) l e = (suc (suc k), omega (arith, l), e)

under : (f p : Offence) (os : List Offence) (o : Offence) → Contains (f ∷ os) o → Contains (f ∷ p ∷ os) o
under f p os o i = under_at f p os o i.0 i.1 i.2

-- what holds by the one of two that was kept
kept : (P : Offence → Type 0) (f p : Offence) (os : List Offence) (o : Offence) (b : Bool) → is_before f p ≡ b → first_from (if b then Some f else Some p) os ≡ Some o
    → (is_before f p ≡ true → first_from (Some f) os ≡ Some o → P o) → (is_before f p ≡ false → first_from (Some p) os ≡ Some o → P o) → P o
kept P f p os o true h e first other = first h e
kept P f p os o false h e first other = other h e

below_found : (f : Offence) (os : List Offence) (o : Offence) → first_from (Some f) os ≡ Some o → is_before o f ≡ true
below_found f [] o e = rw (some_one e) (before_self o)
below_found f (p ∷ os) o e = kept (λ x. is_before x f ≡ true) f p os o (is_before f p) refl e
    (λ h k. below_found f os o k)
    (λ h k. before_trans o p f (below_found p os o k) (before_total f p h))

lower : (f : Offence) (os : List Offence) (o : Offence) → first_from (Some f) os ≡ Some o → All (λ p. is_before o p ≡ true) os
lower f [] o e = All-nil _
lower f (p ∷ os) o e = kept (λ x. All (λ q. is_before x q ≡ true) (p ∷ os)) f p os o (is_before f p) refl e
    (λ h k. All-cons (λ q. is_before o q ≡ true) p os (before_trans o f p (below_found f os o k) h) (lower f os o k))
    (λ h k. All-cons (λ q. is_before o q ≡ true) p os (below_found p os o k) (lower p os o k))

among : (f : Offence) (os : List Offence) (o : Offence) → first_from (Some f) os ≡ Some o → Contains (f ∷ os) o
among f [] o e = rw (some_one e) (here o [])
among f (p ∷ os) o e = kept (λ x. Contains (f ∷ p ∷ os) x) f p os o (is_before f p) refl e
    (λ h k. under f p os o (among f os o k))
    (λ h k. there f (p ∷ os) o (among p os o k))

pub first_is_least : FirstIsLeast
first_is_least [] o e = cc
first_is_least (p ∷ os) o e = record { among = among p os o e; least = All-cons (λ q. is_before o q ≡ true) p os (below_found p os o e) (lower p os o e) }

either_found : (f p : Offence) (os : List Offence) (b : Bool) → ((o : Offence) × (first_from (Some f) os ≡ Some o)) → ((o : Offence) × (first_from (Some p) os ≡ Some o)) → (o : Offence) × (first_from (if b then Some f else Some p) os ≡ Some o)
either_found f p os true first other = first
either_found f p os false first other = other

some_found : (f : Offence) (os : List Offence) → (o : Offence) × (first_from (Some f) os ≡ Some o)
some_found f [] = (f, refl)
some_found f (p ∷ os) = either_found f p os (is_before f p) (some_found f os) (some_found p os)

pub one_is_chosen : OneIsChosen
one_is_chosen [] ne = absurd (ne refl)
one_is_chosen (p ∷ os) ne = some_found p os
