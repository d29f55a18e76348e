-- Worked rows: conditions over the atoms 1 and 2, whose shadows are 11 and 12, and ends of actions whose opened atoms are 21, 22, 23.
use Rattle.std.proofs.Common.{◌≡◌, ℕ, ◌+◌, [], ◌∷◌, refl}
use Rattle.stp_cond.specs.Formulas.{Formula, Atomic, Negation, Conjunction, Disjunction, NoMore, More}
use Rattle.stp_expand.specs.Footprints.{PlainFootprint}
use Rattle.stp_expand.specs.Expanded.{expanded}

abbrev shadow : ℕ → ℕ
shadow a = a + 10

abbrev adding : ℕ → ℕ → PlainFootprint
adding atom opened = record { adds = atom ∷ []; dels = []; opened = opened ∷ [] }

abbrev deleting : ℕ → ℕ → PlainFootprint
deleting atom opened = record { adds = []; dels = atom ∷ []; opened = opened ∷ [] }

abbrev either : Formula → Formula → Formula
either f g = Disjunction (More f (More g NoMore))

abbrev closed : ℕ → Formula
closed opened = Negation (Atomic opened)

-- one end adds 1 and another deletes 2: 1 or 2 has to hold whether none, the one, the other or both have come
one_or_the_other : expanded shadow (adding 1 21 ∷ deleting 2 22 ∷ []) (either (Atomic 1) (Atomic 2)) ≡
    Conjunction
    (More (either (Atomic 1) (Atomic 2))
    (More (either (closed 21) (either (Atomic 11) (Atomic 2)))
    (More (either (closed 22) (either (Atomic 1) (Atomic 12)))
    (More (Disjunction (More (closed 21) (More (closed 22) (More (either (Atomic 11) (Atomic 12)) NoMore)))) NoMore))))
one_or_the_other = refl

-- member by member; two ends that add 1 are one footprint, one that deletes 1 is never with them, and one that writes neither is none
two_of_one_kind : expanded shadow (adding 1 21 ∷ deleting 1 22 ∷ adding 3 24 ∷ adding 1 23 ∷ []) (Conjunction (More (Atomic 2) (More (Atomic 1) NoMore))) ≡
    Conjunction
    (More (Atomic 2)
    (More
    (Conjunction
    (More (Atomic 1)
    (More (either (Conjunction (More (closed 21) (More (closed 23) NoMore))) (Atomic 11))
    (More (either (closed 22) (Atomic 11)) NoMore))))
    NoMore))
two_of_one_kind = refl
