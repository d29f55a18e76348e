-- The parts of a conjunction in an arena, and what fault a call passes on.
use Rattle.std.proofs.Common.{◌≡◌, ℕ, ◌||◌, List, [], ◌∷◌, map, Result, Ok, Err, IsErrAnd, refl, ap}
use Rattle.std.specs.List.{list_any}
use Rattle.stp_cond.specs.declared.cond.Cond.{Cond}
use Rattle.stp_cond.specs.Formulas.{More, view, formulas_of}
use Rattle.stp_expand.specs.declared.fault.ExpandFault.{ExpandFault}
use Rattle.stp_expand.specs.Footprints.{PlainFootprint, has_too_many, some_has_too_many}
use Rattle.stp_expand.specs.Expanded.{expanded, expanded_all}

pub expanded_parts : (shadow : ℕ → ℕ) (ends : List PlainFootprint) (cs : List Cond) → formulas_of (map (λ c. expanded shadow ends (view c)) cs) ≡ expanded_all shadow ends (formulas_of (map view cs))
expanded_parts shadow ends [] = refl
expanded_parts shadow ends (c ∷ cs) = ap (More (expanded shadow ends (view c))) (expanded_parts shadow ends cs)

pub many_in_parts : (ends : List PlainFootprint) (cs : List Cond) → some_has_too_many ends (formulas_of (map view cs)) ≡ list_any (λ c. has_too_many ends (view c)) cs
many_in_parts ends [] = refl
many_in_parts ends (c ∷ cs) = ap (λ b. has_too_many ends (view c) || b) (many_in_parts ends cs)

pub same_fault : {A : Type 0} (r : Result A ExpandFault) (x y : ExpandFault) → IsErrAnd r (λ e. e ≡ x) → r ≡ Err y → x ≡ y
same_fault (Ok a) x y h e = cc
same_fault (Err z) x y h e = cc
