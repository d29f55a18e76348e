-- The expansion of an over-all condition: what has to hold at one moment so that the condition holds whichever of the
-- opened ends have come. An opened end is one that may have come or not.
use Rattle.std.specs.Prelude.{ℕ, Bool, ◌==◌, not, ◌-◌, ◌/◌, ◌%◌, ◌^◌, if◌then◌else◌, List, [], ◌∷◌, ◌++◌, map, filter, length}
use Rattle.std.specs.List.{list_all, list_any, range_with_len}
use Rattle.stp_cond.specs.Atoms.{have_common}
use Rattle.stp_cond.specs.Formulas.{Formula, Formulas, Always, Never, Atomic, Negation, Conjunction, Disjunction, NoMore, More, formulas_of}
use Rattle.stp_cond.specs.Folded.{together}
use Rattle.stp_cond.specs.Substituted.{substituted}
use Rattle.stp_expand.specs.Footprints.{PlainFootprint, writes, footprints_on}

-- ---- sets of footprints

-- those items whose bits are set in a number, the first item's bit being the lowest
abbrev pub picked : {X : Type 0} → List X → ℕ → List X
picked [] number = []
picked (x ∷ xs) number = if number % 2 == 1 then x ∷ picked xs (number / 2) else picked xs (number / 2)

-- no atom is written both ways
abbrev pub is_consistent : List PlainFootprint → Bool
is_consistent set = list_all (λ p. list_all (λ q. not (have_common p.adds q.dels)) set) set

-- the sets that are used: in the order of their numbers from 1 on, those in which no atom is written both ways
abbrev pub used_sets : List PlainFootprint → List (List PlainFootprint)
used_sets footprints = filter is_consistent (map (picked footprints) (range_with_len 1 (2 ^ length footprints - 1)))

-- ---- formulas

abbrev pub not_opened : ℕ → Formula
not_opened atom = Negation (Atomic atom)

-- none of these actions is opened
abbrev pub none_opened : List ℕ → Formula
none_opened opened = together Always Conjunction (map not_opened opened)

-- each atom that a set writes becomes its shadow
abbrev pub shadow_under : (ℕ → ℕ) → List PlainFootprint → ℕ → ℕ
shadow_under shadow set a = if list_any (λ p. writes p a) set then shadow a else a

-- there is a footprint of the set none of whose actions is opened, or the formula holds with the shadows of what the set writes
abbrev pub set_formula : (ℕ → ℕ) → Formula → List PlainFootprint → Formula
set_formula shadow f set = Disjunction (formulas_of (map (λ p. none_opened p.opened) set ++ substituted (shadow_under shadow set) f ∷ []))

-- the formula and that of each used set; the formula alone where there is no footprint
abbrev pub under_footprints : (ℕ → ℕ) → Formula → List PlainFootprint → Formula
under_footprints shadow f [] = f
under_footprints shadow f (p ∷ ps) = Conjunction (formulas_of (f ∷ map (set_formula shadow f) (used_sets (p ∷ ps))))

abbrev pub expanded_whole : (ℕ → ℕ) → List PlainFootprint → Formula → Formula
expanded_whole shadow ends f = under_footprints shadow f (footprints_on f ends)

-- a conjunction is expanded member by member, and each other formula as a whole
abbrev mutual
  pub expanded : (ℕ → ℕ) → List PlainFootprint → Formula → Formula
  expanded shadow ends Always = expanded_whole shadow ends Always
  expanded shadow ends Never = expanded_whole shadow ends Never
  expanded shadow ends (Atomic atom) = expanded_whole shadow ends (Atomic atom)
  expanded shadow ends (Negation part) = expanded_whole shadow ends (Negation part)
  expanded shadow ends (Conjunction parts) = Conjunction (expanded_all shadow ends parts)
  expanded shadow ends (Disjunction parts) = expanded_whole shadow ends (Disjunction parts)

  pub expanded_all : (ℕ → ℕ) → List PlainFootprint → Formulas → Formulas
  expanded_all shadow ends NoMore = NoMore
  expanded_all shadow ends (More part parts) = More (expanded shadow ends part) (expanded_all shadow ends parts)
