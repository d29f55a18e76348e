-- Footprints: what the ends of uncertain actions write of a formula.
use Rattle.std.specs.Prelude.{ℕ, Bool, false, ◌==◌, ◌&&◌, ◌||◌, nat_lt, if◌then◌else◌, List, [], ◌∷◌, ◌++◌, map, filter, length}
use Rattle.std.specs.List.{fold}
use Rattle.std.specs.Cmp.Lexicographic.{pointwise}
use Rattle.stp_base.specs.declared.limits.TheConstants.{MAX_FOOTPRINTS}
use Rattle.stp_cond.specs.Atoms.{has}
use Rattle.stp_cond.specs.Formulas.{Formula, Formulas, Always, Never, Atomic, Negation, Conjunction, Disjunction, NoMore, More, atoms_in}

-- what the ends of some actions write, and the atoms that say that these actions are opened
pub record PlainFootprint : Type 0 where
  pub adds : List ℕ
  pub dels : List ℕ
  pub opened : List ℕ

abbrev pub writes : PlainFootprint → ℕ → Bool
writes p a = has p.adds a || has p.dels a

abbrev pub writes_nothing : PlainFootprint → Bool
writes_nothing p = (length p.adds == 0) && (length p.dels == 0)

-- two footprints are the same where they add the same and delete the same
abbrev pub is_same : PlainFootprint → PlainFootprint → Bool
is_same p q = pointwise ◌==◌ p.adds q.adds && pointwise ◌==◌ p.dels q.dels

-- what a footprint writes of some atoms
abbrev pub part_of : List ℕ → PlainFootprint → PlainFootprint
part_of atoms p = record p { adds = filter (has atoms) p.adds; dels = filter (has atoms) p.dels }

-- footprints with one more: where there is the same already, that has the opened atoms of both
abbrev pub with_footprint : PlainFootprint → List PlainFootprint → List PlainFootprint
with_footprint p [] = p ∷ []
with_footprint p (q ∷ qs) = if is_same p q then record q { opened = q.opened ++ p.opened } ∷ qs else q ∷ with_footprint p qs

-- a footprint that writes nothing is left out
abbrev pub with_part : List PlainFootprint → PlainFootprint → List PlainFootprint
with_part qs p = if writes_nothing p then qs else with_footprint p qs

-- the footprints of ends on a formula: what they write of its atoms, the same ones as one, in the order of the first of each
abbrev pub footprints_on : Formula → List PlainFootprint → List PlainFootprint
footprints_on f ends = fold with_part [] (map (part_of (atoms_in f)) ends)

-- ---- the limit

abbrev pub is_past_limit : List PlainFootprint → Formula → Bool
is_past_limit ends f = nat_lt MAX_FOOTPRINTS (length (footprints_on f ends))

-- whether a formula that is no conjunction has more footprints than the limit; of a conjunction each member is looked at
abbrev mutual
  pub has_too_many : List PlainFootprint → Formula → Bool
  has_too_many ends Always = is_past_limit ends Always
  has_too_many ends Never = is_past_limit ends Never
  has_too_many ends (Atomic atom) = is_past_limit ends (Atomic atom)
  has_too_many ends (Negation part) = is_past_limit ends (Negation part)
  has_too_many ends (Conjunction parts) = some_has_too_many ends parts
  has_too_many ends (Disjunction parts) = is_past_limit ends (Disjunction parts)

  pub some_has_too_many : List PlainFootprint → Formulas → Bool
  some_has_too_many ends NoMore = false
  some_has_too_many ends (More part parts) = has_too_many ends part || some_has_too_many ends parts
