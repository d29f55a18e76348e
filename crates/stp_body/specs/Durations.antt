-- What a tree says as a duration.
use Rattle.std.specs.Prelude.{ℕ, Bool, false, if◌then◌else◌, List, [], ◌∷◌, Option, Some, None, option_map, bytes_eq, codes}
use Rattle.stp_text.specs.Tree.{Tree, Word, Node}
use Rattle.stp_refusal.specs.declared.code.Code.TheVariants.{D24}
use Rattle.stp_refusal.specs.Read.{Read, bad, map_read, pair_read}
use Rattle.stp_text.specs.Items.{list_of}
use Rattle.stp_schema.specs.Known.{Known}
use Rattle.stp_schema.specs.Expression.{Expression}
use Rattle.stp_body.specs.declared.duration.Relation.{Relation}
use Rattle.stp_body.specs.declared.duration.Relation.TheVariants.{Equal, AtLeast, AtMost}
use Rattle.stp_condition.specs.Scope.{Var}
use Rattle.stp_body.specs.Expressions.{expression_read, nothing}

-- the least and the greatest duration
pub record PlainBounds : Type 0 where
  pub low : Expression
  pub high : Expression

abbrev pub between : Expression → Expression → PlainBounds
between low high = record { low = low; high = high }

abbrev pub exactly : Expression → PlainBounds
exactly e = between e e

abbrev pub backwards : Expression → Expression → PlainBounds
backwards high low = between low high

-- a part of a duration: how `?duration` relates to an expression
pub record PlainPart : Type 0 where
  pub relation : Relation
  pub bound : Tree

abbrev pub relation_of : List ℕ → Option Relation
relation_of text =
    if bytes_eq text (codes "=") then Some Equal
    else if bytes_eq text (codes ">=") then Some AtLeast
    else if bytes_eq text (codes "<=") then Some AtMost
    else None

abbrev pub relation_in : Tree → Option Relation
relation_in (Word at text) = relation_of text
relation_in (Node at items) = None

abbrev pub is_subject : Tree → Bool
is_subject (Word at text) = bytes_eq text (codes "?duration")
is_subject (Node at items) = false

abbrev pub part_with : Tree → Relation → PlainPart
part_with bound relation = record { relation = relation; bound = bound }

-- a relation, `?duration`, an expression
abbrev pub part_of_items : List Tree → Option PlainPart
part_of_items [] = None
part_of_items (relation ∷ []) = None
part_of_items (relation ∷ subject ∷ []) = None
part_of_items (relation ∷ subject ∷ bound ∷ []) = if is_subject subject then option_map (part_with bound) (relation_in relation) else None
part_of_items (relation ∷ subject ∷ bound ∷ more ∷ ts) = None

abbrev pub part_of : Tree → Option PlainPart
part_of (Word at text) = None
part_of (Node at items) = part_of_items (list_of items)

-- the parts of a duration: itself, or the one or two that `and` joins
pub data PlainParts : Type 0 where
  NoParts : PlainParts
  One : (part : PlainPart) → PlainParts
  Two : (one other : PlainPart) → PlainParts

abbrev pub one_part : Option PlainPart → PlainParts
one_part None = NoParts
one_part (Some part) = One part

abbrev pub two_parts : Option PlainPart → Option PlainPart → PlainParts
two_parts None other = NoParts
two_parts (Some one) None = NoParts
two_parts (Some one) (Some other) = Two one other

abbrev pub joined_parts : List Tree → PlainParts
joined_parts [] = NoParts
joined_parts (t ∷ []) = one_part (part_of t)
joined_parts (t ∷ u ∷ []) = two_parts (part_of t) (part_of u)
joined_parts (t ∷ u ∷ v ∷ ts) = NoParts

abbrev pub is_and : Tree → Bool
is_and (Word at text) = bytes_eq text (codes "and")
is_and (Node at items) = false

abbrev pub parts_of_items : List Tree → PlainParts
parts_of_items [] = NoParts
parts_of_items (t ∷ ts) = if is_and t then joined_parts ts else one_part (part_of_items (t ∷ ts))

abbrev pub parts_of : Tree → PlainParts
parts_of (Word at text) = NoParts
parts_of (Node at items) = parts_of_items (list_of items)

-- what stands in the place of a duration that does not match
abbrev pub no_bounds : PlainBounds
no_bounds = exactly nothing

abbrev pub wrong_bounds : ℕ → Read PlainBounds
wrong_bounds at = bad at D24 no_bounds

abbrev pub fixed : ℕ → Relation → Read Expression → Read PlainBounds
fixed at Equal e = map_read exactly e
fixed at AtLeast e = wrong_bounds at
fixed at AtMost e = wrong_bounds at

abbrev pub bounded : ℕ → Relation → Relation → Read Expression → Read Expression → Read PlainBounds
bounded at AtLeast AtMost e f = pair_read between e f
bounded at AtMost AtLeast e f = pair_read backwards e f
bounded at AtLeast AtLeast e f = wrong_bounds at
bounded at AtLeast Equal e f = wrong_bounds at
bounded at AtMost AtMost e f = wrong_bounds at
bounded at AtMost Equal e f = wrong_bounds at
bounded at Equal other e f = wrong_bounds at

-- exactly a bound, or at least one and at most another
abbrev pub bounds_read : Known → List Var → ℕ → PlainParts → Read PlainBounds
bounds_read k scope at NoParts = wrong_bounds at
bounds_read k scope at (One part) = fixed at part.relation (expression_read k scope part.bound)
bounds_read k scope at (Two one other) = bounded at one.relation other.relation (expression_read k scope one.bound) (expression_read k scope other.bound)

abbrev pub place : Tree → ℕ
place (Word at text) = at
place (Node at items) = at

abbrev pub duration_read : Known → List Var → Tree → Read PlainBounds
duration_read k scope t = bounds_read k scope (place t) (parts_of t)
