-- What a timed condition says.
use Rattle.std.specs.Prelude.{ℕ, List, [], ◌∷◌, ◌++◌, if◌then◌else◌}
use Rattle.stp_text.specs.Tree.{Tree, Trees, Word, Node, NoMore, More}
use Rattle.stp_refusal.specs.declared.code.Code.TheVariants.{D16, D21}
use Rattle.stp_text.specs.Items.{has_list}
use Rattle.stp_refusal.specs.Read.{Read, fine, bad, map_read, given}
use Rattle.stp_schema.specs.Known.{Known}
use Rattle.stp_schema.specs.Formula.{Formula}
use Rattle.stp_condition.specs.Scope.{Var}
use Rattle.stp_condition.specs.Conditions.{condition_read, each_of}
use Rattle.stp_refusal.specs.Gathering.{all_of, behind_first}
use Rattle.stp_condition.specs.declared.form.Form.{Form}
use Rattle.stp_condition.specs.declared.form.Form.TheVariants as forms
use Rattle.stp_condition.specs.declared.form.Span.{Span}
use Rattle.stp_condition.specs.declared.form.Span.TheVariants.{Start, OverAll, End}
use Rattle.stp_condition.specs.Forms.{form_of, part_in}

-- the conditions of each span, in the order of the text
pub record Parts : Type 0 where
  pub start : List Formula
  pub over_all : List Formula
  pub end : List Formula

abbrev pub no_parts : Parts
no_parts = record { start = []; over_all = []; end = [] }

-- those of one condition before those of another, for each span
abbrev pub and_then : Parts → Parts → Parts
and_then one other = record { start = one.start ++ other.start; over_all = one.over_all ++ other.over_all; end = one.end ++ other.end }

-- a condition for one span alone
abbrev pub part_at : Span → Formula → Parts
part_at Start part = record { start = part ∷ []; over_all = []; end = [] }
part_at OverAll part = record { start = []; over_all = part ∷ []; end = [] }
part_at End part = record { start = []; over_all = []; end = part ∷ [] }

abbrev pub part_read : Known → List Var → Span × Tree → Read Parts
part_read k scope part = map_read (part_at part.0) (condition_read k part.1 scope)

-- a list at a place that begins with the word of no connective: it must be `(at start CONDITION)`, `(at end CONDITION)` or `(over all CONDITION)`
abbrev pub span_read : Known → List Var → ℕ → List ℕ → Trees → Read Parts
span_read k scope at word ts = given (bad at D16 no_parts) (part_read k scope) (part_in word ts)

-- An equality is no timed condition; where it has a list, it is one of numbers.
abbrev pub equality_refused : ℕ → Trees → Read Parts
equality_refused at ts = if has_list ts then bad at D21 no_parts else bad at D16 no_parts

-- a list at a place, with its first word and the items behind it, and with what each of these says as a timed condition
abbrev pub by_form : Form → Known → List Var → ℕ → List ℕ → Trees → List (Read Parts) → Read Parts
by_form forms.And k scope at word ts says = all_of and_then no_parts says
by_form forms.Timed k scope at word ts says = span_read k scope at word ts
by_form forms.Equality k scope at word ts says = equality_refused at ts
by_form forms.Unsupported k scope at word ts says = bad at D21 no_parts
by_form forms.Malformed k scope at word ts says = bad at D16 no_parts

-- a list, by its first item
abbrev pub by_head : Known → List Var → ℕ → Trees → List (Read Parts) → Read Parts
by_head k scope at NoMore says = fine no_parts
by_head k scope at (More (Node place items) ts) says = bad at D16 no_parts
by_head k scope at (More (Word place word) ts) says = by_form (form_of word) k scope at word ts (behind_first says)

unfoldable mutual
  -- the conditions that a tree says as a timed condition
  pub parts_read : Known → List Var → Tree → Read Parts
  parts_read k scope (Word at text) = bad at D16 no_parts
  parts_read k scope (Node at items) = by_head k scope at items (each_read k scope items)

  pub each_read : Known → List Var → Trees → List (Read Parts)
  each_read k scope NoMore = []
  each_read k scope (More t ts) = parts_read k scope t ∷ each_read k scope ts

-- the conditions that several trees say as timed conditions
abbrev pub all_parts : Known → List Var → Trees → Read Parts
all_parts k scope ts = all_of and_then no_parts (each_read k scope ts)

-- one condition for each span
pub record TimedFormulas : Type 0 where
  pub start : Formula
  pub over_all : Formula
  pub end : Formula

-- for each span the conjunction of its conditions
abbrev pub conjunctions : Parts → TimedFormulas
conjunctions parts = record { start = each_of parts.start; over_all = each_of parts.over_all; end = each_of parts.end }

-- what a tree says as the condition of a durative action
abbrev pub timed_condition_read : Known → List Var → Tree → Read TimedFormulas
timed_condition_read k scope tree = map_read conjunctions (parts_read k scope tree)
