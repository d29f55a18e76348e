-- Timed conditions that are read without an offence are typed.
use Rattle.std.proofs.Common.{◌≡◌, ℕ, ◌<◌, Bool, true, false, if◌then◌else◌, List, [], ◌∷◌, ◌++◌, Option, Some, None, length, refl}
use Rattle.stp_text.specs.Tree.{Tree, Trees, Word, Node, NoMore, More}
use Rattle.stp_refusal.specs.declared.code.Code.TheVariants.{D16, D21}
use Rattle.stp_text.specs.Items.{has_list}
use Rattle.stp_refusal.specs.Read.{Read, bad, given}
use Rattle.stp_schema.specs.Known.{Known}
use Rattle.stp_schema.specs.Formula.{Formula, formulas_of}
use Rattle.stp_condition.specs.Scope.{Var, kinds_of}
use Rattle.stp_condition.specs.Conditions.{condition_read}
use Rattle.stp_condition.specs.TypedConditions.{IsTyped, AreTyped}
use Rattle.stp_condition.proofs.TypedConditions.{condition_typed}
use Rattle.stp_refusal.specs.Gathering.{behind_first}
use Rattle.stp_refusal.proofs.Saying.{AllSay, all_hold, behind_say}
use Rattle.stp_condition.specs.declared.form.Form.{Form}
use Rattle.stp_condition.specs.declared.form.Form.TheVariants as forms
use Rattle.stp_condition.specs.declared.form.Span.{Span}
use Rattle.stp_condition.specs.declared.form.Span.TheVariants.{Start, OverAll, End}
use Rattle.stp_condition.specs.Forms.{form_of, part_in}
use Rattle.stp_condition.specs.TimedConditions.{Parts, no_parts, and_then, part_at, part_read, equality_refused, by_form, by_head, parts_read, each_read, timed_condition_read}
use Rattle.stp_condition.specs.TypedTimedConditions.{AreConditionsTyped}

-- the conditions of each span are typed
record ArePartsTyped (k : Known) (kinds : List ℕ) (parts : Parts) : Type 0 where
  pub start : AreTyped k kinds (formulas_of parts.start)
  pub over_all : AreTyped k kinds (formulas_of parts.over_all)
  pub end : AreTyped k kinds (formulas_of parts.end)

formulas_typed : (k : Known) (kinds : List ℕ) (fs gs : List Formula) → AreTyped k kinds (formulas_of fs) → AreTyped k kinds (formulas_of gs) → AreTyped k kinds (formulas_of (fs ++ gs))
formulas_typed k kinds [] gs h i = i
formulas_typed k kinds (f ∷ fs) gs h i = (h.0, formulas_typed k kinds fs gs h.1 i)

none_typed : (k : Known) (kinds : List ℕ) → ArePartsTyped k kinds no_parts
none_typed k kinds = record { start = tt; over_all = tt; end = tt }

then_typed : (k : Known) (kinds : List ℕ) (p q : Parts) → ArePartsTyped k kinds p → ArePartsTyped k kinds q → ArePartsTyped k kinds (and_then p q)
then_typed k kinds p q h i = record {
  start = formulas_typed k kinds p.start q.start h.start i.start;
  over_all = formulas_typed k kinds p.over_all q.over_all h.over_all i.over_all;
  end = formulas_typed k kinds p.end q.end h.end i.end;
}

at_typed : (k : Known) (kinds : List ℕ) (span : Span) (f : Formula) → IsTyped k kinds f → ArePartsTyped k kinds (part_at span f)
at_typed k kinds Start f h = record { start = (h, tt); over_all = tt; end = tt }
at_typed k kinds OverAll f h = record { start = tt; over_all = (h, tt); end = tt }
at_typed k kinds End f h = record { start = tt; over_all = tt; end = (h, tt) }

module _ (k : Known) (some : 0 < length k.types) (scope : List Var) where
  part_typed : (at : ℕ) (part : Option (Span × Tree)) → (given (bad at D16 no_parts) (part_read k scope) part).offences ≡ [] → ArePartsTyped k (kinds_of scope) (given (bad at D16 no_parts) (part_read k scope) part).value
  part_typed at None none = none_typed k (kinds_of scope)
  part_typed at (Some part) none = at_typed k (kinds_of scope) part.0 (condition_read k part.1 scope).value (condition_typed k some part.1 scope none)

  equality_typed : (at : ℕ) (ts : Trees) (b : Bool) → has_list ts ≡ b → ArePartsTyped k (kinds_of scope) (equality_refused at ts).value
  equality_typed at ts true e = rw e (none_typed k (kinds_of scope))
  equality_typed at ts false e = rw e (none_typed k (kinds_of scope))

  form_typed : (form : Form) (at : ℕ) (word : List ℕ) (ts : Trees) (says : List (Read Parts)) → AllSay (ArePartsTyped k (kinds_of scope)) says → (by_form form k scope at word ts says).offences ≡ [] → ArePartsTyped k (kinds_of scope) (by_form form k scope at word ts says).value
  form_typed forms.And at word ts says h none = all_hold (ArePartsTyped k (kinds_of scope)) and_then no_parts (none_typed k (kinds_of scope)) (then_typed k (kinds_of scope)) says h none
  form_typed forms.Timed at word ts says h none = part_typed at (part_in word ts) none
  form_typed forms.Equality at word ts says h none = equality_typed at ts (has_list ts) refl
  form_typed forms.Unsupported at word ts says h none = none_typed k (kinds_of scope)
  form_typed forms.Malformed at word ts says h none = none_typed k (kinds_of scope)

  head_typed : (at : ℕ) (ts : Trees) (says : List (Read Parts)) → AllSay (ArePartsTyped k (kinds_of scope)) says → (by_head k scope at ts says).offences ≡ [] → ArePartsTyped k (kinds_of scope) (by_head k scope at ts says).value
  head_typed at NoMore says h none = none_typed k (kinds_of scope)
  head_typed at (More (Node place items) ts) says h none = none_typed k (kinds_of scope)
  head_typed at (More (Word place word) ts) says h none = form_typed (form_of word) at word ts (behind_first says) (behind_say (ArePartsTyped k (kinds_of scope)) says h) none

mutual
  unfolding parts_read each_read

  parts_typed : (k : Known) (some : 0 < length k.types) (scope : List Var) (tree : Tree) → (parts_read k scope tree).offences ≡ [] → ArePartsTyped k (kinds_of scope) (parts_read k scope tree).value
  parts_typed k some scope (Word at text) = λ none. none_typed k (kinds_of scope)
  parts_typed k some scope (Node at items) = λ none. head_typed k some scope at items (each_read k scope items) (each_typed k some scope items) none

  each_typed : (k : Known) (some : 0 < length k.types) (scope : List Var) (ts : Trees) → AllSay (ArePartsTyped k (kinds_of scope)) (each_read k scope ts)
  each_typed k some scope NoMore = tt
  each_typed k some scope (More t ts) = (parts_typed k some scope t, each_typed k some scope ts)

pub timed_condition_typed : (k : Known) (scope : List Var) (tree : Tree) → 0 < length k.types → (timed_condition_read k scope tree).offences ≡ [] → AreConditionsTyped k (kinds_of scope) (timed_condition_read k scope tree).value
timed_condition_typed k scope tree some none = let h = parts_typed k some scope tree none in record { start = h.start; over_all = h.over_all; end = h.end }
