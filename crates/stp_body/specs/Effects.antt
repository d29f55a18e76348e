-- What an effect says.
use Rattle.std.specs.Prelude.{ℕ, List, [], ◌∷◌, ◌++◌}
use Rattle.stp_text.specs.Tree.{Tree, Trees, Word, Node, NoMore, More}
use Rattle.stp_refusal.specs.declared.code.Code.TheVariants.{D22, D23}
use Rattle.stp_refusal.specs.Read.{Read, fine, bad, map_read, given}
use Rattle.stp_schema.specs.Known.{Known}
use Rattle.stp_schema.specs.Formula.{PlainAtom}
use Rattle.stp_condition.specs.Scope.{Var}
use Rattle.stp_condition.specs.declared.atom.SymbolKind.TheVariants.{Predicate}
use Rattle.stp_condition.specs.Atoms.{atom_read}
use Rattle.stp_body.specs.declared.form.Form.{Form}
use Rattle.stp_body.specs.declared.form.Form.TheVariants as forms
use Rattle.stp_refusal.specs.Gathering.{all_of, behind_first}
use Rattle.stp_body.specs.Forms.{form_of, WrittenAtom, only_atom}

-- The atoms that an effect makes true, and those that it makes false, in the order of the text.
pub record PlainEffects : Type 0 where
  pub adds : List PlainAtom
  pub dels : List PlainAtom

abbrev pub no_effects : PlainEffects
no_effects = record { adds = []; dels = [] }

abbrev pub adding : PlainAtom → PlainEffects
adding atom = record { adds = atom ∷ []; dels = [] }

abbrev pub deleting : PlainAtom → PlainEffects
deleting atom = record { adds = []; dels = atom ∷ [] }

-- those of one effect before those of another
abbrev pub and_then : PlainEffects → PlainEffects → PlainEffects
and_then one other = record { adds = one.adds ++ other.adds; dels = one.dels ++ other.dels }

-- an atom that is made false
abbrev pub deleted_read : Known → List Var → WrittenAtom → Read PlainEffects
deleted_read k scope atom = map_read deleting (atom_read Predicate k scope atom.at atom.name atom.items)

-- a `(not ..)` at a place, by the items behind its first word: they must be one atom
abbrev pub not_read : Known → List Var → ℕ → Trees → Read PlainEffects
not_read k scope at ts = given (bad at D22 no_effects) (deleted_read k scope) (only_atom ts)

-- a list at a place, with its first word and the items behind it, and with what each of these says as an effect
abbrev pub by_form : Form → Known → List Var → ℕ → List ℕ → Trees → List (Read PlainEffects) → Read PlainEffects
by_form forms.And k scope at word ts says = all_of and_then no_effects says
by_form forms.Not k scope at word ts says = not_read k scope at ts
by_form forms.Atom k scope at word ts says = map_read adding (atom_read Predicate k scope at word ts)
by_form forms.Unsupported k scope at word ts says = bad at D23 no_effects
by_form forms.Malformed k scope at word ts says = bad at D22 no_effects

-- a list, by its first item
abbrev pub by_head : Known → List Var → ℕ → Trees → List (Read PlainEffects) → Read PlainEffects
by_head k scope at NoMore says = fine no_effects
by_head k scope at (More (Node place items) ts) says = bad at D22 no_effects
by_head k scope at (More (Word place word) ts) says = by_form (form_of word) k scope at word ts (behind_first says)

unfoldable mutual
  -- what a tree says as the effect of a simple action
  pub effect_read : Known → List Var → Tree → Read PlainEffects
  effect_read k scope (Word at text) = bad at D22 no_effects
  effect_read k scope (Node at items) = by_head k scope at items (effects_read k scope items)

  pub effects_read : Known → List Var → Trees → List (Read PlainEffects)
  effects_read k scope NoMore = []
  effects_read k scope (More t ts) = effect_read k scope t ∷ effects_read k scope ts

-- what several trees say as effects of a simple action
abbrev pub all_effects : Known → List Var → Trees → Read PlainEffects
all_effects k scope ts = all_of and_then no_effects (effects_read k scope ts)
