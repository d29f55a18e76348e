-- A typed list, one item at a time.
use Rattle.std.proofs.Common.{◌≡◌, ℕ, true, false, List, [], ◌∷◌, ◌++◌, Option, Some, None, ap, sym, ◌∙◌, append_assoc}
use Rattle.stp_refusal.specs.declared.code.Code.{Code}
use Rattle.stp_refusal.specs.declared.offence.Offence.{Offence}
use Rattle.stp_refusal.specs.First.{first_from, earlier}
use Rattle.stp_refusal.specs.Read.{Read, IsRead, Continues}
use Rattle.stp_text.specs.Tree.{Tree, Trees, Word, Node, More, NoMore}
use Rattle.stp_domain_parts.specs.Entries.{Plain, entries_of, with_kind, is_dash, is_empty, dash_left, named as named_lem}

module _ (old found : Option Offence) (code : Code) (out group : List Plain) (whole : Read (List Plain)) where
  -- an item that is the type of the group before it
  pub grouped : (at : ℕ) (t : Tree) (ts : Trees) (new : List Plain) → new ≡ out ++ with_kind (Some t) group → Continues old found out (entries_of code group (Some at) (More t ts)) whole → Continues old found new (entries_of code [] None ts) whole
  unfolding entries_of
  grouped at t ts new e so_far = record { first = so_far.first; same = ap (λ o. o ++ (entries_of code [] None ts).value) e ∙ append_assoc out (with_kind (Some t) group) (entries_of code [] None ts).value ∙ so_far.same }

  -- an item that is a list
  pub listed : (at : ℕ) (items ts : Trees) (new : Option Offence) → new ≡ earlier found (record { at = at; code = code }) → Continues old found out (entries_of code group None (More (Node at items) ts)) whole → Continues old new out (entries_of code group None ts) whole
  unfolding entries_of
  listed at items ts new e so_far = record { first = ap (λ f. first_from f (entries_of code group None ts).offences) e ∙ so_far.first; same = so_far.same }

  -- a `-` with no group before it
  pub stray : (at : ℕ) (text : List ℕ) (ts : Trees) (new : Option Offence) → true ≡ is_dash text → true ≡ is_empty group → new ≡ earlier found (record { at = at; code = code }) → Continues old found out (entries_of code group None (More (Word at text) ts)) whole → Continues old new out (entries_of code group None ts) whole
  unfolding entries_of
  stray at text ts new is empty e so_far =
      let rest = rw (sym is, sym empty) at so_far in
      record { first = ap (λ f. first_from f (entries_of code group None ts).offences) e ∙ rest.first; same = rest.same }

  -- a `-` after a group
  pub dashed : (at : ℕ) (text : List ℕ) (ts : Trees) → true ≡ is_dash text → false ≡ is_empty group → Continues old found out (entries_of code group None (More (Word at text) ts)) whole → Continues old found out (entries_of code group (Some at) ts) whole
  unfolding entries_of
  dashed at text ts is empty so_far = rw (sym is, sym empty) at so_far

  -- a name
  pub named : (at : ℕ) (text : List ℕ) (ts : Trees) (new : List Plain) → false ≡ is_dash text → new ≡ group ++ named_lem group at text ∷ [] → Continues old found out (entries_of code group None (More (Word at text) ts)) whole → Continues old found out (entries_of code new None ts) whole
  unfolding entries_of
  named at text ts new is e so_far = rw e (rw (sym is) at so_far)

  -- the end
  pub ended : (dash : Option ℕ) (new : Option Offence) (all : List Plain) → new ≡ first_from found (dash_left code dash) → all ≡ out ++ with_kind None group → Continues old found out (entries_of code group dash NoMore) whole → IsRead old new all whole
  unfolding entries_of
  ended dash new all is same so_far = record { first = is ∙ so_far.first; same = same ∙ so_far.same }
