-- The sections of a domain, one by one.
use Rattle.std.proofs.Common.{◌≡◌, ℕ, Bool, true, false, ◌||◌, if◌then◌else◌, [], ◌++◌, Some, None, is_some, refl, ap, sym, ◌∙◌, append_assoc}
use Rattle.std.proofs.lemmas.List.{append-nil}
use Rattle.stp_text.specs.Tree.{Tree, Trees, Word, Node, NoMore, More}
use Rattle.stp_text.specs.Items.{place}
use Rattle.stp_refusal.specs.declared.code.Code.TheVariants.{D04}
use Rattle.stp_refusal.specs.Read.{bad, fine, offence_at}
use Rattle.stp_domain_parts.specs.declared.key.PartKey.{PartKey}
use Rattle.stp_domain_parts.specs.declared.key.PartKey.TheVariants.{Requirements, Types, Constants, Predicates, Functions}
use Rattle.stp_domain_parts.specs.declared.key.SectionKey.{SectionKey}
use Rattle.stp_domain_parts.specs.declared.key.SectionKey.TheVariants as keys
use Rattle.stp_domain_parts.specs.Actions.{Action}
use Rattle.stp_domain_parts.specs.Domain.{Sections, no_sections, has_section, with_section, with_action, section_by, section_read, sections_read}
use Rattle.stp_domain_parts.proofs.Choices.{otherwise, otherwise_none, none_otherwise, filled, unchanged, chain, some_of_two}
use Rattle.stp_domain_parts.specs.Laws.{key_of, items_behind, is_part, is_same, first_items, items_at, action_by, actions_in, stands_in, wrong_by, section_wrong, sections_wrong, PartIsFirst, ActionsInOrder, OneByOne}

read_by : (found : Sections) (t : Tree) → section_read found t ≡ section_by (key_of t) (place t) (items_behind t) found
read_by found (Word at text) = refl
read_by found (Node at NoMore) = refl
read_by found (Node at (More (Word place text) ts)) = refl
read_by found (Node at (More (Node place items) ts)) = refl

-- ---- the parts

at_choice : (key : PartKey) (at : ℕ) (b : Bool) (found new : Sections) → items_at key (if b then bad at D04 found else fine new).value ≡ (if b then items_at key found else items_at key new)
at_choice key at true found new = refl
at_choice key at false found new = refl

with_action_keeps : (key : PartKey) (found : Sections) (action : Action) → items_at key (with_action found action) ≡ items_at key found
with_action_keeps Requirements found action = refl
with_action_keeps Types found action = refl
with_action_keeps Constants found action = refl
with_action_keeps Predicates found action = refl
with_action_keeps Functions found action = refl

part_step : (key other : PartKey) (items : Trees) (found : Sections) → (if has_section other found then items_at key found else items_at key (with_section other items found)) ≡ otherwise (items_at key found) (if is_same key other then Some items else None)
part_step Requirements Requirements items found = filled found.requirements items
part_step Types Types items found = filled found.types items
part_step Constants Constants items found = filled found.constants items
part_step Predicates Predicates items found = filled found.predicates items
part_step Functions Functions items found = filled found.functions items
part_step key other items found = unchanged (has_section other found) (items_at key found)

by_key : (key : PartKey) (k : SectionKey) (at : ℕ) (items : Trees) (found : Sections) → items_at key (section_by k at items found).value ≡ otherwise (items_at key found) (if is_part key k then Some items else None)
by_key key (keys.Part other) at items found = at_choice key at (has_section other found) found (with_section other items found) ∙ part_step key other items found
by_key key (keys.Action kind) at items found = with_action_keeps key found _ ∙ otherwise_none (items_at key found)
by_key key keys.Unsupported at items found = otherwise_none (items_at key found)
by_key key keys.Unknown at items found = otherwise_none (items_at key found)

read_step : (key : PartKey) (t : Tree) (found : Sections) → items_at key (section_read found t).value ≡ otherwise (items_at key found) (if is_part key (key_of t) then Some (items_behind t) else None)
read_step key t found = ap (λ r. items_at key r.value) (read_by found t) ∙ by_key key (key_of t) (place t) (items_behind t) found

first_of_all : (key : PartKey) (found : Sections) (ts : Trees) → items_at key (sections_read found ts).value ≡ otherwise (items_at key found) (first_items key ts)
first_of_all key found NoMore = otherwise_none (items_at key found)
first_of_all key found (More t ts) =
    first_of_all key (section_read found t).value ts
    ∙ ap (λ o. otherwise o (first_items key ts)) (read_step key t found)
    ∙ chain (items_at key found) (is_part key (key_of t)) (items_behind t) (first_items key ts)

pub part_is_first : PartIsFirst
part_is_first Requirements ts = first_of_all Requirements no_sections ts ∙ none_otherwise (first_items Requirements ts)
part_is_first Types ts = first_of_all Types no_sections ts ∙ none_otherwise (first_items Types ts)
part_is_first Constants ts = first_of_all Constants no_sections ts ∙ none_otherwise (first_items Constants ts)
part_is_first Predicates ts = first_of_all Predicates no_sections ts ∙ none_otherwise (first_items Predicates ts)
part_is_first Functions ts = first_of_all Functions no_sections ts ∙ none_otherwise (first_items Functions ts)

-- ---- the actions

actions_choice : (at : ℕ) (b : Bool) (found new : Sections) → new.actions ≡ found.actions → (if b then bad at D04 found else fine new).value.actions ≡ found.actions
actions_choice at true found new e = refl
actions_choice at false found new e = e

with_section_keeps : (key : PartKey) (items : Trees) (found : Sections) → (with_section key items found).actions ≡ found.actions
with_section_keeps Requirements items found = refl
with_section_keeps Types items found = refl
with_section_keeps Constants items found = refl
with_section_keeps Predicates items found = refl
with_section_keeps Functions items found = refl

actions_by : (k : SectionKey) (at : ℕ) (items : Trees) (found : Sections) → (section_by k at items found).value.actions ≡ found.actions ++ action_by k at items
actions_by (keys.Part key) at items found = actions_choice at (has_section key found) found (with_section key items found) (with_section_keeps key items found) ∙ sym (append-nil found.actions)
actions_by (keys.Action kind) at items found = refl
actions_by keys.Unsupported at items found = sym (append-nil found.actions)
actions_by keys.Unknown at items found = sym (append-nil found.actions)

actions_on : (found : Sections) (ts : Trees) → (sections_read found ts).value.actions ≡ found.actions ++ actions_in ts
actions_on found NoMore = sym (append-nil found.actions)
actions_on found (More t ts) =
    actions_on (section_read found t).value ts
    ∙ ap (λ r. r.value.actions ++ actions_in ts) (read_by found t)
    ∙ ap (λ xs. xs ++ actions_in ts) (actions_by (key_of t) (place t) (items_behind t) found)
    ∙ append_assoc found.actions (action_by (key_of t) (place t) (items_behind t)) (actions_in ts)

pub actions_in_order : ActionsInOrder
actions_in_order ts = actions_on no_sections ts

-- ---- the offences

-- the sections that were found stand before
record Seen (found : Sections) (before : Trees) : Type 0 where
  same : (key : PartKey) → is_some (items_at key found) ≡ stands_in key before

has_is : (key : PartKey) (found : Sections) → has_section key found ≡ is_some (items_at key found)
has_is Requirements found = refl
has_is Types found = refl
has_is Constants found = refl
has_is Predicates found = refl
has_is Functions found = refl

seen_next : (found : Sections) (before : Trees) (t : Tree) → Seen found before → Seen (section_read found t).value (More t before)
seen_next found before t seen = record {
  same = λ key.
      ap is_some (read_step key t found)
      ∙ some_of_two (items_at key found) (is_part key (key_of t)) (items_behind t)
      ∙ ap (λ b. is_part key (key_of t) || b) (seen.same key);
}

seen_none : Seen no_sections NoMore
seen_none = record { same = λ key. none key } where
  none : (key : PartKey) → is_some (items_at key no_sections) ≡ false
  none Requirements = refl
  none Types = refl
  none Constants = refl
  none Predicates = refl
  none Functions = refl

repeated : (at : ℕ) (b : Bool) (found new : Sections) → (if b then bad at D04 found else fine new).offences ≡ (if b then offence_at at D04 else [])
repeated at true found new = refl
repeated at false found new = refl

wrong_step : (found : Sections) (before : Trees) (k : SectionKey) (at : ℕ) (items : Trees) → Seen found before → (section_by k at items found).offences ≡ wrong_by before k at items
wrong_step found before (keys.Part key) at items seen =
    repeated at (has_section key found) found (with_section key items found)
    ∙ ap (λ b. if b then offence_at at D04 else []) (has_is key found ∙ seen.same key)
wrong_step found before (keys.Action kind) at items seen = refl
wrong_step found before keys.Unsupported at items seen = refl
wrong_step found before keys.Unknown at items seen = refl

wrong_on : (found : Sections) (before ts : Trees) → Seen found before → (sections_read found ts).offences ≡ sections_wrong before ts
wrong_on found before NoMore seen = refl
wrong_on found before (More t ts) seen =
    ap (λ r. r.offences ++ (sections_read (section_read found t).value ts).offences) (read_by found t)
    ∙ ap (λ os. os ++ (sections_read (section_read found t).value ts).offences) (wrong_step found before (key_of t) (place t) (items_behind t) seen)
    ∙ ap (λ os. section_wrong before t ++ os) (wrong_on (section_read found t).value (More t before) ts (seen_next found before t seen))

pub one_by_one : OneByOne
one_by_one ts = wrong_on no_sections NoMore ts seen_none
