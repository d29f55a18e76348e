-- The entries of a typed list that is written group by group.
use Rattle.std.proofs.Common.{◌≡◌, ℕ, true, false, List, [], ◌∷◌, ◌++◌, map, Option, Some, None, refl, ap, sym, ◌∙◌, append_assoc}
use Rattle.std.proofs.lemmas.List.{append-nil, map-append}
use Rattle.std.specs.Prelude.{codes}
use Rattle.stp_text.specs.Tree.{Tree, Trees, Word, NoMore, More}
use Rattle.stp_refusal.specs.declared.code.Code.{Code}
use Rattle.stp_refusal.specs.Read.{Read, fine}
use Rattle.stp_domain_parts.specs.Entries.{Plain, is_dash, is_empty, of_kind, with_kind, named, group_then, entries_of}
use Rattle.stp_domain_parts.specs.TypedLists.{Placed, Group, words_in, words_then, written, entry, group_entries, entries_in, AreNames, HaveNames, WrittenListsAreRead}

-- a group once these words were added to it
abbrev gathered : List Plain → List Placed → List Plain
gathered group [] = group
gathered group (w ∷ ws) = gathered (group ++ named group w.at w.name ∷ []) ws

names_read : (code : Code) (group : List Plain) (ws : List Placed) (ts : Trees) → AreNames ws → entries_of code group None (words_then ws ts) ≡ entries_of code (gathered group ws) None ts
unfolding entries_of
names_read code group [] ts h = refl
names_read code group (w ∷ ws) ts h = rw (h.0) (names_read code (group ++ named group w.at w.name ∷ []) ws ts h.1)

-- the words that were added have the place of the group's first entry
kinds_gathered : (kind : Option Tree) (e : Plain) (es : List Plain) (ws : List Placed) → with_kind kind (gathered (e ∷ es) ws) ≡ with_kind kind (e ∷ es) ++ map (entry kind e.group) ws
kinds_gathered kind e es [] = sym (append-nil (with_kind kind (e ∷ es)))
kinds_gathered kind e es (w ∷ ws) =
    let n : Plain = named (e ∷ es) w.at w.name in
    kinds_gathered kind e (es ++ n ∷ []) ws
    ∙ ap (λ xs. (of_kind kind e ∷ xs) ++ map (entry kind e.group) ws) (map-append (of_kind kind) es (n ∷ []))
    ∙ ap (λ xs. of_kind kind e ∷ xs) (append_assoc (with_kind kind es) (of_kind kind n ∷ []) (map (entry kind e.group) ws))

kinds_new : (kind : Option Tree) (ws : List Placed) → with_kind kind (gathered [] ws) ≡ group_entries kind ws
kinds_new kind [] = refl
kinds_new kind (w ∷ ws) = kinds_gathered kind (named [] w.at w.name) [] ws

some_gathered : (e : Plain) (es : List Plain) (ws : List Placed) → is_empty (gathered (e ∷ es) ws) ≡ false
some_gathered e es [] = refl
some_gathered e es (w ∷ ws) = some_gathered e (es ++ named (e ∷ es) w.at w.name ∷ []) ws

-- a `-` and a type behind a group
dash_read : (code : Code) (group : List Plain) (dash : ℕ) (kind : Tree) (ts : Trees) → is_empty group ≡ false → entries_of code group None (More (Word dash (codes "-")) (More kind ts)) ≡ group_then (with_kind (Some kind) group) (entries_of code [] None ts)
unfolding entries_of
dash_read code group dash kind ts h = rw h refl

end_read : (code : Code) (group : List Plain) → entries_of code group None NoMore ≡ fine (with_kind None group)
unfolding entries_of
end_read code group = refl

pub written_read : WrittenListsAreRead
written_read code [] last h k =
    names_read code [] last NoMore k
    ∙ end_read code (gathered [] last)
    ∙ ap fine (kinds_new None last)
written_read code (g ∷ gs) last h k =
    let rest : Trees = written gs last in
    let group : List Plain = gathered [] (words_in g) in
    names_read code [] (words_in g) (More (Word g.dash (codes "-")) (More g.kind rest)) h.0
    ∙ dash_read code group g.dash g.kind rest (some_gathered (named [] g.first.at g.first.name) [] g.more)
    ∙ ap (group_then (with_kind (Some g.kind) group)) (written_read code gs last h.1 k)
    ∙ ap (λ es. fine (es ++ entries_in gs last)) (kinds_new (Some g.kind) (words_in g))
