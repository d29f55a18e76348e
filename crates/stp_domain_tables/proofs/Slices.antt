-- Slices, one item at a time.
use Rattle.std.proofs.Common.{◌≡◌, ℕ, ◌+◌, ◌<◌, List, [], ◌∷◌, length, map, drop, get_or, None, ap, ◌∙◌}
use Rattle.std.proofs.lemmas.List.{drop_more}
use Rattle.stp_domain_parts.specs.declared.entry.Entry.{Entry}
use Rattle.stp_domain_parts.specs.declared.action.ActionParts.{ActionParts}
use Rattle.stp_domain_parts.specs.declared.action.TimingParts.TheVariants.{Instant}

-- what a place past the end is read as
abbrev pub no_parts : ActionParts
no_parts = record { at = 0; name_at = 0; name = record { ref_ptr = (0, 0); now = [] }; parameters = record { ref_ptr = (0, 0); now = [] }; timing = Instant; condition = None; effect = None }

abbrev pub no_entry : Entry
no_entry = record { at = 0; name = record { ref_ptr = (0, 0); now = [] }; group = 0; kind = None }

pub map_drop : {A B : Type 0} (f : A → B) (xs : List A) (i : ℕ) (d : A) → i < length xs → map f (drop i xs) ≡ f (get_or xs i d) ∷ map f (drop (i + 1) xs)
map_drop f xs i d h = ap (map f) (drop_more xs i d h)

pub map_drop_at : {A B : Type 0} (f : A → B) (xs : List A) (i : ℕ) (x : A) → i < length xs → get_or xs i x ≡ x → map f (drop i xs) ≡ f x ∷ map f (drop (i + 1) xs)
map_drop_at f xs i x h is = ap (map f) (drop_more xs i x h) ∙ ap (λ y. f y ∷ map f (drop (i + 1) xs)) is
