-- The objects of a problem begin with the constants of its domain.
use Rattle.std.proofs.Common.{◌≡◌, Bool, true, false, if◌then◌else◌, List, [], ◌∷◌, ◌++◌, length, take, ap, sym, ◌∙◌, append_assoc}
use Rattle.std.proofs.lemmas.List.{append-nil}
use Rattle.std.proofs.Math.Seq.{take-append_seam}
use Rattle.stp_tables.specs.Names.{is_new_in}
use Rattle.stp_schema.specs.Rows.{Thing, thing_names}
use Rattle.stp_domain_tables.specs.Objects.{with_object, with_objects}

began : (xs : List Thing) (t : Thing) (whole rest : List Thing) (b : Bool) → whole ≡ (if b then xs ++ t ∷ [] else xs) ++ rest → (more : List Thing) × (whole ≡ xs ++ more)
began xs t whole rest true e = (t ∷ rest, e ∙ append_assoc xs (t ∷ []) rest)
began xs t whole rest false e = (rest, e)

begins : (xs ts : List Thing) → (more : List Thing) × (with_objects xs ts ≡ xs ++ more)
begins xs [] = ([], sym (append-nil xs))
begins xs (t ∷ ts) = let h = begins (with_object xs t) ts in began xs t (with_objects (with_object xs t) ts) h.0 (is_new_in (thing_names xs) t.name) h.1

pub objects_begin : (xs ts : List Thing) → take (length xs) (with_objects xs ts) ≡ xs
objects_begin xs ts = let h = begins xs ts in ap (take (length xs)) h.1 ∙ take-append_seam xs h.0
