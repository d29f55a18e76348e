-- Names and what follows them, read one part at a time.
use Rattle.std.proofs.Common.{◌≡◌, ℕ, Bool, cond, List, [], ◌∷◌, ◌++◌, Option, Some, None, refl, ap, ◌∙◌, sym}
use Rattle.std.specs.List.{list_all}
use Rattle.stp_plan.specs.declared.atoms.Named.{Named}
use Rattle.stp_text.specs.Bytes.{is_white}
use Rattle.stp_plan.specs.Parts.{Part, parts}
use Rattle.stp_base.specs.Options.{◌>>=◌}
use Rattle.stp_plan.specs.Names.{only_atom}
use Rattle.stp_plan.proofs.Cuts.{is_nil, nil_parts}

-- a part that is there, and one that is not
pub goes_on : {A B : Type 0} (f : A → Option B) (x : A) (o : Option A) → Some x ≡ o → (o >>= f) ≡ f x
goes_on f x o e = ap (λ p. p >>= f) (sym e)

pub stops : {A B : Type 0} (f : A → Option B) (o : Option A) → None ≡ o → (o >>= f) ≡ None
stops f o e = ap (λ p. p >>= f) (sym e)

-- ---- names one by one

-- these names, and those that come next
abbrev pub joined : List (List ℕ) → Option (List (List ℕ) × List Part) → Option (List (List ℕ) × List Part)
joined names next = next >>= (λ r. Some (names ++ r.0, r.1))

-- ---- nothing follows

only_atom_by : (named : Named) (rest : List Part) → only_atom (named, rest) ≡ cond (is_nil rest) (Some named) None
only_atom_by named [] = refl
only_atom_by named (part ∷ rest) = refl

-- a name with its arguments, before a text that is white or is not
pub only_atom_before : (named : Named) (text : List ℕ) (white : Bool) → white ≡ list_all is_white text → only_atom (named, parts text) ≡ cond white (Some named) None
only_atom_before named text white e = only_atom_by named (parts text) ∙ ap (λ b. cond b (Some named) None) (nil_parts text ∙ sym e)
