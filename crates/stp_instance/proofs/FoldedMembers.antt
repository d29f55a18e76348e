-- What folding makes of the members of a condition.
use Rattle.std.proofs.Common.{◌≡◌, ℕ, Bool, List, [], ◌∷◌, map, Bor, refl, ap, sym, ◌∙◌}
use Rattle.stp_tables.specs.Atoms.{Atom}
use Rattle.stp_cond.specs.declared.cond.Cond.{Cond}
use Rattle.stp_cond.specs.declared.known.Three.TheVariants.{Unknown}
use Rattle.stp_cond.specs.Formulas.{view}
use Rattle.stp_cond.specs.Folded.{folded_all, folded_and, folded_or}
use Rattle.stp_instance.specs.declared.ground.Ground.{Ground}
use Rattle.stp_instance.specs.declared.ground.Ground.TheVariants.{Every, Any}
use Rattle.stp_instance.specs.Expanded.{claims_of}
use Rattle.stp_instance.specs.Views.{claim}
use Rattle.stp_instance.specs.Numbered.{folded_ground, numbered_all}
use Rattle.stp_instance.proofs.Claims.{claim_every, claim_any}

module _ (fluent : ℕ → Bool) (is_true : Atom → Bool) (table : List Atom) where
  folded_members : (members : List Ground) → folded_all (λ atom. Unknown) (numbered_all fluent is_true table (claims_of (map claim members))) ≡ map (λ g. folded_ground fluent is_true table (claim g)) members
  folded_members [] = refl
  folded_members (m ∷ ms) = ap (λ l. folded_ground fluent is_true table (claim m) ∷ l) (folded_members ms)

  pub folded_every : (ground : Ground) (members : Bor (List Ground)) (items : List Cond) (cond : Cond) → ground ≡ Every members → map view items ≡ map (λ g. folded_ground fluent is_true table (claim g)) members.now → view cond ≡ folded_and (map view items) → view cond ≡ folded_ground fluent is_true table (claim ground)
  folded_every ground members items cond is e made =
      made ∙ ap folded_and (e ∙ sym (folded_members members.now)) ∙ ap (folded_ground fluent is_true table) (sym (ap claim is ∙ claim_every members))

  pub folded_any : (ground : Ground) (members : Bor (List Ground)) (items : List Cond) (cond : Cond) → ground ≡ Any members → map view items ≡ map (λ g. folded_ground fluent is_true table (claim g)) members.now → view cond ≡ folded_or (map view items) → view cond ≡ folded_ground fluent is_true table (claim ground)
  folded_any ground members items cond is e made =
      made ∙ ap folded_or (e ∙ sym (folded_members members.now)) ∙ ap (folded_ground fluent is_true table) (sym (ap claim is ∙ claim_any members))
