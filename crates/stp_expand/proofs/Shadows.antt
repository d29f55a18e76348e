-- The shadows of what a set writes, by lists of atoms.
use Rattle.std.proofs.Common.{◌≡◌, ℕ, Bool, true, false, ◌||◌, ◌==◌, cond, List, [], ◌∷◌, ◌++◌, map, refl, ap, ap₂, ◌∙◌}
use Rattle.std.proofs.Math.Path.{fun_ext}
use Rattle.std.specs.List.{flat_map, list_any}
use Rattle.std.proofs.lemmas.Bool.{eqb-true}
use Rattle.std.proofs.lemmas.List.Folds.{list_any-append}
use Rattle.stp_cond.specs.Atoms.{has, set_of}
use Rattle.stp_cond.specs.Substituted.{image_of}
use Rattle.stp_cond.proofs.Rising.{has_set}
use Rattle.stp_expand.specs.Footprints.{PlainFootprint, writes}
use Rattle.stp_expand.specs.Expanded.{shadow_under}

image_by : (shadow : ℕ → ℕ) (from : List ℕ) (a : ℕ) → image_of from (map shadow from) a ≡ cond (has from a) (shadow a) a
image_by shadow [] a = refl
image_by shadow (f ∷ fs) a = by_test (image_by shadow fs a) (f == a) refl
  where
    by_test : image_of fs (map shadow fs) a ≡ cond (has fs a) (shadow a) a → (b : Bool) → (f == a) ≡ b → cond b (shadow f) (image_of fs (map shadow fs) a) ≡ cond (b || has fs a) (shadow a) a
    by_test more true e = ap shadow (eqb-true f a e)
    by_test more false e = more

has_written : (set : List PlainFootprint) (a : ℕ) → has (flat_map (λ p. p.adds ++ p.dels) set) a ≡ list_any (λ p. writes p a) set
has_written [] a = refl
has_written (p ∷ ps) a =
    list_any-append (λ b. b == a) (p.adds ++ p.dels) (flat_map (λ p. p.adds ++ p.dels) ps)
    ∙ ap₂ (λ b c. b || c) (list_any-append (λ b. b == a) p.adds p.dels) (has_written ps a)

pub image_is_shadow : (shadow : ℕ → ℕ) (set : List PlainFootprint) (written from to : List ℕ) → written ≡ flat_map (λ p. p.adds ++ p.dels) set → from ≡ set_of written → to ≡ map shadow from → image_of from to ≡ shadow_under shadow set
image_is_shadow shadow set written from to e f g = fun_ext (λ a.
    ap (λ t. image_of from t a) g
    ∙ (image_by shadow from a
    ∙ ap (λ b. cond b (shadow a) a) (ap (λ l. has l a) f ∙ (has_set written a ∙ (ap (λ l. has l a) e ∙ has_written set a)))))
