-- One more instance of a quantifier's body.
use Rattle.std.proofs.Common.{◌≡◌, ℕ, Bool, true, false, List, [], ◌∷◌, ◌++◌, length, map, take, ap, sym, ◌∙◌}
use Rattle.std.proofs.lemmas.List.{append_assoc, map-append, take-map, take_at}
use Rattle.stp_base.specs.declared.ids.ObjectId.{ObjectId}
use Rattle.stp_instance.specs.Bindings.{numbers_of}
use Rattle.stp_instance.specs.declared.ground.Ground.{Ground}
use Rattle.stp_instance.specs.Expanded.{Claim}
use Rattle.stp_instance.specs.Views.{claim}
use Rattle.stp_instance.specs.Turning.{Takes}

-- `body` says what is made of the body under a binding
pub one_more : (body : List ℕ → Claim) (out : List Ground) (made : Ground) (taken : Bool) (old new : List (List ℕ)) (before binding bound : List ℕ) (total : List Claim) → Takes taken old new before bound → taken ≡ true → before ≡ binding → claim made ≡ body bound → map claim out ++ map (λ objects. body (binding ++ objects)) old ≡ total → map claim (out ++ made ∷ []) ++ map (λ objects. body (binding ++ objects)) new ≡ total
one_more body out made true old new before binding bound total takes e same is so_far =
    ap (λ l. l ++ map (λ objects. body (binding ++ objects)) new) (map-append claim out (made ∷ []))
    ∙ append_assoc (map claim out) (claim made ∷ []) (map (λ objects. body (binding ++ objects)) new)
    ∙ ap (λ x. map claim out ++ (x ∷ map (λ objects. body (binding ++ objects)) new)) (is ∙ ap body (takes.2 ∙ ap (λ b. b ++ takes.0) same))
    ∙ ap (λ l. map claim out ++ map (λ objects. body (binding ++ objects)) l) (sym takes.1)
    ∙ so_far
one_more body out made false old new before binding bound total takes e same is so_far = cc

-- the binding as it was before
pub as_before : (mark : ℕ) (items : List ObjectId) (taken : Bool) (old new : List (List ℕ)) (before binding bound : List ℕ) → Takes taken old new before bound → taken ≡ true → before ≡ binding → numbers_of items ≡ bound → mark ≡ length binding → numbers_of (take mark items) ≡ binding
as_before mark items true old new before binding bound takes e same is m =
    sym (take-map (λ (o : ObjectId). o.0) mark items)
    ∙ ap (take mark) (is ∙ takes.2 ∙ ap (λ b. b ++ takes.0) same)
    ∙ take_at binding takes.0 mark (sym m)
as_before mark items false old new before binding bound takes e same is m = cc
