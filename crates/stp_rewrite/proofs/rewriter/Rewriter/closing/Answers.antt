use Rattle.std.proofs.Common.{◌++◌, ◌∷◌, [], refl, ap, ap₂, ◌∙◌}
use Rattle.std.proofs.lemmas.List.{map-append}
use Rattle.stp_base.specs.declared.ids.AtomId.{AtomId}
use Rattle.stp_cond.specs.Atoms.{set_of}
use Rattle.stp_cond.specs.Formulas.{view}
use Rattle.stp_cond.specs.Views.{atoms_of}
use Rattle.stp_rewrite.specs.Ends.{shadows_by}
use Rattle.stp_rewrite.specs.Rewriters.{rewriting_by}
use Rattle.stp_cond.proofs.Viewing.{view_true}
use Rattle.stp_rewrite.proofs.Settling.{adds_shadows, apart_if_closing, dels_shadows, same_happening}
use Rattle.stp_rewrite.proofs.rewriter.Rewriter.closing.Goals as goal

pub event_with-requires-clause-apart : goal.event_with-requires-clause-apart
event_with-requires-clause-apart c =
    let e = c.args.event.now in
    let row = c.args.self.now.shadow_of in
    let adds = ap atoms_of c.deref.ensures.value ∙ (c.in_ok-adds.ensures ∙ ap (λ k. atoms_of e.adds.now ++ shadows_by k (atoms_of e.adds.now)) c.as_slice.ensures) in
    let dels = ap atoms_of (c.deref-2.ensures.value ∙ c.in_ok-push.ensures.items) ∙ (map-append (λ (a : AtomId). a.0) c.in_ok-dels.dels.items (c.args.opened ∷ []) ∙ ap₂ (λ l o. l ++ o ∷ []) (c.in_ok-dels.ensures ∙ ap (λ k. atoms_of e.dels.now ++ shadows_by k (atoms_of e.dels.now)) c.as_slice-2.ensures) c.requires.opened) in
    apart_if_closing c.args.self.now e c.requires.in_range c.args.action.0 (atoms_of c.deref.result.now) (atoms_of c.deref-2.result.now) adds dels

pub returns : goal.returns
returns c =
    let e = c.args.event.now in
    let row = c.args.self.now.shadow_of in
    let adds = ap atoms_of c.deref.ensures.value ∙ (c.in_ok-adds.ensures ∙ ap (λ k. atoms_of e.adds.now ++ shadows_by k (atoms_of e.adds.now)) c.as_slice.ensures) in
    let dels = ap atoms_of (c.deref-2.ensures.value ∙ c.in_ok-push.ensures.items) ∙ (map-append (λ (a : AtomId). a.0) c.in_ok-dels.dels.items (c.args.opened ∷ []) ∙ ap₂ (λ l o. l ++ o ∷ []) (c.in_ok-dels.ensures ∙ ap (λ k. atoms_of e.dels.now ++ shadows_by k (atoms_of e.dels.now)) c.as_slice-2.ensures) c.requires.opened) in
    c.in_ok-made.ensures ∙ same_happening _ _ _ _ _ _ _ _ (ap view c.in_ok-cond.ensures ∙ view_true) refl (ap set_of (adds ∙ ap (λ l. atoms_of e.adds.now ++ l) (adds_shadows c.args.self.now e c.requires.in_range))) (ap set_of (dels ∙ ap (λ l. (atoms_of e.dels.now ++ l) ++ (rewriting_by c.args.self.now).opened c.args.action.0 ∷ []) (dels_shadows c.args.self.now e c.requires.in_range)))
