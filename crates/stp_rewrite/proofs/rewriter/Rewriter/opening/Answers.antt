use Rattle.std.proofs.Common.{◌≡◌, ◌++◌, ◌∷◌, [], sym, ap, ap₂, ◌∙◌}
use Rattle.std.proofs.lemmas.List.{map-append}
use Rattle.stp_base.specs.declared.ids.AtomId.{AtomId}
use Rattle.stp_cond.specs.Atoms.{set_of}
use Rattle.stp_cond.specs.Formulas.{view}
use Rattle.stp_cond.specs.Views.{atoms_of}
use Rattle.stp_task.specs.Actions.{event_in, happening_of}
use Rattle.stp_rewrite.specs.Ends.{shadows_by}
use Rattle.stp_rewrite.specs.Happenings.{guarded, lock_atoms}
use Rattle.stp_rewrite.specs.Rewriters.{rewriting_by}
use Rattle.stp_rewrite.proofs.Ends.{event_of_shape}
use Rattle.stp_rewrite.proofs.Settling.{adds_shadows, apart_if_opening, dels_shadows, guarded_alone, same_happening}
use Rattle.stp_rewrite.proofs.rewriter.Rewriter.opening.Goals as goal

pub event_with-requires-clause-reads : goal.event_with-requires-clause-reads
event_with-requires-clause-reads c =
    let locks = atoms_of c.in_ok-locks.locks.items in
    guarded_alone c.args.event.now c.in_ok-cond.cond.now locks (atoms_of c.deref-3.result.now)
    (c.in_ok-cond.ensures ∙ ap (λ l. guarded (view c.args.event.now.cond.now) (atoms_of l)) c.deref.ensures.value)
    (ap atoms_of c.deref-3.ensures.value ∙ (c.in_ok-reads.ensures ∙ ap (λ l. atoms_of c.args.event.now.reads.now ++ atoms_of l) c.deref-2.ensures.value))

pub event_with-requires-clause-apart : goal.event_with-requires-clause-apart
event_with-requires-clause-apart c =
    let e = c.args.event.now in
    let row = c.args.self.now.shadow_of in
    let adds = ap atoms_of (c.deref-4.ensures.value ∙ c.in_ok-push.ensures.items) ∙ (map-append (λ (a : AtomId). a.0) c.in_ok-adds.adds.items (c.args.opened ∷ []) ∙ ap₂ (λ l o. l ++ o ∷ []) (c.in_ok-adds.ensures ∙ ap (λ k. shadows_by k (atoms_of e.adds.now)) c.as_slice.ensures) c.requires.opened) in
    let dels = ap atoms_of c.deref-5.ensures.value ∙ (c.in_ok-dels.ensures ∙ ap (λ k. shadows_by k (atoms_of e.dels.now)) c.as_slice-2.ensures) in
    apart_if_opening c.args.self.now e c.requires.in_range c.args.action.0 (atoms_of c.deref-4.result.now) (atoms_of c.deref-5.result.now) adds dels

pub returns : goal.returns
returns c =
    let e = c.args.event.now in
    let row = c.args.self.now.shadow_of in
    let locks : atoms_of c.in_ok-locks.locks.items ≡ lock_atoms (rewriting_by c.args.self.now) c.args.action.0 (event_in (happening_of e))
    = c.in_ok-locks.ensures ∙ ap (lock_atoms (rewriting_by c.args.self.now) c.args.action.0) (sym (event_of_shape e)) in
    let cond = ap (λ l. guarded (view e.cond.now) (atoms_of l)) c.deref.ensures.value ∙ ap (guarded (view e.cond.now)) locks in
    let reads = ap atoms_of c.deref-3.ensures.value ∙ (c.in_ok-reads.ensures ∙ (ap (λ l. atoms_of e.reads.now ++ atoms_of l) c.deref-2.ensures.value ∙ ap (λ l. atoms_of e.reads.now ++ l) locks)) in
    let adds = ap atoms_of (c.deref-4.ensures.value ∙ c.in_ok-push.ensures.items) ∙ (map-append (λ (a : AtomId). a.0) c.in_ok-adds.adds.items (c.args.opened ∷ []) ∙ ap₂ (λ l o. l ++ o ∷ []) (c.in_ok-adds.ensures ∙ ap (λ k. shadows_by k (atoms_of e.adds.now)) c.as_slice.ensures) c.requires.opened) in
    let dels = ap atoms_of c.deref-5.ensures.value ∙ (c.in_ok-dels.ensures ∙ ap (λ k. shadows_by k (atoms_of e.dels.now)) c.as_slice-2.ensures) in
    c.in_ok-made.ensures ∙ same_happening _ _ _ _ _ _ _ _ (c.in_ok-cond.ensures ∙ cond) (ap set_of reads) (ap set_of (adds ∙ ap (λ l. l ++ (rewriting_by c.args.self.now).opened c.args.action.0 ∷ []) (adds_shadows c.args.self.now e c.requires.in_range))) (ap set_of (dels ∙ dels_shadows c.args.self.now e c.requires.in_range))
