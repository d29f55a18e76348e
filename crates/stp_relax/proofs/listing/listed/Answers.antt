use Rattle.std.proofs.Common.{◌≡◌, [], ◌∷◌, ◌++◌, sym, ap, ◌∙◌}
use Rattle.std.proofs.lemmas.List.{map-append}
use Rattle.stp_base.specs.declared.ids.AtomId.{AtomId}
use Rattle.stp_cond.specs.Views.{atoms_of}
use Rattle.stp_cond.proofs.Rising.{set_of_rising}
use Rattle.stp_relax.proofs.Tests.{found_more, found_rise, none_found}
use Rattle.stp_relax.proofs.listing.listed.Goals as goal
use Rattle.stp_relax.proofs.listing.listed.Goals.{then-get+in_ok-push, else-get}

pub loop-number-preserved : goal.loop-number-preserved
loop-number-preserved c =
    let row = c.args.row.now in
    let n = c.loop-number.number in
    let xs = atoms_of c.loop-number.found in
    elim c.if-get.branch [
      | then-get+in_ok-push w ↦
          let new : atoms_of c.if-get.found ≡ xs ++ n ∷ [] = ap atoms_of (w.found-is ∙ w.in_ok-push.ensures.ok) ∙ map-append (λ (a : AtomId). a.0) c.loop-number.found (record { 0 = n } ∷ []) in
          record {
            rising = rw new (found_rise row xs n c.loop-number.invariant.those c.loop-number.invariant.rising);
            those = λ a. rw new (found_more row xs n c.loop-number.invariant.those (sym w.if-get.ensures) a);
          }
      | else-get w ↦
          let same : atoms_of c.if-get.found ≡ xs = ap atoms_of w.found-is in
          record {
            rising = rw same c.loop-number.invariant.rising;
            those = λ a. rw same (none_found row xs n c.loop-number.invariant.those (sym w.if-get.ensures) a);
          }
    ]

pub returns-clause-once : goal.returns-clause-once
returns-clause-once c = set_of_rising (atoms_of c.loop-number.found) c.loop-number.invariant.rising
