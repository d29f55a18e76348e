use Rattle.std.proofs.Common.{◌≡◌, ◌++◌, ◌∷◌, [], sym, ◌∙◌, ap, arith, Some, None, map, refl, drop}
use Rattle.std.proofs.lemmas.List.{map-append}
use Rattle.stp_text.proofs.Items.{views_more, views_end}
use Rattle.stp_text.specs.Tree.{view}
use Rattle.stp_text.proofs.Equations.{view_word, view_items}
use Rattle.stp_domain_parts.specs.Entries.{Plain, plains, with_kind, plain, is_empty, group_place}
use Rattle.stp_domain_parts.proofs.Steps.{grouped, listed, stray, dashed, named, ended}
use Rattle.stp_domain_parts.proofs.entry.read_entries.Goals as goal
use Rattle.stp_domain_parts.proofs.entry.read_entries.Goals.{in-Some-default+in_ok-add_group-in-Some-default, in-None-Items, in-None-Word+then-is_dash+then-has_none, in-None-Word+then-is_dash+else-has_none, in-None-Word+else-is_dash+in_ok-push-in-None-Word, in-Some, in-None}

pub loop-item-preserved : goal.loop-item-preserved
loop-item-preserved c =
    let so_far = rw (views_more c.args.items.now c.loop-item.item-index c.item-item.result (omega arith) (sym c.item-item.is)) at c.loop-item.invariant in
    elim c.match-dash.branch [
      | in-Some-default+in_ok-add_group-in-Some-default w ↦
          rw (w.first-is, w.dash-is, ap (λ g. plains g.items) w.group-is ∙ ap plains w.clear.ensures.items)
          (grouped _ _ _ _ _ _ _ _ _ _ (ap plains w.out-is ∙ w.in_ok-add_group-in-Some-default.ensures ∙ ap (λ g. plains c.loop-item.out ++ with_kind (Some (view c.item-item.result)) (plains g)) w.as_slice.ensures.value) (rw w.in-Some-default.is-0 at so_far))
      | in-None-Items w ↦
          rw (w.out-is, w.dash-is, ap (λ g. plains g.items) w.group-is, w.in-None-Items.is-0)
          (listed _ _ _ _ _ _ _ _ _ _ (w.first-is ∙ w.note.ensures) (rw (w.in-None-Items.is-0, w.in-None-Items.is-1, view_items) at so_far))
      | in-None-Word+then-is_dash+then-has_none w ↦
          rw (w.out-is, w.dash-is, ap (λ g. plains g.items) w.group-is, w.in-None-Word.is-0)
          (stray _ _ _ _ _ _ _ _ _ _ w.if-is_dash.ensures (w.if-has_none.ensures ∙ ap (λ g. is_empty (plains g)) w.as_slice-then-is_dash.ensures.value) (w.first-is ∙ w.note-then-has_none.ensures) (rw (w.in-None-Word.is-0, w.in-None-Word.is-1, view_word) at so_far))
      | in-None-Word+then-is_dash+else-has_none w ↦
          rw (w.first-is, w.out-is, w.dash-is, ap (λ g. plains g.items) w.group-is)
          (dashed _ _ _ _ _ _ _ _ _ w.if-is_dash.ensures (w.if-has_none.ensures ∙ ap (λ g. is_empty (plains g)) w.as_slice-then-is_dash.ensures.value) (rw (w.in-None-Word.is-0, w.in-None-Word.is-1, view_word) at so_far))
      | in-None-Word+else-is_dash+in_ok-push-in-None-Word w ↦
          rw (w.first-is, w.out-is, w.dash-is, w.in-None-Word.is-0)
          (named _ _ _ _ _ _ _ _ _ _ w.if-is_dash.ensures
          (ap (λ g. plains g.items) w.group-is ∙ ap plains w.in_ok-push-in-None-Word.ensures.items ∙ map-append plain _ _
          ∙ ap (λ place. plains c.loop-item.group.items ++ (let p : Plain = record { at = w.in-None-Word.at; name = w.in-None-Word.text.now; group = place; kind = None } in p) ∷ []) (w.group_place-place.ensures ∙ ap (λ g. group_place (plains g) w.in-None-Word.at) w.as_slice-else-is_dash.ensures.value))
          (rw (w.in-None-Word.is-0, w.in-None-Word.is-1, view_word) at so_far))
    ]

pub returns : goal.returns
returns c =
    let so_far = rw (views_end c.args.items.now c.loop-item.item-index (omega arith)) at c.loop-item.invariant in
    ended _ _ _ _ _ _ c.loop-item.dash _ _
    (elim c.match-dash-2.branch [ in-Some w ↦ rw w.in-Some.is (w.first-is ∙ w.note-in-Some.ensures) | in-None w ↦ rw w.in-None.is w.first-is ])
    (c.in_ok-add_group.ensures ∙ ap (λ g. plains c.loop-item.out ++ with_kind None (plains g)) c.as_slice-2.ensures.value)
    so_far
