use Rattle.std.proofs.Common.{[], Some, None, ◌≡◌, sym, ap, ◌∙◌}
use Rattle.std.specs.List.{position}
use Rattle.std.proofs.lemmas.List.Quantifiers.{position-Some}
use Rattle.stp_expand.specs.declared.footprint.Footprint.{Footprint}
use Rattle.stp_expand.specs.Footprints.{is_same}
use Rattle.stp_expand.specs.Views.{footprint_of, footprints_of}
use Rattle.stp_expand.proofs.Placing.{put_to_same, put_at_end, joined_to, joined_view, none_same}
use Rattle.stp_expand.proofs.merging.add_footprint.Goals as goal

abbrev none : Footprint
none = record { adds = record { ref_ptr = (0, 0); now = [] }; dels = record { ref_ptr = (0, 0); now = [] }; opened = record { ref_ptr = (0, 0); now = [] } }

pub returns-in_default : goal.returns-in_default
returns-in_default c =
    let is : position (λ q. is_same (footprint_of c.args.one.now) (footprint_of q)) c.args.found.now.items ≡ None = ap (position (λ q. is_same (footprint_of c.args.one.now) (footprint_of q))) (sym c.as_slice.ensures.value) ∙ (sym c.place_of.ensures ∙ c.in_default.is) in
    ap footprints_of c.in_ok-push.ensures.items
    ∙ put_at_end c.args.one.now c.args.found.now.items none (λ k l. none_same (λ q. is_same (footprint_of c.args.one.now) (footprint_of q)) c.args.found.now.items is k none l)

pub returns : goal.returns
returns c =
    let is : position (λ q. is_same (footprint_of c.args.one.now) (footprint_of q)) c.args.found.now.items ≡ Some c.in-Some.place = ap (position (λ q. is_same (footprint_of c.args.one.now) (footprint_of q))) (sym c.as_slice.ensures.value) ∙ (sym c.place_of.ensures ∙ c.in-Some.is) in
    let same = c.index-same.result.now in
    let at = position-Some (λ q. is_same (footprint_of c.args.one.now) (footprint_of q)) c.args.found.now.items c.in-Some.place same is in
    put_to_same (footprint_of c.args.one.now) c.args.found.now.items c.in-Some.place (record { adds = same.adds; dels = same.dels; opened = c.in_ok-opened.opened }) same at.0 at.1 at.2
    (joined_view same c.args.one.now c.in_ok-opened.opened c.in_ok-opened.ensures ∙ ap (λ f. joined_to (footprint_of f) (footprint_of c.args.one.now)) c.index-same.ensures)
