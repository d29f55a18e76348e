use Rattle.std.proofs.Common.{rules, ◌≡◌, ◌∙◌, ◌∷◌, [], ap, sym, take, length, get_or, arith}
use Rattle.std.proofs.lemmas.List.{map-append, take-map, take_at, length-map}
use Rattle.stp_base.specs.declared.ids.ObjectId.{ObjectId}
use Rattle.stp_instance.specs.Bindings.{numbers_of}
use Rattle.stp_instance.specs.Typing.{objects_in}
use Rattle.stp_schema.specs.Schemas.{schema_of}
use Rattle.stp_ground.specs.Worlds.{problem_in}
use Rattle.stp_kept.specs.Views.{instance_views}
use Rattle.stp_kept.proofs.ByNext.{lists_by_first}
use Rattle.stp_kept.proofs.listing.+list.Goals as goal

pub list_with-returns-clause-binding : goal.list_with-returns-clause-binding
list_with-returns-clause-binding t c =
    let items = c.args.binding.now.items in
    let mark : c.len-mark.result ≡ length items = search rules in
    ap numbers_of c.truncate.ensures.items
    ∙ sym (take-map (λ (o : ObjectId). o.0) c.len-mark.result c.list.new.binding.items)
    ∙ ap (take c.len-mark.result) (c.in_ok-listed.ensures.binding ∙ ap numbers_of c.in_ok-push.ensures.items ∙ map-append (λ (o : ObjectId). o.0) items (c.args.object ∷ []))
    ∙ take_at (numbers_of items) (c.args.object.0 ∷ []) c.len-mark.result (length-map items (λ (o : ObjectId). o.0) ∙ sym mark)

pub list-returns-clause-lists : goal.list-returns-clause-lists
list-returns-clause-lists t c =
    let w = c.args.world.now in
    lists_by_first (problem_in w) c.args.row.now.number (schema_of c.args.row.now.schema.now) (numbers_of c.args.binding.now.items) c.args.kinds.now c.in_ok-objects.objects.now c.in_ok-listed.listed (instance_views c.args.out.now) (instance_views c.list_each.new.out)
    (omega arith)
    (c.in_ok-objects.ensures.objects ∙ ap (λ m. objects_in m (get_or c.args.kinds.now 0 0)) w.typed)
    c.in_ok-listed.ensures.lists
