use Rattle.std.proofs.Common.{map, ap, sym, ◌∙◌}
use Rattle.stp_refusal.specs.First.{first_from}
use Rattle.stp_refusal.proofs.Reading.{finds_after}
use Rattle.stp_domain_parts.specs.Entries.{plains}
use Rattle.stp_schema.specs.Rows.{type_names_of, parents_of, shape_of, thing_of}
use Rattle.stp_domain_tables.specs.Views.{signature_of}
use Rattle.stp_domain_tables.specs.ActionViews.{action_signature_of}
use Rattle.stp_domain_tables.specs.ActionRows.{action_shape_of}
use Rattle.stp_domain_tables.specs.DeclarationViews.{declarations_of}
use Rattle.stp_domain_tables.specs.Types.{types_in, parents_in, loops_wrong}
use Rattle.stp_domain_tables.specs.Tables.{kinds_wrong, shape, action_shape, with_things, no_things}
use Rattle.stp_domain_tables.proofs.Tabling.{tables_are}
use Rattle.stp_domain_tables.proofs.declaring.declare.Goals as goal

pub returns : goal.returns
returns c =
    let found = c.args.declarations in
    let d = declarations_of found in
    let types = types_in d.type_items in
    let names = c.in_ok-types.ensures.names in
    record {
      first = finds_after _ _ _ (loops_wrong types (parents_in types d.types) d.types) (kinds_wrong types d)
          (rw c.as_slice.ensures at c.in_ok-types.ensures.found)
          (c.judge_types.ensures ∙ ap (λ ts. first_from c.declare_types.new.first (kinds_wrong ts d)) names);
      same = tables_are d types (type_names_of c.in_ok-types.types.rows.now) (parents_of c.in_ok-types.types.rows.now) (map shape_of c.in_ok-predicate_rows.predicate_rows.now) (map shape_of c.in_ok-function_rows.function_rows.now) (map thing_of c.in_ok-constants.constants.rows.now) (map action_shape_of c.in_ok-action_rows.action_rows.now)
          (sym c.in_ok-types.types.same_names ∙ names)
          (rw c.as_slice.ensures at c.in_ok-types.ensures.parents)
          ((rw c.as_slice-2.ensures at c.in_ok-predicate_rows.ensures.shapes) ∙ ap (λ ts. map (shape ts) (map signature_of found.predicates.rows)) names)
          ((rw c.as_slice-3.ensures at c.in_ok-function_rows.ensures.shapes) ∙ ap (λ ts. map (shape ts) (map signature_of found.functions.symbols.rows)) names)
          ((rw c.as_slice-5.ensures at c.in_ok-constants.ensures) ∙ ap (λ ts. (with_things ts no_things (plains found.constants)).rows) names)
          ((rw c.as_slice-4.ensures at c.in_ok-action_rows.ensures.shapes) ∙ ap (λ ts. map (action_shape ts) (map action_signature_of found.actions.rows)) names);
    }
