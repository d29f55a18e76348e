use Rattle.std.proofs.Common.{◌+◌, ◌∙◌, sym, ap, arith, slice_index, Some}
use Rattle.std.specs.Prelude.{option_map}
use Rattle.stp_schema.specs.Schemas.{schema_of}
use Rattle.stp_problem.specs.Nodes.{nodes_of_schema, are_too_many}
use Rattle.stp_problem.proofs.First.{place-map, place_found, place_none}
use Rattle.stp_problem.proofs.schemas.first_too_large.Goals as goal

pub returns-then-is_too_large : goal.returns-then-is_too_large
returns-then-is_too_large c =
    let i = c.loop-schema.invariant in
    let size = slice_index c.args.sizes.now in
    let schemas = c.args.schemas.now in
    ap (λ n. Some (n + 1)) i.number
    ∙ ap (option_map (λ place. place + 1)) (sym (place-map (λ s. are_too_many (nodes_of_schema size s)) schema_of schemas
    ∙ place_found (λ s. are_too_many (nodes_of_schema size (schema_of s))) schemas c.loop-schema.schema-index c.schema-item.result c.loop-schema-test.true (λ k h. i.before k c.schema-item.result h)
    (ap (λ s. are_too_many (nodes_of_schema size (schema_of s))) (sym c.schema-item.is) ∙ sym c.is_too_large.ensures ∙ c.if-is_too_large.true)))

pub returns : goal.returns
returns c =
    let i = c.loop-schema.invariant in
    let size = slice_index c.args.sizes.now in
    let schemas = c.args.schemas.now in
    ap (option_map (λ place. place + 1)) (sym (place-map (λ s. are_too_many (nodes_of_schema size s)) schema_of schemas
    ∙ place_none (λ s. are_too_many (nodes_of_schema size (schema_of s))) schemas (λ k d h. i.before k d (omega (arith, h, c.loop-schema-test.false)))))
