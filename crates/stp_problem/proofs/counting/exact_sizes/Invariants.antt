use Rattle.std.proofs.Common.{◌≡◌, ℕ, length, take, slice_index}
use Rattle.std.specs.Prelude.{◌==◌}
use Rattle.std.specs.List.{count_by}
use Rattle.stp_problem.proofs.counting.exact_sizes.Given as goal

abbrev pub invariant-loop-object : goal.invariant-loop-object
invariant-loop-object l = record {
  len : length l.sizes.items ≡ l.types;
  each : (kind : ℕ) → slice_index l.sizes.items kind ≡ count_by (λ o. o.kind == kind) (take l.object-index l.objects);
}
