use Rattle.std.proofs.Common.{◌≡◌, ◌+◌, ◌<◌, ◌≤◌, length, slice_index, ap, sym, ◌∙◌, arith}
use Rattle.stp_least.proofs.Placed.{ends_within, keeps_low, lowered_failing}
use Rattle.stp_least.proofs.place.lowered.Goals as goal

-- a vector has a duration at the position
pub bounds-as_slice-place : goal.bounds-as_slice-place
bounds-as_slice-place c =
    let w = ends_within c.args.place c.args.low c.args.high c.args.durations c.requires.place c.requires.failure in
    let there : c.args.place.position < length c.args.durations = w.there in
    omega (arith, ap length c.as_slice.ensures)

pub offset_bounds-as_slice-place : goal.offset_bounds-as_slice-place
offset_bounds-as_slice-place c =
    let w = ends_within c.args.place c.args.low c.args.high c.args.durations c.requires.place c.requires.failure in
    let there : c.args.place.position < length c.args.durations = w.there in
    omega (arith, c.as_slice.type_inv, ap length c.as_slice.ensures)

-- with it the owner ends within the bounds
pub end_at-requires : goal.end_at-requires
end_at-requires c =
    let w = ends_within c.args.place c.args.low c.args.high c.args.durations c.requires.place c.requires.failure in
    let to : c.args.place.owner.start + slice_index c.args.durations c.args.place.position ≤ c.args.high = w.to in
    let within : c.args.high ≤ c.args.place.owner.high = c.requires.fits.high in
    rw c.as_slice.ensures (omega arith)

pub returns-clause-failing : goal.returns-clause-failing
returns-clause-failing c =
    let end : c.args.place.owner.start + slice_index c.args.durations c.args.place.position ≡ c.end_at.result = sym (c.end_at.ensures ∙ ap (λ ds. c.args.place.owner.start + slice_index ds c.args.place.position) c.as_slice.ensures) in
    lowered_failing c.args.place c.args.low c.args.high c.end_at.result c.args.durations c.requires.place c.requires.fits c.requires.failure end

pub returns-clause-least : goal.returns-clause-least
returns-clause-least c =
    let end : c.args.place.owner.start + slice_index c.args.durations c.args.place.position ≡ c.end_at.result = sym (c.end_at.ensures ∙ ap (λ ds. c.args.place.owner.start + slice_index ds c.args.place.position) c.as_slice.ensures) in
    let to : c.args.place.owner.start + slice_index c.args.durations c.args.place.position ≤ c.args.high = (ends_within c.args.place c.args.low c.args.high c.args.durations c.requires.place c.requires.failure).to in
    keeps_low c.args.place c.args.low c.args.high c.end_at.result c.requires.place (omega arith)

pub returns-clause-high : goal.returns-clause-high
returns-clause-high c =
    let end : c.args.place.owner.start + slice_index c.args.durations c.args.place.position ≡ c.end_at.result = sym (c.end_at.ensures ∙ ap (λ ds. c.args.place.owner.start + slice_index ds c.args.place.position) c.as_slice.ensures) in
    let to : c.args.place.owner.start + slice_index c.args.durations c.args.place.position ≤ c.args.high = (ends_within c.args.place c.args.low c.args.high c.args.durations c.requires.place c.requires.failure).to in
    omega arith
