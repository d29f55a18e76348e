use Rattle.std.proofs.Common.{◌≤◌, length, refl, ap, arith}
use Rattle.stp_least.specs.declared.place.Place.{Place}
use Rattle.stp_least.proofs.Searches.{certain_next, place_next, found_next, may_end, position_small}
use Rattle.stp_least.proofs.search.advanced.Goals as goal

-- a certain owner has one end already
pub returns-then-not-owner-clause-search : goal.returns-then-not-owner-clause-search
returns-then-not-owner-clause-search c =
    certain_next c.args.index c.args.search c.as_slice.result.now c.index-as_slice-index.result c.requires.search c.as_slice.ensures c.requires.there c.index-as_slice-index.is c.if-not-owner.true

pub fixed_at-requires-clause-place : goal.fixed_at-requires-clause-place
fixed_at-requires-clause-place c =
    place_next c.args.index c.args.search c.as_slice.result.now c.index-as_slice-index.result c.requires.search c.as_slice.ensures c.requires.there c.index-as_slice-index.is c.if-not-owner.false _ refl refl refl

pub with_bounds-requires : goal.with_bounds-requires
with_bounds-requires c =
    let place : Place = record { boxed = record { ref_ptr = (c.boxed-1.given, 0); now = c.args.search.boxed }; owner = c.index-as_slice-index.result; position = c.args.search.position } in
    may_end place (place_next c.args.index c.args.search c.as_slice.result.now c.index-as_slice-index.result c.requires.search c.as_slice.ensures c.requires.there c.index-as_slice-index.is c.if-not-owner.false place refl refl refl)
    c.in_ok-found.found.low c.in_ok-found.found.high c.in_ok-found.ensures.failing.fits

pub overflow_add-result : goal.overflow_add-result
overflow_add-result c =
    let small : c.args.search.position ≤ c.args.index = position_small c.args.index c.args.search c.requires.search in
    omega (arith, c.as_slice.type_inv, ap length c.as_slice.ensures, c.requires.there)

pub returns-clause-search : goal.returns-clause-search
returns-clause-search c =
    found_next c.args.index c.args.search c.as_slice.result.now c.index-as_slice-index.result c.requires.search c.as_slice.ensures c.requires.there c.index-as_slice-index.is c.if-not-owner.false
    c.in_ok-found.found c.in_ok-fixed.fixed c.in_ok-found.ensures.failing.failure c.in_ok-found.ensures.fixed c.in_ok-fixed.ensures.same
