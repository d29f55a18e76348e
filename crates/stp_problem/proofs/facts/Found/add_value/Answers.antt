use Rattle.std.proofs.Common.{refl, ap, ◌∙◌, Some, None}
use Rattle.std.specs.Prelude.{slice_get}
use Rattle.stp_frac.specs.Fractions.{value_of}
use Rattle.stp_schema.specs.declared.problem.Given.{Given}
use Rattle.stp_tables.specs.Atoms.{with_atom}
use Rattle.stp_problem.specs.Views.{atom_of_fact, state_of}
use Rattle.stp_problem.proofs.Values.{value_is, places_same, places_more}
use Rattle.stp_problem.proofs.Valued.{again, anew, more}
use Rattle.stp_problem.proofs.facts.Found.add_value.Goals as goal

pub returns-in_default-clause-read : goal.returns-in_default-clause-read
returns-in_default-clause-read c =
    let places = c.in_ok-number.ensures.atoms ∙ ap (λ ps. with_atom ps (atom_of_fact c.args.place)) c.requires in
    let given : Given = record { function = c.args.place.predicate; args = c.args.place.args; value = c.args.value } in
    anew c.args.first.now c.args.at (state_of c.args.self.now.initial c.args.self.now.values) (value_of c.args.value) (atom_of_fact c.args.place) c.args.first.now (state_of c.args.self.now.initial c.push.new.self)
    (value_is c.args.self.now.values (atom_of_fact c.args.place) c.number.new.self c.in_ok-number.number.0 None places c.in_ok-number.ensures.number (c.in_default.ensures ∙ ap (λ vs. slice_get vs c.in_ok-number.number.0) c.as_slice.ensures))
    refl
    (more c.args.self.now.initial c.args.self.now.values c.push.new.self given c.in_ok-push.ensures.ok)

pub returns-in_default-clause-places : goal.returns-in_default-clause-places
returns-in_default-clause-places c =
    let places = c.in_ok-number.ensures.atoms ∙ ap (λ ps. with_atom ps (atom_of_fact c.args.place)) c.requires in
    let given : Given = record { function = c.args.place.predicate; args = c.args.place.args; value = c.args.value } in
    rw c.in_ok-push.ensures.ok
    (places_more c.args.self.now.values (atom_of_fact c.args.place) c.number.new.self c.in_ok-number.number.0 None places c.in_ok-number.ensures.number (c.in_default.ensures ∙ ap (λ vs. slice_get vs c.in_ok-number.number.0) c.as_slice.ensures) given refl refl)

pub returns-clause-read : goal.returns-clause-read
returns-clause-read c =
    let places = c.in_ok-number.ensures.atoms ∙ ap (λ ps. with_atom ps (atom_of_fact c.args.place)) c.requires in
    again c.args.first.now c.args.at (state_of c.args.self.now.initial c.args.self.now.values) (value_of c.args.value) (atom_of_fact c.args.place) c.judge_value.new.first (state_of c.args.self.now.initial c.args.self.now.values) (value_of c.in-Some.found.value)
    (value_is c.args.self.now.values (atom_of_fact c.args.place) c.number.new.self c.in_ok-number.number.0 (Some c.in-Some.found) places c.in_ok-number.ensures.number (c.in-Some.ensures ∙ ap (λ vs. slice_get vs c.in_ok-number.number.0) c.as_slice.ensures))
    c.judge_value.ensures
    refl

pub returns-clause-places : goal.returns-clause-places
returns-clause-places c =
    let places = c.in_ok-number.ensures.atoms ∙ ap (λ ps. with_atom ps (atom_of_fact c.args.place)) c.requires in
    places_same c.args.self.now.values (atom_of_fact c.args.place) c.number.new.self c.in_ok-number.number.0 (Some c.in-Some.found) places c.in_ok-number.ensures.number (c.in-Some.ensures ∙ ap (λ vs. slice_get vs c.in_ok-number.number.0) c.as_slice.ensures) c.in-Some.found refl
