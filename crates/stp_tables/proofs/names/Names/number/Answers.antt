use Rattle.std.proofs.Common.{◌∙◌, ap, sym, subst, rules, Some}
use Rattle.std.specs.Prelude.{bytes_eq}
use Rattle.stp_tables.proofs.FirstSight.{found_at, once_with}
use Rattle.stp_tables.proofs.NameKeys.{names_with, names_same, number_then, same_name}
use Rattle.stp_tables.specs.Names.{lists_of, with_name, number_of, AreNamedOnce}
use Rattle.stp_tables.proofs.names.Names.number.Goals as goal

-- the table stays one of names that stand there once
pub invariant_of-self-2 : goal.invariant_of-self-2
invariant_of-self-2 c = (
  search rules,
  subst AreNamedOnce (sym (names_with c.args.name.now c.self.inside.set.keys c.in_ok-key.key c.in_ok-key.ensures.items c.insert_full.new.self.keys c.in_ok-number.ensures.keys))
      (once_with bytes_eq same_name c.args.name.now (lists_of c.self.inside.set.keys) c.self.invariant.1),
)

-- the names behind the keys are those of before with this one
pub returns-clause-names : goal.returns-clause-names
returns-clause-names c =
    names_with c.args.name.now c.self.inside.set.keys c.in_ok-key.key c.in_ok-key.ensures.items c.insert_full.new.self.keys c.in_ok-number.ensures.keys
    ∙ ap (λ names. with_name names c.args.name.now) c.self.view_is

-- its number then is the place of its key
pub returns-clause-number : goal.returns-clause-number
returns-clause-number c =
    ap (λ names. number_of names c.args.name.now) (names_with c.args.name.now c.self.inside.set.keys c.in_ok-key.key c.in_ok-key.ensures.items c.insert_full.new.self.keys c.in_ok-number.ensures.keys)
    ∙ number_then c.args.name.now c.self.inside.set.keys c.in_ok-key.key c.in_ok-key.ensures.items
    ∙ ap Some (sym c.in_ok-number.ensures.index)

-- what has a number stands there
pub returns-clause-name : goal.returns-clause-name
returns-clause-name c =
    found_at bytes_eq names_same (lists_of c.insert_full.new.self.keys) c.args.name.now c.in_ok-number.number
    (ap (λ names. number_of names c.args.name.now) (names_with c.args.name.now c.self.inside.set.keys c.in_ok-key.key c.in_ok-key.ensures.items c.insert_full.new.self.keys c.in_ok-number.ensures.keys)
    ∙ number_then c.args.name.now c.self.inside.set.keys c.in_ok-key.key c.in_ok-key.ensures.items
    ∙ ap Some (sym c.in_ok-number.ensures.index))
