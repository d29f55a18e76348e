use Rattle.std.proofs.Common.{◌∙◌, ap, sym, subst, rules}
use Rattle.std.specs.Prelude.{bytes_eq}
use Rattle.stp_tables.proofs.FirstSight.{once_with}
use Rattle.stp_tables.proofs.NameKeys.{names_with, new_name, same_name}
use Rattle.stp_tables.specs.Names.{lists_of, with_name, is_new_in, AreNamedOnce}
use Rattle.stp_tables.proofs.names.Names.add.Goals as goal

-- the table stays one of names that stand there once
pub invariant_of-self-2 : goal.invariant_of-self-2
invariant_of-self-2 c = (
  search rules,
  subst AreNamedOnce (sym (names_with c.args.name.now c.self.inside.set.keys c.in_ok-key.key c.in_ok-key.ensures.items c.insert.new.self.keys c.in_ok-is_new.ensures.keys))
      (once_with bytes_eq same_name c.args.name.now (lists_of c.self.inside.set.keys) c.self.invariant.1),
)

-- the names behind the keys are those of before with this one
pub returns-clause-names : goal.returns-clause-names
returns-clause-names c =
    names_with c.args.name.now c.self.inside.set.keys c.in_ok-key.key c.in_ok-key.ensures.items c.insert.new.self.keys c.in_ok-is_new.ensures.keys
    ∙ ap (λ names. with_name names c.args.name.now) c.self.view_is

pub returns-clause-added : goal.returns-clause-added
returns-clause-added c =
    c.in_ok-is_new.ensures.added
    ∙ new_name c.args.name.now c.self.inside.set.keys c.in_ok-key.key c.in_ok-key.ensures.items
    ∙ ap (λ names. is_new_in names c.args.name.now) c.self.view_is
