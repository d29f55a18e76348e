use Rattle.std.proofs.Common.{◌≡◌, ◌<◌, length, All, ap, sym, ◌∙◌, subst, option_map}
use Rattle.stp_task.specs.Actions.{action_of, happening_of}
use Rattle.stp_cond.specs.Atoms.{set_of}
use Rattle.stp_cond.specs.Formulas.{atoms_in, view}
use Rattle.stp_cond.specs.Views.{atoms_of}
use Rattle.stp_relax.proofs.Readers.{inside_in_range, watched_end}
use Rattle.stp_relax.proofs.watching.watch.Goals as goal

pub put_all-requires-3 : goal.put_all-requires-3
put_all-requires-3 c =
    let n = length c.args.readers.now.items in
    let same : length c.put_all-2.new.readers.items ≡ n = c.in_ok-put_all-2.ensures.size ∙ c.in_ok-put_all.ensures.size in
    subst (λ m. All (λ a. a.0 < m) c.as_slice.result.now) (sym same)
    (inside_in_range n c.args.action.now.over.now c.as_slice.result.now (ap atoms_of c.as_slice.ensures ∙ c.in_ok-inside.ensures.atoms) c.requires.over)

pub returns : goal.returns
returns c =
    let over = c.args.action.now.over.now in
    let inside : atoms_of c.as_slice.result.now ≡ set_of (atoms_in (view over)) = ap atoms_of c.as_slice.ensures ∙ c.in_ok-inside.ensures.atoms in
    watched_end (action_of c.args.action.now) (happening_of c.in-Some.finish) (atoms_of c.as_slice.result.now) c.args.number c.args.readers.now.items c.put_all.new.readers.items c.put_all-2.new.readers.items c.put_all-3.new.readers.items
    (ap (option_map happening_of) c.in-Some.is) inside c.in_ok-put_all.ensures c.in_ok-put_all-2.ensures c.in_ok-put_all-3.ensures
