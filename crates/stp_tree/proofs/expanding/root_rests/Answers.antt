use Rattle.stp_tree.proofs.Children.{met_root}
use Rattle.stp_tree.proofs.expanding.root_rests.Goals as goal

pub returns : goal.returns
returns g c =
    let t = c.args.space.now in
    met_root (g.S.Space.state t) (g.S.Space.path c.args.root.now) (g.S.Space.met c.no_rests-rests.result) (g.S.Space.met c.is_new.new.rests) c.in_ok-is_new.field-0 c.no_rests-rests.ensures c.in_ok-is_new.ensures
