use Rattle.stp_window.proofs.Swept.{swept_given, met_answered}
use Rattle.stp_window.proofs.sweeping.meeting_windows.Goals as goal

pub meeting_among-requires : goal.meeting_among-requires
meeting_among-requires c =
    swept_given c.args.windows.now c.in_ok-ordered.ordered.items c.deref.result.now c.deref-2.result.now c.in_ok-mentions.mentions.items c.by_atoms.new.mentions.items c.deref-3.result.now c.in_ok-mentions.ensures.few c.in_ok-ordered.ensures.same c.in_ok-ordered.ensures.ordered
    c.deref.ensures.value c.in_ok-mentions.ensures.all c.in_ok-by_atoms.ensures.same c.in_ok-by_atoms.ensures.ordered c.deref-2.ensures.value c.deref-3.ensures.value

pub returns : goal.returns
returns c =
    met_answered c.args.windows.now c.in_ok-ordered.ordered.items c.deref.result.now c.deref-2.result.now c.in_ok-mentions.mentions.items c.by_atoms.new.mentions.items c.deref-3.result.now c.in_ok-ordered.ensures.same c.deref.ensures.value c.in_ok-mentions.ensures.all
    c.in_ok-by_atoms.ensures.same c.deref-2.ensures.value c.deref-3.ensures.value c.meeting_among.result c.meeting_among.ensures
