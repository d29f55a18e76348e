use Rattle.stp_problem.proofs.Putting.{put_is}
use Rattle.stp_problem.proofs.times.add_time.Goals as goal

pub returns-in_ok-insert : goal.returns-in_ok-insert
returns-in_ok-insert c = put_is c.insert.new.self.items c.args.times.now.items c.as_slice.result.now c.in-Some.place c.args.time c.in_ok-insert.ensures.items c.as_slice.ensures.value c.in-Some.ensures.place
