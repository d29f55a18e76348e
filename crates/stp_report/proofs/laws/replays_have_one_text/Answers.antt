use Rattle.stp_report.proofs.OneText.{replays_have_one_text}
use Rattle.stp_report.proofs.laws.replays_have_one_text.Goals as goal

pub returns : goal.returns
returns c = replays_have_one_text
