use Rattle.stp_strength.proofs.Moved.{moved_windows_are_sound}
use Rattle.stp_strength.proofs.laws.moved_windows_are_sound.Goals as goal

pub returns : goal.returns
returns c = moved_windows_are_sound
