-- Windows have the static facts exactly where the run of their dated list executes.
use Rattle.stp_rewriting.specs.Validity.{SoundExactlyWhereValid}
use Rattle.stp_rewriting.proofs.DatedPoints.{Fits}
use Rattle.stp_rewriting.proofs.Sound.{sound_valid}
use Rattle.stp_rewriting.proofs.Valid.{valid_sound}

pub sound_exactly_where_valid : SoundExactlyWhereValid
sound_exactly_where_valid r key b numbers proper windows =
    let g : Fits r key b = record { numbers = numbers; proper = proper; windows = windows } in
    (sound_valid r key b g, valid_sound r key b g)
