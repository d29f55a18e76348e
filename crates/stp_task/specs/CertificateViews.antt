-- The pair that a certificate stands for.
use Rattle.stp_cond.specs.Atoms.{has}
use Rattle.stp_cond.specs.Views.{atoms_of}
use Rattle.stp_task.specs.declared.certificate.Certificate.{Certificate}
use Rattle.stp_task.specs.Certificates.{Pair}

abbrev pub pair_of : Certificate → Pair
pair_of c = record { may = has (atoms_of c.may); always = has (atoms_of c.always) }
