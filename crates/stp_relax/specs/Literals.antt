-- The pair of sets of atoms that two rows or a certificate stand for.
use Rattle.std.specs.Prelude.{Bool, true, false, List}
use Rattle.stp_cond.specs.Formulas.{Formulas}
use Rattle.stp_cond.specs.Truth.{state_of_row}
use Rattle.stp_task.specs.Certificates.{Pair, all_may_be, some_may_be}
use Rattle.stp_task.specs.CertificateViews.{pair_of}
use Rattle.stp_relax.specs.declared.literals.Literals.{Literals}
use Rattle.stp_relax.specs.declared.literals.Literals.TheVariants.{Listed, Rows}

abbrev pub pair_in : List Bool → List Bool → Pair
pair_in may always = record { may = state_of_row may; always = state_of_row always }

abbrev pub pair_by : Literals → Pair
pair_by (Listed lists) = pair_of lists.now
pair_by (Rows may always) = pair_in may.now always.now

-- whether all of these formulas may have a value, or some of them
abbrev pub members_may_be : Pair → Bool → Bool → Formulas → Bool
members_may_be p value true parts = all_may_be p value parts
members_may_be p value false parts = some_may_be p value parts
