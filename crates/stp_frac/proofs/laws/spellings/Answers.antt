use Rattle.stp_frac.proofs.Spellings.{spellings_are_found, found_spellings_are_the_texts}
use Rattle.stp_frac.proofs.laws.spellings.Goals as goal

pub returns-clause-found : goal.returns-clause-found
returns-clause-found c = spellings_are_found

pub returns-clause-same : goal.returns-clause-same
returns-clause-same c = found_spellings_are_the_texts
