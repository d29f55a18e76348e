use Rattle.stp_domain.proofs.Constants.{domain_fits}
use Rattle.stp_domain.proofs.laws.read_domains_fit.Goals as goal

pub returns : goal.returns
returns c = λ t d e. domain_fits t d e
