-- What heads stand for.
use Rattle.stp_text.specs.Tree.{views}
use Rattle.stp_domain_tables.specs.declared.head.Head.{Head as FoundHead}
use Rattle.stp_domain_tables.specs.Heads.{Head}

abbrev pub head_in : FoundHead → Head
head_in h = record { at = h.at; name_at = h.name_at; name = h.name.now; parameters = views h.parameters.now }
