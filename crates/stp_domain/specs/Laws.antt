-- What is read of a domain's tree without a refusal.
use Rattle.std.specs.Prelude.{◌≡◌, Ok}
use Rattle.stp_text.specs.Tree.{Tree}
use Rattle.stp_schema.specs.Views.{PlainDomain}
use Rattle.stp_domain_tables.specs.Objects.{HasLawfulConstants}
use Rattle.stp_domain.specs.Reading.{domain_or_refusal}

-- the constants of a domain have types of its own, and each name stands once
abbrev pub ReadDomainsFit : Type 0
ReadDomainsFit = (t : Tree) (d : PlainDomain) → domain_or_refusal t ≡ Ok d → HasLawfulConstants d
