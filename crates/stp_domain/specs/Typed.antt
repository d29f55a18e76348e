-- Domains that fit what they declare.
use Rattle.std.specs.Prelude.{◌≡◌, ℕ, ◌<◌, List, [], ◌∷◌, length, Ok}
use Rattle.stp_text.specs.Tree.{Tree}
use Rattle.stp_schema.specs.Rows.{Shape, Thing}
use Rattle.stp_schema.specs.Known.{Known}
use Rattle.stp_schema.specs.Schemas.{PlainTiming, Instant, Controlled, Uncertain, PlainSchema}
use Rattle.stp_schema.specs.Views.{PlainDomain}
use Rattle.stp_condition.specs.TypedConditions.{AreTypes, IsTyped}
use Rattle.stp_body.specs.TypedEffects.{AreAtomsTyped}
use Rattle.stp_body.specs.TypedDurations.{IsExpressionTyped}
use Rattle.stp_domain.specs.Reading.{domain_or_refusal}

-- what a domain declares, with its constants as the objects that are known
abbrev pub known_in : PlainDomain → Known
known_in d = record { types = d.types; parents = d.parents; predicates = d.predicates; functions = d.functions; objects = d.constants }

abbrev pub IsTimingTyped : Known → List ℕ → PlainTiming → Type 0
IsTimingTyped k kinds Instant = Unit {0}
IsTimingTyped k kinds (Controlled low high) = IsExpressionTyped k kinds low × IsExpressionTyped k kinds high
IsTimingTyped k kinds (Uncertain low high) = IsExpressionTyped k kinds low × IsExpressionTyped k kinds high

-- the parameters have types, and in their scope the bounds, the conditions and the effects are typed
pub record IsSchemaTyped (k : Known) (s : PlainSchema) : Type 0 where
  pub parameters : AreTypes k s.parameters
  pub timing : IsTimingTyped k s.parameters s.timing
  pub start_cond : IsTyped k s.parameters s.start_cond
  pub over_all : IsTyped k s.parameters s.over_all
  pub end_cond : IsTyped k s.parameters s.end_cond
  pub start_adds : AreAtomsTyped k s.parameters s.start_adds
  pub start_dels : AreAtomsTyped k s.parameters s.start_dels
  pub end_adds : AreAtomsTyped k s.parameters s.end_adds
  pub end_dels : AreAtomsTyped k s.parameters s.end_dels

abbrev pub AreSchemasTyped : Known → List PlainSchema → Type 0
AreSchemasTyped k [] = Unit {0}
AreSchemasTyped k (s ∷ ss) = IsSchemaTyped k s × AreSchemasTyped k ss

-- the parameters of predicates or functions have types
abbrev pub AreShapesTyped : Known → List Shape → Type 0
AreShapesTyped k [] = Unit {0}
AreShapesTyped k (s ∷ ss) = AreTypes k s.parameters × AreShapesTyped k ss

abbrev pub AreThingsTyped : Known → List Thing → Type 0
AreThingsTyped k [] = Unit {0}
AreThingsTyped k (t ∷ ts) = (t.kind < length k.types) × AreThingsTyped k ts

-- everything in a domain fits what it declares
pub record IsDomainTyped (d : PlainDomain) : Type 0 where
  pub predicates : AreShapesTyped (known_in d) d.predicates
  pub functions : AreShapesTyped (known_in d) d.functions
  pub constants : AreThingsTyped (known_in d) d.constants
  pub schemas : AreSchemasTyped (known_in d) d.schemas

-- a domain that is read is typed
abbrev pub ReadDomainsAreTyped : Type 0
ReadDomainsAreTyped = (t : Tree) (d : PlainDomain) → domain_or_refusal t ≡ Ok d → IsDomainTyped d
