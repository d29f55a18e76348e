-- The actions of a domain: the fourth phase of reading.
use Rattle.std.specs.Prelude.{ℕ, Bool, List, [], ◌∷◌, is_some}
use Rattle.stp_refusal.specs.Read.{Read, fine, map_read, cons_read}
use Rattle.stp_schema.specs.Known.{Known}
use Rattle.stp_schema.specs.Schemas.{PlainSchema}
use Rattle.stp_domain_tables.specs.Tables.{ActionShape}
use Rattle.stp_condition.specs.Whole.{scope_with}
use Rattle.stp_domain.specs.Bodies.{PlainBody, body_read}

abbrev pub schema_with : List ℕ → List ℕ → Bool → PlainBody → PlainSchema
schema_with name kinds has_condition b = record {
  name = name;
  parameters = kinds;
  timing = b.timing;
  has_condition = has_condition;
  start_cond = b.start_cond;
  over_all = b.over_all;
  end_cond = b.end_cond;
  start_adds = b.start.adds;
  start_dels = b.start.dels;
  end_adds = b.end.adds;
  end_dels = b.end.dels;
}

abbrev pub schema_read : Known → ActionShape → Read PlainSchema
schema_read k a = map_read (schema_with a.action.name a.kinds (is_some a.action.condition)) (body_read k (scope_with a.names a.kinds) a.action)

abbrev pub schemas_read : Known → List ActionShape → Read (List PlainSchema)
schemas_read k [] = fine []
schemas_read k (a ∷ as_) = cons_read (schema_read k a) (schemas_read k as_)
