-- What a condition over ground atoms in an arena stands for.
use Rattle.stp_tables.specs.Atoms.{atom_with}
use Rattle.stp_instance.specs.declared.ground.Ground.{Ground}
use Rattle.stp_instance.specs.declared.ground.Ground.TheOpen.{Ground-F}
use Rattle.stp_instance.specs.declared.ground.Ground.TheFolds.{fold-Ground}
use Rattle.stp_instance.specs.Expanded.{Claim, Stated, Alike, Denied, AllOf, AnyOf, claims_of}

abbrev pub claim_step : Ground-F Claim → Claim
claim_step (Ground-F.Fact predicate args) = Stated (atom_with predicate args.now)
claim_step (Ground-F.Same one other) = Alike one.0 other.0
claim_step (Ground-F.Opposite inner) = Denied inner.now
claim_step (Ground-F.Every members) = AllOf (claims_of members.now)
claim_step (Ground-F.Any members) = AnyOf (claims_of members.now)

abbrev pub claim : Ground → Claim
claim = fold-Ground Claim claim_step
