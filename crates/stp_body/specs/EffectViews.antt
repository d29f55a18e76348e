-- Effects without pointers.
use Rattle.stp_text.specs.Tree.{views}
use Rattle.stp_schema.specs.Formula.{atoms_of}
use Rattle.stp_body.specs.declared.form.Written.{Written}
use Rattle.stp_body.specs.declared.effect.Effects.{Effects}
use Rattle.stp_body.specs.declared.gather.Gathered.{Gathered}
use Rattle.stp_body.specs.declared.timed.TimedEffects.{TimedEffects}
use Rattle.stp_body.specs.declared.timed.TimedGathered.{TimedGathered}
use Rattle.stp_body.specs.Forms.{WrittenAtom}
use Rattle.stp_body.specs.Effects.{PlainEffects}
use Rattle.stp_body.specs.TimedEffects.{PlainTimedEffects}

abbrev pub written_of : Written → WrittenAtom
written_of w = record { at = w.at; name = w.name.now; items = views w.items.now }

abbrev pub effects_of : Effects → PlainEffects
effects_of e = record { adds = atoms_of e.adds.now; dels = atoms_of e.dels.now }

abbrev pub gathered_of : Gathered → PlainEffects
gathered_of g = record { adds = atoms_of g.adds; dels = atoms_of g.dels }

abbrev pub timed_effects_of : TimedEffects → PlainTimedEffects
timed_effects_of e = record { start = effects_of e.start; end = effects_of e.end }

abbrev pub timed_gathered_of : TimedGathered → PlainTimedEffects
timed_gathered_of g = record { start = gathered_of g.start; end = gathered_of g.end }
