-- What is chosen, without pointers.
use Rattle.stp_instance.specs.Bindings.{numbers_of}
use Rattle.stp_task.specs.Durations.{plain_duration}
use Rattle.stp_instance.specs.Views.{claim}
use Rattle.stp_instance.specs.Effects.{written_atoms}
use Rattle.stp_ground.specs.declared.chosen.Chosen.{Chosen}
use Rattle.stp_ground.specs.Chosen.{PlainChosen}

abbrev pub chosen_view : Chosen → PlainChosen
chosen_view c = record {
  schema = c.schema;
  args = numbers_of c.args.now;
  duration = plain_duration c.duration;
  start_cond = claim c.start_cond;
  over_all = claim c.over_all;
  end_cond = claim c.end_cond;
  start_adds = written_atoms c.start_adds.now;
  start_dels = written_atoms c.start_dels.now;
  end_adds = written_atoms c.end_adds.now;
  end_dels = written_atoms c.end_dels.now;
}
