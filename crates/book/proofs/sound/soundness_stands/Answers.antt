use Rattle.book.proofs.Keeps.{day_tells, entering_keeps_sound, opened_is_sound, sound_is_of_its_day, sound_with_record}
use Rattle.book.proofs.sound.soundness_stands.Goals as goal

pub returns : goal.returns
returns c = record {
  opened = opened_is_sound;
  entered = entering_keeps_sound;
  exactly = sound_with_record;
  own = sound_is_of_its_day;
  told = day_tells;
}
