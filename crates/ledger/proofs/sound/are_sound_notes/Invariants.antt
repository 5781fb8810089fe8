use Rattle.std.proofs.Common.{◌≡◌, drop}
use Rattle.ledger.specs.Notes.{sound_after, sound_list}
use Rattle.ledger.proofs.sound.are_sound_notes.Given as goal

abbrev pub invariant-loop-note : goal.invariant-loop-note
invariant-loop-note l = sound_list l.issues l.notes ≡ sound_after l.issues l.last (drop l.note-index l.notes)
