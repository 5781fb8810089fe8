use Rattle.std.proofs.Common.{arith}
use Rattle.bounds.proofs.Bounds.{shared_le, size_small, weights_light}
use Rattle.bounds.proofs.Facts.{sound_facts}
use Rattle.bounds.proofs.sound_books_stand.Goals as goal

pub returns : goal.returns
returns c = record {
  valid = sound_facts;
  shared = λ r e h. (weights_light r (sound_facts r e) h, λ code. omega (arith, shared_le r (sound_facts r e) h code, size_small r (sound_facts r e) h));
}
