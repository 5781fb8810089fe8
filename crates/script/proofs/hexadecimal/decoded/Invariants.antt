use Rattle.std.proofs.Common.{◌≡◌, ◌≤◌, map, vec_items, vec_len, vec_capacity}
use Rattle.std.specs.List.{range_with_len}
use Rattle.script.specs.Digits.{hex_byte}
use Rattle.script.proofs.hexadecimal.decoded.Given as goal

abbrev pub invariant-loop-index : goal.invariant-loop-index
invariant-loop-index l = (vec_items l.bytes ≡ map (hex_byte l.digits) (range_with_len 0 l.index)) × (vec_len l.bytes ≡ l.index) × (l.count ≤ vec_capacity l.bytes)
