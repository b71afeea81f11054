-- The invariant: what the octets from `next` on stand for, joined to what is read, is the answer; before the first octet nothing is.
use Rattle.std.proofs.Common.{◌≡◌, ◌-◌, ◌^◌, ◌<◌, drop}
use Rattle.packed.specs.Packed.{packed_at, number_in}
use Rattle.packed.proofs.LawsPacked.{read_on}
use Rattle.packed.proofs.read_packed.Given as goal

abbrev pub invariant-loop-scale : goal.invariant-loop-scale
invariant-loop-scale l = record {
  rest : read_on l.scale-index l.number (number_in (3 - l.scale-index) l.next (drop l.next l.octets)) ≡ packed_at l.octets l.at;
  none_yet : l.scale-index ≡ 0 → l.number ≡ 0;
  low : l.number < 128 ^ l.scale-index;
}
