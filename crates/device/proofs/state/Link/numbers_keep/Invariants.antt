-- The invariant: what is left is as the whole.
use mathlib.Core.Path.{◌≡◌}
use Prim.Native.Nat.{◌-◌}
use lib.ListN.{get_or}
use Rattle.octets.specs.Scanning.{all_from}
use Rattle.property.specs.Number.{number_at, within, slot_count}
use Rattle.device.specs.Rules.{in_range}
use Rattle.device.proofs.state.Link.numbers_keep.Given as goal

abbrev pub invariant-loop-slot : goal.invariant-loop-slot
invariant-loop-slot l =
    in_range l.self.numbers ≡ all_from (λ k. within (number_at k) (get_or l.self.numbers k 0)) l.slot (slot_count - l.slot)
