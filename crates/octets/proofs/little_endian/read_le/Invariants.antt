-- The invariant: what is read so far is the number of the octets behind those that are left.
use mathlib.Core.Path.{◌≡◌}
use mathlib.Core.List.{List, ◌++◌}
use Prim.Native.Nat.{ℕ}
use lib.ListN.{take, drop}
use Rattle.std.specs.Slice.Iter.{iter_rest}
use Rattle.std.specs.Iterator.Adapters.{rev_source}
use Rattle.octets.specs.LittleEndian.{le}
use Rattle.octets.proofs.little_endian.read_le.Given as goal

abbrev pub invariant-loop-octet : goal.invariant-loop-octet
invariant-loop-octet l =
    (goal.iterator-loop-octet).can_next l.octet-iterator ×
    (goal.iterator-loop-octet).is_finite l.octet-iterator ×
    ((read : List ℕ) × (take l.width (drop l.at l.octets) ≡ iter_rest (rev_source l.octet-iterator) ++ read) × (l.n ≡ le read))
