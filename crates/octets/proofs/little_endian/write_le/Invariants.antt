-- The invariant: what is left, put at the place reached, gives the whole.
use mathlib.Core.Path.{◌≡◌}
use Prim.Native.Nat.{◌-◌}
use lib.Seq.{sets}
use Rattle.octets.specs.LittleEndian.{le_octets}
use Rattle.octets.proofs.little_endian.write_le.Given as goal

abbrev pub invariant-loop-place : goal.invariant-loop-place
invariant-loop-place l =
    sets l.place-items l.place-index (le_octets (l.width - l.place-index) l.rest) ≡ sets l.initial.place-items 0 (le_octets l.width l.n)
