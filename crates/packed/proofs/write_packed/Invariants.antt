-- The invariant: what is left, put at the place reached, gives the whole.
use mathlib.Core.Path.{◌≡◌}
use Prim.Native.Nat.{◌+◌, ◌≤◌}
use lib.ListN.{length}
use lib.Seq.{sets}
use Rattle.octets.specs.Writing.{Wrote}
use Rattle.packed.specs.Packed.{packed, max_packed}
use Rattle.packed.proofs.write_packed.Given as goal

abbrev pub invariant-loop-rest : goal.invariant-loop-rest
invariant-loop-rest l =
    (l.rest ≤ max_packed) × (length l.out ≡ length l.initial.out) × Wrote l.initial.out (sets l.out l.to (packed l.rest)) l.at (l.to + length (packed l.rest)) (packed l.n)

abbrev pub decreases-loop-rest : goal.decreases-loop-rest
decreases-loop-rest l =
    l.rest
